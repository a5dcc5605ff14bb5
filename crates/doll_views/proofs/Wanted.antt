-- Files that are wanted, each name once.
use Rattle.std.proofs.Common.{◌≡◌, ℕ, Bool, true, false, not, ◌||◌, true≢false, List, [], ◌∷◌, ◌++◌, map, if◌then◌else◌, refl, ap, sym, ◌∙◌, rules}
use Rattle.std.specs.Prelude.{fold}
use Rattle.std.specs.Cmp.{IsTotalOrder}
use Rattle.std.specs.Cmp.Rules.{comparing}
use Rattle.std.specs.List.{insert, list_any, prefix_len}
use Rattle.std.specs.Str.{bytes_eq}
use Rattle.std.proofs.lemmas.List.{map-append}
use Rattle.std.proofs.lemmas.List.Sums.{fold-append}
use Rattle.std.proofs.lemmas.List.Sorted.{IsPermutation-insert, list_any-IsPermutation}
use Rattle.doll_set.specs.Order.{isnt_above}
use Rattle.doll_digest.specs.Registries.{name_added}
use Rattle.doll_views.specs.Files.{wanted_names}
use Rattle.doll_views.specs.Views.{file_order, has_name, in_folder, in_place, put_named, put_once}
use Rattle.doll_views.specs.declared.views.NamedFile.{NamedFile}

pub file_total : IsTotalOrder file_order
file_total = search (comparing, rules) depth 14

pub put_last : (files : List NamedFile) (file : NamedFile) → in_place (files ++ file ∷ []) ≡ put_named (in_place files) file
put_last files file = fold-append put_named [] files (file ∷ [])

-- a name is among files in their order where it is among them
one_put : (files : List NamedFile) (file : NamedFile) (name : List ℕ) → has_name (put_named files file) name ≡ (bytes_eq name file.name || has_name files name)
one_put files file name =
    let at = prefix_len (λ (f : NamedFile). isnt_above f.name file.name) files in
    sym (list_any-IsPermutation (λ (f : NamedFile). bytes_eq name f.name) (file ∷ files) (insert files at file) (IsPermutation-insert files at file))

either : (a b c : Bool) → ((a || b) || c) ≡ (b || (a || c))
either true true c = refl
either true false c = refl
either false true c = refl
either false false c = refl

among_from : (done files : List NamedFile) (name : List ℕ) → has_name (fold put_named done files) name ≡ (has_name done name || list_any (bytes_eq name) (wanted_names files))
among_from done [] name = right (has_name done name)
  where
    right : (b : Bool) → b ≡ (b || false)
    right true = refl
    right false = refl
among_from done (file ∷ files) name =
    among_from (put_named done file) files name
    ∙ ap (λ b. b || list_any (bytes_eq name) (wanted_names files)) (one_put done file name)
    ∙ either (bytes_eq name file.name) (has_name done name) (list_any (bytes_eq name) (wanted_names files))

among : (files : List NamedFile) (name : List ℕ) → has_name (in_place files) name ≡ list_any (bytes_eq name) (wanted_names files)
among files name = among_from [] files name

once_by : (files : List NamedFile) (name : List ℕ) (b : Bool) → list_any (bytes_eq name) (wanted_names files) ≡ b → put_once (in_place files) (in_folder name) ≡ (if b then in_place files else put_named (in_place files) (in_folder name))
once_by files name b e = ap (λ c. if c then in_place files else put_named (in_place files) (in_folder name)) (among files name ∙ e)

-- a name that is there adds no file
pub wanted_before : (files : List NamedFile) (names : List (List ℕ)) (name : List ℕ) → names ≡ wanted_names files → not (list_any (bytes_eq name) names) ≡ false → in_place files ≡ put_once (in_place files) (in_folder name)
wanted_before files names name are told = sym (once_by files name true (ap (list_any (bytes_eq name)) (sym are) ∙ turned (list_any (bytes_eq name) names) told))
  where
    turned : (b : Bool) → not b ≡ false → b ≡ true
    turned true e = refl
    turned false e = absurd (true≢false e)

-- another adds one
pub one_more_wanted : (files more : List NamedFile) (names : List (List ℕ)) (name : List ℕ) → names ≡ wanted_names files → not (list_any (bytes_eq name) names) ≡ true → more ≡ files ++ in_folder name ∷ []
    → in_place more ≡ put_once (in_place files) (in_folder name)
one_more_wanted files more names name are told is =
    ap in_place is ∙ put_last files (in_folder name) ∙ sym (once_by files name false (ap (list_any (bytes_eq name)) (sym are) ∙ turned (list_any (bytes_eq name) names) told))
  where
    turned : (b : Bool) → not b ≡ true → b ≡ false
    turned true e = absurd (true≢false (sym e))
    turned false e = refl

-- the names that were seen, likewise
pub seen_before : (names : List (List ℕ)) (name : List ℕ) → not (list_any (bytes_eq name) names) ≡ false → name_added names name ≡ names
seen_before names name told = by (list_any (bytes_eq name) names) told
  where
    by : (b : Bool) → not b ≡ false → (if b then names else names ++ name ∷ []) ≡ names
    by true e = refl
    by false e = absurd (true≢false e)

pub one_more_seen : (names : List (List ℕ)) (name : List ℕ) → not (list_any (bytes_eq name) names) ≡ true → name_added names name ≡ names ++ name ∷ []
one_more_seen names name told = by (list_any (bytes_eq name) names) told
  where
    by : (b : Bool) → not b ≡ true → (if b then names else names ++ name ∷ []) ≡ names ++ name ∷ []
    by true e = absurd (true≢false (sym e))
    by false e = refl
