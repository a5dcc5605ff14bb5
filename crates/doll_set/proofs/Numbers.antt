-- The numbers of names.
use Rattle.std.proofs.Common.{◌≡◌, ℕ, zero, suc, ◌+◌, ◌<◌, Bool, true, false, true≢false, ◌||◌, List, [], ◌∷◌, ◌++◌, map, length, take, get_or, position, nat_lt, cond, Some, None, if◌then◌else◌, refl, ap, sym, ◌∙◌, arith}
use Rattle.std.specs.List.{AllByRecursion, IsDistinct, list_any, position_or_len}
use Rattle.std.specs.Str.{bytes_eq}
use Rattle.std.proofs.lemmas.List.{length-map, take_more}
use Rattle.std.proofs.lemmas.Slice.Eq.{bytes_eq-Decides}
use Rattle.doll_digest.specs.Registries.{name_added}
use Rattle.doll_digest.proofs.Names.{number_seen}
use Rattle.doll_set.specs.Dependencies.{number_of}

pub place_seen : {A : Type 0} (v : A → List ℕ) (name : List ℕ) (xs : List A) → position (λ x. bytes_eq name (v x)) xs ≡ number_of (map v xs) name
place_seen v name xs =
    ap (λ n. cond (nat_lt n (length xs)) (Some n) None) (number_seen v name xs)
    ∙ ap (λ long. cond (nat_lt (position_or_len (bytes_eq name) (map v xs)) long) (Some (position_or_len (bytes_eq name) (map v xs))) None) (sym (length-map xs v))

apart : (a b : List ℕ) → bytes_eq a b ≡ false → bytes_eq b a ≡ false
apart a b e = by (bytes_eq b a) refl
  where
    by : (c : Bool) → bytes_eq b a ≡ c → bytes_eq b a ≡ false
    by true same = absurd (true≢false (sym ((bytes_eq-Decides a b).1 (sym ((bytes_eq-Decides b a).0 same))) ∙ e))
    by false differ = differ

at_each : (P : List ℕ → Type 0) (xs : List (List ℕ)) (at : ℕ) → at < length xs → AllByRecursion P xs → P (get_or xs at [])
at_each P [] at within all = absurd (omega arith)
at_each P (x ∷ xs) zero within all = all.0
at_each P (x ∷ xs) (suc at) within all = at_each P xs at (omega arith) all.1

-- of distinct names none stands before itself
fresh : (names : List (List ℕ)) (at : ℕ) → at < length names → IsDistinct bytes_eq names → list_any (bytes_eq (get_or names at [])) (take at names) ≡ false
unfolding IsDistinct
fresh [] at within distinct = absurd (omega arith)
fresh (name ∷ names) zero within distinct = refl
fresh (name ∷ names) (suc at) within distinct =
    ap (λ b. b || list_any (bytes_eq (get_or names at [])) (take at names)) (apart name (get_or names at []) (at_each (λ other. bytes_eq name other ≡ false) names at (omega arith) distinct.0))
    ∙ fresh names at (omega arith) distinct.1

-- distinct names, entered one after another, are all entered
pub one_entered : (names before after : List (List ℕ)) (at : ℕ) (name : List ℕ) → IsDistinct bytes_eq names → at < length names → name ≡ get_or names at [] → before ≡ take at names → after ≡ name_added before name → after ≡ take (at + 1) names
one_entered names before after at name distinct within is so_far enters =
    enters
    ∙ ap (λ ns. name_added ns name) so_far
    ∙ ap (name_added (take at names)) is
    ∙ ap (λ b. if b then take at names else take at names ++ get_or names at [] ∷ []) (fresh names at within distinct)
    ∙ sym (take_more names at [] within)
