-- Each partial that a tag of a template names is among what the template depends on.
use Rattle.std.proofs.Common.{◌≡◌, ℕ, zero, suc, ◌<◌, ◌==◌, Bool, true, false, cond, ◌||◌, List, [], ◌∷◌, length, Option, Some, None, Result, Ok, Err, nat_lt, refl, ap, sym, subst, ◌∙◌, arith}
use Rattle.std.specs.Prelude.{slice_get, position, ⊤}
use Rattle.std.specs.List.{AllByRecursion, Contains, list_any, position_or_len}
use Rattle.std.specs.Option.{ok_or, option_map_or}
use Rattle.std.proofs.lemmas.Bool.{ltb-true}
use Rattle.std.proofs.lemmas.Bool.Decides.{nat_tests}
use Rattle.doll_text.specs.Steps.{◌>>=◌, ◌>>◌}
use Rattle.doll_graph.specs.Graphs.{dependencies}
use Rattle.doll_set.specs.declared.dependencies.Links.{Links}
use Rattle.doll_set.specs.declared.dependencies.PartialTag.{PartialTag}
use Rattle.doll_set.specs.declared.fault.SetFault.{SetFault}
use Rattle.doll_set.specs.declared.fault.SetFault.TheVariants.{MissingPartial}
use Rattle.doll_set.specs.declared.template.Template.{Template}
use Rattle.doll_set.specs.Dependencies.{all_links, distinct, each_made, graph_of, links_of, named_by, names_of, number_named, partial_of, rendered, tags_of}
use Rattle.doll_set.specs.Digests.{name_at}
use Rattle.doll_set.specs.Sets.{TagsAreDependencies, fit, linked}
use Rattle.doll_set.proofs.Layered.{each_passing}

-- ---- lists

ok_same : {X F : Type 0} {x y : X} → (let r : Result X F = Ok x in r ≡ Ok y) → x ≡ y
ok_same e = cc

some_same : {X : Type 0} {x y : X} → Some x ≡ Some y → x ≡ y
some_same e = cc

none_among : {X : Type 0} {C : Type 0} (x : X) → Contains [] x → C
none_among x h = absurd (omega (arith, h.1))

pub get_of : {X : Type 0} (xs : List X) (x : X) → Contains xs x → (k : ℕ) × (slice_get xs k ≡ Some x)
get_of [] x h = none_among x h
get_of (y ∷ xs) x (zero, within, is) = (0, ap Some is)
get_of (y ∷ xs) x (suc k, within, is) =
    let more = get_of xs x (k, omega (arith, within), is) in
    (suc more.0, more.1)

pub get_among : {X : Type 0} (xs : List X) (k : ℕ) (x : X) → slice_get xs k ≡ Some x → Contains xs x
get_among [] k x e = absurd (cc e)
get_among (y ∷ xs) zero x e = (0, omega arith, some_same e)
get_among (y ∷ xs) (suc k) x e =
    let more = get_among xs k x e in
    (suc more.0, omega (arith, more.1), more.2)

all_among : {X : Type 0} (whole xs : List X) → ((x : X) → Contains xs x → Contains whole x) → AllByRecursion (Contains whole) xs
all_among whole [] each = tt
all_among whole (x ∷ xs) each = (each x (0, omega arith, refl), all_among whole xs (λ y h. each y (suc h.0, omega (arith, h.1), h.2)))

-- what is made of the thing with a number stands at it
made_at : {X Y F : Type 0} (make : X → Result Y F) (xs : List X) (ys : List Y) (n : ℕ) (x : X) → each_made make xs ≡ Ok ys → slice_get xs n ≡ Some x → (y : Y) × (make x ≡ Ok y) × (slice_get ys n ≡ Some y)
made_at make [] ys n x e is = absurd (cc is)
made_at {X} {Y} {F} make (z ∷ xs) ys n x e is = by (make z) refl (each_made make xs) refl n is e (λ more m there made. made_at make xs more m x made there)
  where
    by : (r : Result Y F) → make z ≡ r → (rs : Result (List Y) F) → each_made make xs ≡ rs → (n : ℕ) → slice_get (z ∷ xs) n ≡ Some x → (r >>= (λ y. rs >>= (λ more. Ok (y ∷ more)))) ≡ Ok ys
        → ((more : List Y) (m : ℕ) → slice_get xs m ≡ Some x → each_made make xs ≡ Ok more → (y : Y) × (make x ≡ Ok y) × (slice_get more m ≡ Some y))
        → (y : Y) × (make x ≡ Ok y) × (slice_get ys n ≡ Some y)
    by (Err f) made rs mades n is e later = absurd (cc e)
    by (Ok y) made (Err f) mades n is e later = absurd (cc e)
    by (Ok y) made (Ok more) mades zero is e later = (y, ap make (sym (some_same is)) ∙ made, ap (λ l. slice_get l 0) (sym (ok_same e)))
    by (Ok y) made (Ok more) mades (suc m) is e later =
        let found = later more m is mades in
        (found.0, found.1, ap (λ l. slice_get l (suc m)) (sym (ok_same e)) ∙ found.2)

any_at : (d : ℕ) (numbers : List ℕ) (k : ℕ) → slice_get numbers k ≡ Some d → list_any (λ other. d == other) numbers ≡ true
any_at d [] k e = absurd (cc e)
any_at d (n ∷ numbers) zero e = subst (λ m. ((d == m) || list_any (λ other. d == other) numbers) ≡ true) (sym (some_same e)) (grind (arith, nat_tests))
any_at d (n ∷ numbers) (suc k) e = either (d == n) (list_any (λ other. d == other) numbers) (any_at d numbers k e)
  where
    either : (a b : Bool) → b ≡ true → (a || b) ≡ true
    either true b e = refl
    either false b e = e

-- ---- links

pub links_all : (templates : List Template) (links : List Links) → linked templates ≡ Ok links → all_links templates templates ≡ Ok links
unfolding linked
links_all templates links e = by (all_links templates templates) e
  where
    by : (r : Result (List Links) SetFault) → (r >>= (λ ls. fit templates ls >> Ok ls)) ≡ Ok links → r ≡ Ok links
    by (Err f) e = absurd (cc e)
    by (Ok ls) e = ap Ok (after (fit templates ls) e)
      where
        after : (r : Result ⊤ SetFault) → (let all : Result (List Links) SetFault = r >> Ok ls in all ≡ Ok links) → ls ≡ links
        after (Ok x) e = ok_same e
        after (Err f) e = absurd (cc e)

pub name_is : (templates : List Template) (n : ℕ) (t : Template) → slice_get templates n ≡ Some t → name_at templates n ≡ t.name
name_is [] n t e = absurd (cc e)
name_is (u ∷ templates) zero t e = ap (λ (v : Template). v.name) (some_same e)
name_is (u ∷ templates) (suc n) t e = name_is templates n t e

links_at : (links : List Links) (n : ℕ) (l : Links) → slice_get links n ≡ Some l → dependencies (graph_of links) n ≡ l.dependencies
links_at [] n l e = absurd (cc e)
links_at (k ∷ links) zero l e = ap (λ (v : Links). v.dependencies) (some_same e)
links_at (k ∷ links) (suc n) l e = links_at links n l e

pub position_within : {X : Type 0} (test : X → Bool) (xs : List X) (d : ℕ) → position test xs ≡ Some d → d < length xs
position_within test xs d e = by (nat_lt (position_or_len test xs) (length xs)) refl e
  where
    by : (b : Bool) → nat_lt (position_or_len test xs) (length xs) ≡ b → cond b (Some (position_or_len test xs)) None ≡ Some d → d < length xs
    by true within e = subst (λ n. n < length xs) (some_same e) (ltb-true (position_or_len test xs) (length xs) within)
    by false within e = absurd (cc e)

-- the number of a tag's partial is among the links of its template
tag_depends : (names : List (List ℕ)) (t : Template) (l : Links) (tag : PartialTag) (d : ℕ) → links_of names t ≡ Ok l → Contains (tags_of t.tree) tag → partial_of names t.name tag.name ≡ Some d → Contains l.dependencies d
tag_depends names t l tag d e among is = by (named_by names t.name (tags_of t.tree)) refl e
  where
    by : (r : Result (List ℕ) SetFault) → named_by names t.name (tags_of t.tree) ≡ r → (r >>= (λ numbers. Ok (record { dependencies = distinct (length names) numbers; rendered = rendered (tags_of t.tree) numbers }))) ≡ Ok l → Contains l.dependencies d
    by (Err f) made e = absurd (cc e)
    by (Ok numbers) made e =
        let place = get_of (tags_of t.tree) tag among in
        let found = made_at (number_named names t.name) (tags_of t.tree) numbers place.0 tag made place.1 in
        let same : d ≡ found.0 = ok_same (ap (λ o. ok_or o (MissingPartial t.name tag.at)) (sym is) ∙ found.1) in
        let once : List ℕ = distinct (length names) numbers in
        subst (λ (v : Links). Contains v.dependencies d) (ok_same e)
        (each_passing (Contains once) (λ number. list_any (λ other. number == other) numbers) 0 (length names) d (all_among once once (λ x h. h))
        (omega arith) (omega (arith, position_within _ names d is)) (any_at d numbers place.0 (found.2 ∙ ap Some (sym same))))

-- ---- sets

pub tags_depend : TagsAreDependencies
tags_depend templates graph digests s number tag d among is = by (slice_get templates number) refl among
  where
    by : (o : Option Template) → slice_get templates number ≡ o → Contains (tags_of (option_map_or (λ (t : Template). t.tree) o [])) tag → Contains (dependencies graph number) d
    by None there h = none_among tag h
    by (Some t) there h =
        let found = made_at (links_of (names_of templates)) templates s.links number t (links_all templates s.links s.linked_so) there in
        subst (λ ds. Contains ds d) (sym (ap (λ g. dependencies g number) s.graph_is ∙ links_at s.links number found.0 found.2))
        (tag_depends (names_of templates) t found.0 tag d found.1 h (ap (λ n. partial_of (names_of templates) n tag.name) (sym (name_is templates number t there)) ∙ is))
