-- There are links for each template, and what it depends on and renders is among the templates.
use Rattle.std.proofs.Common.{◌≡◌, ℕ, zero, suc, ◌+◌, ◌<◌, ◌≤◌, Bool, true, false, cond, List, [], ◌∷◌, length, map, Some, None, Result, Ok, Err, IfOk, nat_lt, refl, ap, subst, arith}
use Rattle.std.specs.List.{AllByRecursion, filter, position_or_len, range_with_len, zip}
use Rattle.std.specs.Option.{ok_or}
use Rattle.std.specs.Str.{bytes_eq}
use Rattle.std.proofs.lemmas.Bool.{ltb-true}
use Rattle.std.proofs.lemmas.List.{length-map}
use Rattle.doll_text.specs.Steps.{◌>>=◌}
use Rattle.doll_set.specs.Dependencies.{AreBelow, AreLinksBelow, all_links, distinct, each_made, links_of, named_by, names_of, number_named, partial_path, rendered, tags_of}
use Rattle.doll_set.specs.declared.dependencies.PartialTag.{PartialTag}
use Rattle.doll_set.specs.declared.dependencies.Links.{Links}
use Rattle.doll_set.specs.declared.fault.SetFault.{SetFault}
use Rattle.doll_set.specs.declared.fault.SetFault.TheVariants.{MissingPartial}
use Rattle.doll_set.specs.declared.template.Template.{Template}

module _ {X Y F : Type 0} (make : X → Result Y F) where
  -- what holds of each that is made holds of all
  all_hold : (P : Y → Type 0) → ((x : X) → IfOk (make x) P) → (xs : List X) → IfOk (each_made make xs) (AllByRecursion P)
  all_hold P holds [] = tt
  all_hold P holds (x ∷ xs) = by (make x) (each_made make xs) (holds x) (all_hold P holds xs)
    where
      by : (r : Result Y F) (rs : Result (List Y) F) → IfOk r P → IfOk rs (AllByRecursion P) → IfOk (r >>= (λ y. rs >>= (λ ys. Ok (y ∷ ys)))) (AllByRecursion P)
      by (Ok y) (Ok ys) one more = (one, more)
      by (Ok y) (Err fault) one more = tt
      by (Err fault) rs one more = tt

  as_many : (xs : List X) → IfOk (each_made make xs) (λ ys. length ys ≡ length xs)
  as_many [] = refl
  as_many (x ∷ xs) = by (make x) (each_made make xs) (as_many xs)
    where
      by : (r : Result Y F) (rs : Result (List Y) F) → IfOk rs (λ ys. length ys ≡ length xs) → IfOk (r >>= (λ y. rs >>= (λ ys. Ok (y ∷ ys)))) (λ ys. length ys ≡ suc (length xs))
      by (Ok y) (Ok ys) more = ap suc more
      by (Ok y) (Err fault) more = tt
      by (Err fault) rs more = tt

number_below : (names : List (List ℕ)) (template : List ℕ) (tag : PartialTag) → IfOk (number_named names template tag) (λ number. number < length names)
number_below names template tag = by (nat_lt place (length names)) refl
  where
    place : ℕ
    place = position_or_len (bytes_eq (partial_path template tag.name)) names

    by : (b : Bool) → nat_lt place (length names) ≡ b → IfOk (ok_or (cond b (Some place) None) (MissingPartial template tag.at)) (λ number. number < length names)
    by true within = ltb-true place (length names) within
    by false within = tt

kept_below : (p : ℕ → Bool) (from more count : ℕ) → from + more ≤ count → AreBelow count (filter p (range_with_len from more))
kept_below p from zero count fits = tt
kept_below p from (suc more) count fits = by (p from) (kept_below p (from + 1) more count (omega arith))
  where
    by : (b : Bool) → AreBelow count (filter p (range_with_len (from + 1) more)) → AreBelow count (cond b (from ∷ filter p (range_with_len (from + 1) more)) (filter p (range_with_len (from + 1) more)))
    by true all = (omega arith, all)
    by false all = all

rendered_below : (count : ℕ) (tags : List PartialTag) (numbers : List ℕ) → AreBelow count numbers → AreBelow count (rendered tags numbers)
rendered_below count [] numbers all = tt
rendered_below count (tag ∷ tags) [] all = tt
rendered_below count (tag ∷ tags) (number ∷ numbers) all = by tag.renders (rendered_below count tags numbers all.1)
  where
    by : (b : Bool) → AreBelow count (rendered tags numbers) → AreBelow count (map (λ (one : PartialTag × ℕ). one.1) (cond b ((tag, number) ∷ filter (λ (one : PartialTag × ℕ). one.0.renders) (zip tags numbers)) (filter (λ (one : PartialTag × ℕ). one.0.renders) (zip tags numbers))))
    by true more = (all.0, more)
    by false more = more

links_below : (names : List (List ℕ)) (template : Template) → IfOk (links_of names template) (AreLinksBelow (length names))
links_below names template = by (named_by names template.name tags) (all_hold (number_named names template.name) (λ n. n < length names) (number_below names template.name) tags)
  where
    tags : List PartialTag
    tags = tags_of template.tree

    by : (r : Result (List ℕ) SetFault) → IfOk r (AreBelow (length names)) → IfOk (r >>= (λ numbers. Ok (record { dependencies = distinct (length names) numbers; rendered = rendered tags numbers }))) (AreLinksBelow (length names))
    by (Ok numbers) all = (kept_below _ 0 (length names) (length names) (omega arith), rendered_below (length names) tags numbers all)
    by (Err fault) all = tt

pub all_closed : (templates some : List Template) (links : List Links) → all_links templates some ≡ Ok links → AllByRecursion (AreLinksBelow (length templates)) links
all_closed templates some links is =
    subst (λ count. AllByRecursion (AreLinksBelow count) links) (length-map templates (λ (t : Template). t.name))
    (subst (λ r. IfOk r (AllByRecursion (AreLinksBelow (length (names_of templates))))) is
    (all_hold (links_of (names_of templates)) (AreLinksBelow (length (names_of templates))) (links_below (names_of templates)) some))

pub links_of_each : (templates some : List Template) (links : List Links) → all_links templates some ≡ Ok links → length links ≡ length some
links_of_each templates some links is = subst (λ r. IfOk r (λ ls. length ls ≡ length some)) is (as_many (links_of (names_of templates)) some)
