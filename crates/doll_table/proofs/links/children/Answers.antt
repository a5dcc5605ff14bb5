use Rattle.std.proofs.Common.{◌≡◌, ℕ, List, [], ◌∷◌, map, length, Some, None, sym, ap, ◌∙◌, arith}
use Rattle.std.specs.Prelude.{option_and_then}
use Rattle.std.specs.Option.{option_map_or}
use Rattle.std.specs.Ordering.{nat_cmp}
use Rattle.std.specs.FinMap as finite
use Rattle.doll_pages.specs.Slots.{slot}
use Rattle.doll_table.specs.Ids.{IdSet}
use Rattle.doll_table.specs.Links.{LinkMaps, linked}
use Rattle.doll_table.proofs.links.children.Goals as goal

no_keys : [] ≡ finite.keys (let none : IdSet = finite.empty in none)
no_keys = of_length (finite.entries {R = nat_cmp} finite.empty) (sym (finite.len-entries {R = nat_cmp} finite.empty) ∙ finite.len-empty nat_cmp (Unit {0}))
  where
    of_length : (es : List (ℕ × Unit {0})) → length es ≡ 0 → [] ≡ map (λ (e : ℕ × Unit {0}). e.0) es
    of_length [] h = λ i. []
    of_length (e ∷ es) h = absurd (omega arith)

no_place : (links : LinkMaps) (place parent : ℕ) → None ≡ slot links place → [] ≡ finite.keys (linked links place parent)
no_place links place parent none = no_keys ∙ ap (λ o. finite.keys (option_map_or (λ ids. ids) (option_and_then (λ (part : finite.FinMap nat_cmp IdSet). finite.get part parent) o) finite.empty)) none

no_parent : (links : LinkMaps) (place parent : ℕ) (parents : finite.FinMap nat_cmp IdSet) → Some parents ≡ slot links place → None ≡ finite.get parents parent → [] ≡ finite.keys (linked links place parent)
no_parent links place parent parents some none =
    no_keys ∙ (ap (λ o. finite.keys (option_map_or (λ ids. ids) o finite.empty)) none ∙ ap (λ o. finite.keys (option_map_or (λ ids. ids) (option_and_then (λ (part : finite.FinMap nat_cmp IdSet). finite.get part parent) o) finite.empty)) some)

pub returns-in_default : goal.returns-in_default
returns-in_default c = no_place c.args.links.now c.args.place c.args.parent c.in_default.ensures

pub returns-in-None : goal.returns-in-None
returns-in-None c = no_parent c.args.links.now c.args.place c.args.parent c.in-Some.parents.now c.in-Some.ensures c.in-None.ensures
