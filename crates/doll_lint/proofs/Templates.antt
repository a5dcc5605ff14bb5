-- What a template of a set needs, by its tree and its partials.
use Rattle.std.proofs.Common.{◌≡◌, ℕ, zero, suc, ◌-◌, ◌≢◌, List, [], length, Option, None, Some, get_or, true, false, refl, ap, sym, subst, ◌∙◌, arith}
use Rattle.std.specs.Prelude.{nat_lt, slice_get}
use Rattle.std.proofs.lemmas.Bool.{ltb-false, ltb-true}
use Rattle.std.proofs.lemmas.Option.{slice_get_past, slice_get_read}
use Rattle.std.specs.Option.{option_map_or}
use Rattle.doll_erb.specs.declared.node.Node.{Node}
use Rattle.doll_schema.specs.Models.{ModelList}
use Rattle.doll_set.specs.Dependencies.{names_of, partial_of}
use Rattle.doll_set.specs.Digests.{name_at}
use Rattle.doll_set.specs.declared.template.Template.{Template}
use Rattle.doll_types.specs.Types.{Typing}
use Rattle.doll_lint.specs.declared.needs.Scope.{Scope}
use Rattle.doll_lint.specs.Needs.{Setting, levels_need, setting_in, tree_needs}
use Rattle.doll_lint.specs.Readings.{Standing}

-- a template that was found by its number
pub found_there : (templates listed : List Template) (number : ℕ) (template : Template) → listed ≡ templates → true ≡ nat_lt number (length listed) → template ≡ get_or listed number template → slice_get templates number ≡ Some template
found_there templates listed number template same within is =
    subst (λ ts. slice_get ts number ≡ Some template) same (slice_get_read listed (length listed) number template refl (ltb-true number (length listed) (sym within)) is)

-- a template that wasn't found by its number
pub not_there : (templates listed : List Template) (number : ℕ) → listed ≡ templates → false ≡ nat_lt number (length listed) → slice_get templates number ≡ None
not_there templates listed number same past =
    subst (λ ts. slice_get ts number ≡ None) same (slice_get_past listed number (ltb-false number (length listed) (sym past)))

module _ (schema : ModelList) (templates : List Template) where
  -- where a template is read with so many levels below it
  abbrev pub over : ℕ → ℕ → Setting
  over levels number = setting_in schema templates (levels_need schema templates levels) number

  pub no_level : (levels number : ℕ) (outer : Option ℕ) (typing : Typing) (standing : Standing) → levels ≡ 0 → levels_need schema templates levels number outer typing standing ≡ []
  unfolding levels_need
  no_level zero number outer typing standing none = refl
  no_level (suc levels) number outer typing standing none = absurd (omega (arith, none))

  -- where there is no template, nothing is needed
  pub no_template : (levels number : ℕ) (outer : Option ℕ) (typing : Typing) (standing : Standing) → slice_get templates number ≡ None → levels_need schema templates levels number outer typing standing ≡ []
  unfolding levels_need
  no_template zero number outer typing standing none = refl
  no_template (suc levels) number outer typing standing none = ap (λ o. tree_needs (over levels number) (option_map_or (λ (t : Template). t.tree) o []) outer typing standing) none

  -- a level more is the tree of the template over the levels below
  pub level_more : (levels number : ℕ) (outer : Option ℕ) (typing : Typing) (standing : Standing) (template : Template) (tree : List Node) → levels ≢ 0 → slice_get templates number ≡ Some template → tree ≡ template.tree
      → tree_needs (over (levels - 1) number) tree outer typing standing ≡ levels_need schema templates levels number outer typing standing
  unfolding levels_need
  level_more zero number outer typing standing template tree some is same = absurd (some refl)
  level_more (suc levels) number outer typing standing template tree some is same =
      ap (λ n. tree_needs (over n number) tree outer typing standing) one
      ∙ ap (λ nodes. tree_needs (over levels number) nodes outer typing standing) same
      ∙ sym (ap (λ o. tree_needs (over levels number) (option_map_or (λ (t : Template). t.tree) o []) outer typing standing) is)
    where
      one : suc levels - 1 ≡ levels
      one = omega arith

  -- a partial that isn't there needs nothing
  pub no_partial : (levels number : ℕ) (name : List ℕ) (outer : Option ℕ) (typing : Typing) (standing : Standing) → partial_of (names_of templates) (name_at templates number) name ≡ None
      → (over levels number).partial name outer typing standing ≡ []
  no_partial levels number name outer typing standing none = ap (λ o. option_map_or (λ partial. levels_need schema templates levels partial outer typing standing) o []) none

  pub a_partial : (levels number partial : ℕ) (name : List ℕ) (outer : Option ℕ) (typing : Typing) (standing : Standing) → partial_of (names_of templates) (name_at templates number) name ≡ Some partial
      → (over levels number).partial name outer typing standing ≡ levels_need schema templates levels partial outer typing standing
  a_partial levels number partial name outer typing standing is = ap (λ o. option_map_or (λ partial. levels_need schema templates levels partial outer typing standing) o []) is

  -- a partial that was found, with its own variables and the tag that leads to it
  pub partial_along : (levels number partial : ℕ) (name : List ℕ) (lead outer : Option ℕ) (own same : Scope) → lead ≡ outer → own ≡ same → partial_of (names_of templates) (name_at templates number) name ≡ Some partial
      → levels_need schema templates levels partial lead own.typing own.standing ≡ (over levels number).partial name outer same.typing same.standing
  partial_along levels number partial name lead outer own same leads owns is =
      ap (λ o. levels_need schema templates levels partial o own.typing own.standing) leads
      ∙ ap (λ (s : Scope). levels_need schema templates levels partial outer s.typing s.standing) owns
      ∙ sym (a_partial levels number partial name outer same.typing same.standing is)
