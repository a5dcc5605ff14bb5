-- What a template of a set writes, by its tree and its partials.
use Rattle.std.proofs.Common.{◌≡◌, ℕ, zero, suc, ◌-◌, ◌≢◌, List, [], length, None, Some, get_or, true, false, refl, ap, sym, subst, ◌∙◌, arith}
use Rattle.std.specs.Prelude.{nat_lt, slice_get}
use Rattle.std.proofs.lemmas.Bool.{ltb-false, ltb-true}
use Rattle.std.proofs.lemmas.Option.{slice_get_past, slice_get_read}
use Rattle.doll_erb.specs.declared.node.Node.{Node}
use Rattle.std.specs.Option.{option_map_or}
use Rattle.doll_schema.specs.Models.{ModelList}
use Rattle.doll_table.specs.Tables.{TableMap}
use Rattle.doll_set.specs.Dependencies.{names_of, partial_of}
use Rattle.doll_set.specs.Digests.{name_at}
use Rattle.doll_set.specs.declared.template.Template.{Template}
use Rattle.doll_plain.specs.Direct.{Scene, Variables, Writes, direct}
use Rattle.doll_plain.specs.Pages.{levels_write, partial_writes, scene_in}

module _ (schema : ModelList) (table : TableMap) (templates : List Template) where
  -- what a template is rendered over by so many levels
  abbrev pub over : ℕ → ℕ → Scene
  over levels number = scene_in schema table templates (levels_write schema table templates levels) number

  pub no_level : (number : ℕ) (variables : Variables) → levels_write schema table templates 0 number variables ≡ []
  unfolding levels_write
  no_level number variables = refl

  -- where there is no template, nothing is written
  pub no_template : (levels number : ℕ) (variables : Variables) → slice_get templates number ≡ None → levels_write schema table templates levels number variables ≡ []
  unfolding levels_write
  no_template zero number variables none = refl
  no_template (suc levels) number variables none = ap (λ o. direct (over levels number) (option_map_or (λ (t : Template). t.tree) o []) variables) none

  -- a level more is the tree of the template over the levels below
  pub level_more : (levels number : ℕ) (variables : Variables) (template : Template) → levels ≢ 0 → slice_get templates number ≡ Some template → direct (over (levels - 1) number) template.tree variables ≡ levels_write schema table templates levels number variables
  unfolding levels_write
  level_more zero number variables template some is = absurd (some refl)
  level_more (suc levels) number variables template some is =
      ap (λ n. direct (over n number) template.tree variables) one
      ∙ sym (ap (λ o. direct (over levels number) (option_map_or (λ (t : Template). t.tree) o []) variables) is)
    where
      one : suc levels - 1 ≡ levels
      one = omega arith

  -- a partial that isn't there writes nothing
  pub no_partial : (writes : ℕ → Writes) (number : ℕ) (name : List ℕ) (variables : Variables) → partial_of (names_of templates) (name_at templates number) name ≡ None → partial_writes templates writes number name variables ≡ []
  no_partial writes number name variables none = ap (λ o. option_map_or (λ partial. writes partial variables) o []) none

  pub a_partial : (writes : ℕ → Writes) (number partial : ℕ) (name : List ℕ) (variables : Variables) → partial_of (names_of templates) (name_at templates number) name ≡ Some partial → partial_writes templates writes number name variables ≡ writes partial variables
  a_partial writes number partial name variables is = ap (λ o. option_map_or (λ partial. writes partial variables) o []) is

-- a template that was found by its number
pub found_there : (templates listed : List Template) (number : ℕ) (template : Template) → listed ≡ templates → true ≡ nat_lt number (length listed) → template ≡ get_or listed number template → slice_get templates number ≡ Some template
found_there templates listed number template same within is =
    subst (λ ts. slice_get ts number ≡ Some template) same (slice_get_read listed (length listed) number template refl (ltb-true number (length listed) (sym within)) is)

-- the tree that was found, over the levels below
pub template_more : (schema : ModelList) (table : TableMap) (templates : List Template) (levels number : ℕ) (variables : Variables) (template : Template) (tree : List Node) → levels ≢ 0 → slice_get templates number ≡ Some template → tree ≡ template.tree → direct (over schema table templates (levels - 1) number) tree variables ≡ levels_write schema table templates levels number variables
template_more schema table templates levels number variables template tree some is same =
    ap (λ nodes. direct (over schema table templates (levels - 1) number) nodes variables) same ∙ level_more schema table templates levels number variables template some is

-- a template that wasn't found by its number
pub not_there : (templates listed : List Template) (number : ℕ) → listed ≡ templates → false ≡ nat_lt number (length listed) → slice_get templates number ≡ None
not_there templates listed number same past =
    subst (λ ts. slice_get ts number ≡ None) same (slice_get_past listed number (ltb-false number (length listed) (sym past)))

-- a partial that was found by an equal name, in an equal table and with equal variables
pub partial_along : (schema : ModelList) (templates : List Template) (levels number partial : ℕ) {asked name : List ℕ} {t u : TableMap} {own same : Variables} → asked ≡ name → t ≡ u → own ≡ same → partial_of (names_of templates) (name_at templates number) asked ≡ Some partial → levels_write schema t templates levels partial own ≡ partial_writes templates (levels_write schema u templates levels) number name same
partial_along schema templates levels number partial {name = name} {t = t} {u = u} {same = same} names tables variables_are is =
    ap (λ v. levels_write schema t templates levels partial v) variables_are
    ∙ ap (λ w. levels_write schema w templates levels partial same) tables
    ∙ sym (a_partial schema u templates (levels_write schema u templates levels) number partial name same (ap (partial_of (names_of templates) (name_at templates number)) (sym names) ∙ is))

-- a partial that wasn't found by an equal name
pub unknown_partial : (schema : ModelList) (table : TableMap) (templates : List Template) (levels number : ℕ) (variables : Variables) {asked name : List ℕ} → asked ≡ name → partial_of (names_of templates) (name_at templates number) asked ≡ None → partial_writes templates (levels_write schema table templates levels) number name variables ≡ []
unknown_partial schema table templates levels number variables {name = name} names none =
    no_partial schema table templates (levels_write schema table templates levels) number name variables (ap (partial_of (names_of templates) (name_at templates number)) (sym names) ∙ none)
