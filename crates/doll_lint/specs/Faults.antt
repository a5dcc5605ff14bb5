-- What a lint refuses: blocks that read beyond their keys, and blocks that may share one (this project's own).
use Rattle.std.specs.Prelude.{◌≡◌, ◌<◌, ℕ, Bool, false, List, [], ◌∷◌, ◌++◌, slice_get, None, if◌then◌else◌}
use Rattle.std.specs.Cmp.Lexicographic.{slice_cmp}
use Rattle.std.specs.declared.cmp.Ordering.{Ordering}
use Rattle.std.specs.List.{Contains}
use Rattle.std.specs.List.Sorted.{IsStrictlySortedBy}
use Rattle.std.specs.Option.{option_map_or}
use Rattle.std.specs.Ordering.{nat_cmp, on, then_cmp}
use Rattle.doll_schema.specs.Lookups.{many_of}
use Rattle.doll_schema.specs.Models.{ModelList}
use Rattle.doll_schema.specs.declared.model.BelongsTo.{BelongsTo}
use Rattle.doll_schema.specs.declared.model.HasMany.{HasMany}
use Rattle.doll_schema.specs.declared.model.Model.{Model}
use Rattle.doll_route.specs.declared.route.Route.{Route}
use Rattle.doll_set.specs.declared.template.Template.{Template}
use Rattle.doll_set.specs.Digests.{name_at}
use Rattle.doll_set.specs.Sets.{ReadSet}
use Rattle.doll_types.specs.declared.reached.Reached.{Reached}
use Rattle.doll_types.specs.Reached.{IsReached}
use Rattle.doll_lint.specs.declared.fault.LintFault.{LintFault}
use Rattle.doll_lint.specs.declared.fault.LintKind.{LintKind}
use Rattle.doll_lint.specs.declared.fault.LintKind.TheVariants.{Uncovered, NoTouch, SharedKey, OutsideVariable}
use Rattle.doll_lint.specs.declared.path.Path.{Path}
use Rattle.doll_lint.specs.declared.path.PathStep.{PathStep}
use Rattle.doll_lint.specs.declared.path.PathStep.TheVariants as step
use Rattle.doll_lint.specs.declared.reading.Grade.{Grade}
use Rattle.doll_lint.specs.declared.reading.Grade.TheVariants as grade
use Rattle.doll_lint.specs.declared.needs.Need.{Need}
use Rattle.doll_lint.specs.Blocks.{Block, blocks_of, key_paths, scope_roots, shape_of}
use Rattle.doll_lint.specs.Needs.{setting_in, template_needs, tree_needs}
use Rattle.doll_lint.specs.Paths.{covers, is_covered, is_settled}

-- ---- needs

-- what the body of a block needs, where each variable of its scope stands for itself
unfoldable pub block_needs : ModelList → List Template → Block → List Need
block_needs schema templates block =
    tree_needs (setting_in schema templates (template_needs schema templates) block.template) block.body None block.typing (scope_roots block.typing)

-- whether a key tells a path so well
abbrev pub meets : ModelList → List Path → Grade → Path → Bool
meets schema key grade.Covered path = is_covered schema key path
meets schema key grade.Settled path = is_settled schema key path

abbrev pub is_met : ModelList → List Path → Need → Bool
is_met schema key need = meets schema key need.grade need.path

-- ---- how a fault names a path

-- the name of the association along which a step goes
abbrev pub parent_name : ModelList → ℕ → ℕ → List ℕ
parent_name schema model at =
    option_map_or (λ (m : Model). option_map_or (λ (b : BelongsTo). b.name) (slice_get m.belongs_to at) []) (slice_get schema.models model) []

abbrev pub step_name : ModelList → PathStep → List ℕ
step_name schema (step.Parent model at) = parent_name schema model at
step_name schema (step.Children model at) = option_map_or (λ (many : HasMany). many.name) (many_of schema model at) []

-- a path as a template writes it: the variable and the steps, joined by dots
abbrev pub path_text : ModelList → List ℕ → List PathStep → List ℕ
path_text schema root [] = root
path_text schema root (last ∷ before) = path_text schema root before ++ 46 ∷ step_name schema last

-- whether a step leads from a record that a key tells to its children
abbrev pub is_children_of : ModelList → List Path → List ℕ → PathStep → List PathStep → Bool
is_children_of schema key root (step.Children model at) before = covers schema key root before
is_children_of schema key root (step.Parent model at) before = false

-- the kind of fault of a path that a key doesn't tell: a variable by itself, children of a record that the key tells but that don't touch it, or another
abbrev pub kind_of : ModelList → List Path → List ℕ → List PathStep → LintKind
kind_of schema key root [] = OutsideVariable root
kind_of schema key root (last ∷ before) =
    if is_children_of schema key root last before then NoTouch (step_name schema last) else Uncovered (path_text schema root (last ∷ before))

-- ---- faults

abbrev pub need_fault : ReadSet → ModelList → Block → Need → LintFault
need_fault set schema block need =
    record { template = name_at set.templates block.template; at = need.at; kind = kind_of schema (key_paths schema block) need.path.root need.path.steps }

-- the later of two blocks has it, with the number of the earlier
abbrev pub shared_fault : ReadSet → Block → Block → LintFault
shared_fault set earlier later = record { template = name_at set.templates later.template; at = later.at; kind = SharedKey earlier.number }

-- a block of what a page reaches
pub record IsBlock (set : ReadSet) (schema : ModelList) (routes : List Route) (block : Block) : Type 0 where
  pub reached : Reached
  pub is_reached : IsReached set schema routes reached
  pub stands : Contains (blocks_of schema set.templates reached.template reached.typing) block

-- A fault of a set with a schema and routes: a block whose body needs what its key doesn't tell, or two blocks of one template, in whichever typings,
-- whose keys have one shape.
pub data IsLintFault (set : ReadSet) (schema : ModelList) (routes : List Route) : LintFault → Type 0 where
  of_need : (block : Block) (need : Need) → IsBlock set schema routes block → Contains (block_needs schema set.templates block) need
      → is_met schema (key_paths schema block) need ≡ false → IsLintFault set schema routes (need_fault set schema block need)
  of_pair : (earlier later : Block) → IsBlock set schema routes earlier → IsBlock set schema routes later → earlier.template ≡ later.template
      → earlier.number < later.number → shape_of schema earlier ≡ shape_of schema later → IsLintFault set schema routes (shared_fault set earlier later)

-- no fault is there
abbrev pub IsClean : ReadSet → ModelList → List Route → Type 0
IsClean set schema routes = (fault : LintFault) → IsLintFault set schema routes fault → ⊥

-- ---- order

-- the place of a kind among the kinds, the text that it carries, and the number
abbrev pub kind_place : LintKind → ℕ
kind_place (Uncovered path) = 0
kind_place (NoTouch name) = 1
kind_place (SharedKey other) = 2
kind_place (OutsideVariable name) = 3

abbrev pub kind_text : LintKind → List ℕ
kind_text (Uncovered path) = path
kind_text (NoTouch name) = name
kind_text (OutsideVariable name) = name
kind_text (SharedKey other) = []

abbrev pub kind_number : LintKind → ℕ
kind_number (SharedKey other) = other
kind_number other = 0

-- faults go by template, place and kind, of one kind by the text or the number that it carries
abbrev pub fault_order : LintFault → LintFault → Ordering
fault_order =
    then_cmp (on (λ (f : LintFault). f.template) (slice_cmp nat_cmp))
    (then_cmp (on (λ (f : LintFault). f.at) nat_cmp)
    (then_cmp (on (λ (f : LintFault). kind_place f.kind) nat_cmp)
    (then_cmp (on (λ (f : LintFault). kind_text f.kind) (slice_cmp nat_cmp)) (on (λ (f : LintFault). kind_number f.kind) nat_cmp))))

-- These are exactly the faults of a set, each once, in their order.
pub record AreLintFaults (set : ReadSet) (schema : ModelList) (routes : List Route) (faults : List LintFault) : Type 0 where
  pub ascend : IsStrictlySortedBy fault_order faults
  pub each : (fault : LintFault) → Contains faults fault → IsLintFault set schema routes fault
  pub all : (fault : LintFault) → IsLintFault set schema routes fault → Contains faults fault
