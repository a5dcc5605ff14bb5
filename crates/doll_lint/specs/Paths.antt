-- Paths from a variable along associations, and which of them a key tells (this project's own).
use Rattle.std.specs.Prelude.{ℕ, Bool, true, false, ◌&&◌, ◌||◌, nat_eq, List, [], ◌∷◌, slice_get, if◌then◌else◌}
use Rattle.std.specs.List.{list_any}
use Rattle.std.specs.Option.{option_map_or}
use Rattle.std.specs.Str.{bytes_eq}
use Rattle.doll_schema.specs.Models.{ModelList}
use Rattle.doll_schema.specs.Lookups.{many_of}
use Rattle.doll_schema.specs.declared.model.BelongsTo.{BelongsTo}
use Rattle.doll_schema.specs.declared.model.HasMany.{HasMany}
use Rattle.doll_schema.specs.declared.model.Model.{Model}
use Rattle.doll_lint.specs.declared.path.Path.{Path}
use Rattle.doll_lint.specs.declared.path.PathStep.{PathStep}
use Rattle.doll_lint.specs.declared.path.PathStep.TheVariants as step

-- a variable by itself
abbrev pub root_path : List ℕ → Path
root_path name = record { root = name; steps = [] }

-- ---- steps

abbrev pub same_step : PathStep → PathStep → Bool
same_step (step.Parent m a) (step.Parent n b) = nat_eq m n && nat_eq a b
same_step (step.Children m a) (step.Children n b) = nat_eq m n && nat_eq a b
same_step one other = false

abbrev pub same_steps : List PathStep → List PathStep → Bool
same_steps [] [] = true
same_steps (one ∷ ones) (other ∷ others) = same_step one other && same_steps ones others
same_steps ones others = false

abbrev pub same_path : Path → Path → Bool
same_path p q = bytes_eq p.root q.root && same_steps p.steps q.steps

abbrev pub is_parent : PathStep → Bool
is_parent (step.Parent model at) = true
is_parent (step.Children model at) = false

-- the parent of these children that a step names is the record whose children they are
abbrev pub leads_back : ModelList → PathStep → PathStep → Bool
leads_back schema (step.Children from at) (step.Parent model back) =
    option_map_or (λ (many : HasMany). nat_eq many.model model && nat_eq many.inverse back) (many_of schema from at) false
leads_back schema last next = false

-- a step more, in the normal form: the parent of a record's children is the record
abbrev pub then_step : ModelList → List PathStep → PathStep → List PathStep
then_step schema [] next = next ∷ []
then_step schema (last ∷ before) next = if leads_back schema last next then before else next ∷ last ∷ before

abbrev pub path_to : ModelList → PathStep → Path → Path
path_to schema next path = record { root = path.root; steps = then_step schema path.steps next }

-- an association to a parent leads to records of the model with a number, and touches them
abbrev pub touches_model : ℕ → BelongsTo → Bool
touches_model model b = nat_eq b.model model && b.touch

-- a change of one of the children that a step leads to touches the record whose children they are
abbrev pub inverse_touches : ModelList → ℕ → HasMany → Bool
inverse_touches schema from many =
    option_map_or (λ (m : Model). option_map_or (touches_model from) (slice_get m.belongs_to many.inverse) false) (slice_get schema.models many.model) false

abbrev pub touches : ModelList → PathStep → Bool
touches schema (step.Children from at) = option_map_or (inverse_touches schema from) (many_of schema from at) false
touches schema (step.Parent model at) = false

-- ---- what a key tells

-- whether a key names the end of a path itself; a key is seen as the paths of its parts
abbrev pub is_named : List Path → List ℕ → List PathStep → Bool
is_named key root steps = list_any (same_path (record { root = root; steps = steps })) key

-- Covered: the key names it, or it is children that touch a record which is covered. Then the key's versions change with what it holds.
abbrev pub covers : ModelList → List Path → List ℕ → List PathStep → Bool
covers schema key root [] = is_named key root []
covers schema key root (last ∷ before) = is_named key root (last ∷ before) || (touches schema last && covers schema key root before)

-- Settled: covered, or the parent of a record that is covered. Then the key tells which record it is.
abbrev pub settles : ModelList → List Path → List ℕ → List PathStep → Bool
settles schema key root [] = covers schema key root []
settles schema key root (last ∷ before) = covers schema key root (last ∷ before) || (is_parent last && covers schema key root before)

abbrev pub is_covered : ModelList → List Path → Path → Bool
is_covered schema key path = covers schema key path.root path.steps

abbrev pub is_settled : ModelList → List Path → Path → Bool
is_settled schema key path = settles schema key path.root path.steps
