-- Notes of blocks in an order in which those that may share a key stand side by side (this project's own).
use Rattle.std.specs.Prelude.{ℕ, Bool, List, []}
use Rattle.std.specs.Cmp.Lexicographic.{slice_cmp}
use Rattle.std.specs.List.{Contains}
use Rattle.std.specs.List.Sorted.{IsStrictlySortedBy}
use Rattle.std.specs.declared.cmp.Ordering.{Ordering}
use Rattle.std.specs.Ordering.{eq_by_cmp, nat_cmp, on, then_cmp}
use Rattle.doll_lint.specs.declared.block.PartShape.{PartShape}
use Rattle.doll_lint.specs.declared.block.PartShape.TheVariants as shape
use Rattle.doll_lint.specs.declared.found.Note.{Note}

-- the place of a part's kind among the kinds, the model that it names, and the text that it is
abbrev pub part_place : PartShape → ℕ
part_place (shape.Record model) = 0
part_place shape.Single = 1
part_place (shape.Literal text) = 2

abbrev pub part_model : PartShape → ℕ
part_model (shape.Record model) = model
part_model other = 0

abbrev pub part_text : PartShape → List ℕ
part_text (shape.Literal text) = text
part_text other = []

abbrev pub part_order : PartShape → PartShape → Ordering
part_order = then_cmp (on part_place nat_cmp) (then_cmp (on part_model nat_cmp) (on part_text (slice_cmp nat_cmp)))

-- by template and shape
abbrev pub group_order : Note → Note → Ordering
group_order = then_cmp (on (λ (n : Note). n.template) nat_cmp) (on (λ (n : Note). n.shape) (slice_cmp part_order))

-- and then by number and place
abbrev pub note_order : Note → Note → Ordering
note_order = then_cmp group_order (then_cmp (on (λ (n : Note). n.number) nat_cmp) (on (λ (n : Note). n.at) nat_cmp))

-- of one template and one shape
abbrev pub are_alike : Note → Note → Bool
are_alike = eq_by_cmp group_order

abbrev pub same_note : Note → Note → Bool
same_note = eq_by_cmp note_order

-- the same notes, each once, in their order
pub record AreOnce (notes once : List Note) : Type 0 where
  pub ascend : IsStrictlySortedBy note_order once
  pub kept : (note : Note) → Contains notes note → Contains once note
  pub only : (note : Note) → Contains once note → Contains notes note
