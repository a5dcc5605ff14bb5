-- Blocks of one template that may share a key, told by what is noted of them (this project's own).
use Rattle.std.specs.Prelude.{Bool, true, false, ◌&&◌, nat_eq, nat_lt, bytes_eq, List, [], ◌∷◌, ◌++◌, if◌then◌else◌}
use Rattle.std.specs.List.{Contains, flat_map}
use Rattle.doll_set.specs.Digests.{name_at}
use Rattle.doll_set.specs.Sets.{ReadSet}
use Rattle.doll_lint.specs.declared.block.PartShape.{PartShape}
use Rattle.doll_lint.specs.declared.block.PartShape.TheVariants as shape
use Rattle.doll_lint.specs.declared.fault.LintFault.{LintFault}
use Rattle.doll_lint.specs.declared.fault.LintKind.TheVariants.{SharedKey}
use Rattle.doll_lint.specs.declared.found.Note.{Note}
use Rattle.doll_lint.specs.Noted.{are_alike}

abbrev pub same_part : PartShape → PartShape → Bool
same_part (shape.Record m) (shape.Record n) = nat_eq m n
same_part shape.Single shape.Single = true
same_part (shape.Literal s) (shape.Literal t) = bytes_eq s t
same_part one other = false

abbrev pub same_shape : List PartShape → List PartShape → Bool
same_shape [] [] = true
same_shape (one ∷ ones) (other ∷ others) = same_part one other && same_shape ones others
same_shape ones others = false

-- whether the second of two noted blocks comes behind the first in one template, and their keys have one shape
abbrev pub may_share : Note → Note → Bool
may_share earlier later = nat_eq earlier.template later.template && (nat_lt earlier.number later.number && same_shape earlier.shape later.shape)

abbrev pub shared_fault_of : ReadSet → Note → Note → LintFault
shared_fault_of set later earlier = record { template = name_at set.templates later.template; at = later.at; kind = SharedKey earlier.number }

-- the fault of the second
abbrev pub shared_by : ReadSet → Note → Note → List LintFault
shared_by set later earlier = if may_share earlier later then shared_fault_of set later earlier ∷ [] else []

-- the faults of a noted block, and of all
unfoldable pub shared_with : ReadSet → List Note → Note → List LintFault
shared_with set notes later = flat_map (shared_by set later) notes

abbrev pub all_shared : ReadSet → List Note → List LintFault
all_shared set notes = flat_map (shared_with set notes) notes

-- these faults and no others, in whichever order and however often
pub record AreThose (faults others : List LintFault) : Type 0 where
  pub kept : (fault : LintFault) → Contains others fault → Contains faults fault
  pub only : (fault : LintFault) → Contains faults fault → Contains others fault

-- ---- notes in their order

-- the faults that a noted block gives those behind it, which are up to the first of another template or shape
abbrev pub shared_behind : ReadSet → Note → List Note → List LintFault
shared_behind set earlier [] = []
shared_behind set earlier (later ∷ more) = if are_alike earlier later then shared_by set later earlier ++ shared_behind set earlier more else []

abbrev pub shared_in_order : ReadSet → List Note → List LintFault
shared_in_order set [] = []
shared_in_order set (earlier ∷ more) = shared_behind set earlier more ++ shared_in_order set more
