-- Records, and sets of them that a step makes larger until it adds nothing (this project's own).
use Rattle.std.specs.Prelude.{ℕ, ◌≡◌, ◌+◌, ◌==◌, Bool, ◌&&◌, List, [], ◌∷◌, ◌++◌, fold, length, if◌then◌else◌}
use Rattle.std.specs.List.{list_any, flat_map, IsDistinct}
use Rattle.std.specs.Fn.{iterate}
use Rattle.std.specs.declared.cmp.Ordering.{Ordering}
use Rattle.std.specs.Ordering.{nat_cmp, ordering_then}
use Rattle.std.specs.BTreeSet.{BTreeSet, contains}
use Rattle.std.specs.FinMap as finite
use Rattle.doll_table.specs.Tables.{Extent, TableMap}

-- a record: the number of its model, and its id
abbrev pub Ref : Type 0
Ref = ℕ × ℕ

abbrev pub is_ref : Ref → Ref → Bool
is_ref a b = a.0 == b.0 && a.1 == b.1

-- records in ascending order of their models, then of their ids
abbrev pub ref_cmp : Ref → Ref → Ordering
ref_cmp x y = ordering_then (nat_cmp x.0 y.0) (nat_cmp x.1 y.1)

-- whether a record is among these
abbrev pub has : List Ref → Ref → Bool
has refs ref = list_any (is_ref ref) refs

-- a set has the records of a list, in which none stands twice
abbrev pub AreBeside : BTreeSet Ref → List Ref → Type 0
AreBeside members list = ((ref : Ref) → contains ref_cmp members ref ≡ has list ref) × IsDistinct is_ref list

-- these records and one more, unless it is among them
abbrev pub with_ref : List Ref → Ref → List Ref
with_ref refs ref = if has refs ref then refs else refs ++ ref ∷ []

-- these records and others, each once
abbrev pub with_refs : List Ref → List Ref → List Ref
with_refs = fold with_ref

-- how many rows live
abbrev pub count_of : List Extent → ℕ
count_of [] = 0
count_of (extent ∷ extents) = length (finite.keys extent.rows) + count_of extents

-- these records and those that a step leads to from them
abbrev pub with_next : (Ref → List Ref) → List Ref → List Ref
with_next next refs = with_refs refs (flat_map next refs)

-- the records that steps over living rows lead to: the step is made once more than there are rows, so that the last one
-- adds none
abbrev pub closure : (Ref → List Ref) → TableMap → List Ref → List Ref
closure next table refs = iterate (with_next next) (count_of table.extents + 1) refs
