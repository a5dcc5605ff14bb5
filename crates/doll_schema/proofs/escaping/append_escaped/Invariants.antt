use Rattle.std.proofs.Common.{◌≡◌, ◌≤◌, ◌++◌, length, take, drop}
use Rattle.std.specs.List.{slice_range}
use Rattle.doll_schema.specs.Escape.{escaped}
use Rattle.doll_schema.proofs.escaping.append_escaped.Given as goal

-- what is written, the piece that waits and the rest, escaped, make the whole
abbrev pub invariant-loop-at : goal.invariant-loop-at
invariant-loop-at l = record {
  within : l.from ≤ l.at;
  so_far : (l.out.items ++ slice_range l.bytes l.from l.at) ++ escaped (drop l.at l.bytes) ≡ l.fn.out.items ++ escaped l.bytes;
  kept : take (length l.fn.out.items) l.out.items ≡ l.fn.out.items;
}
