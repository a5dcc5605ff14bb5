use Rattle.std.proofs.Common.{◌≡◌, ◌+◌, drop}
use Rattle.std.specs.List.{prefix_len}
use Rattle.doll_text.specs.Bytes.{is_of}
use Rattle.doll_text.proofs.bytes.prefix_len.Given as goal

-- the bytes so far are of the kind, so the rest has what is left of the front
abbrev pub invariant-loop-at : goal.invariant-loop-at
invariant-loop-at l = l.at + prefix_len (is_of l.kind) (drop l.at l.bytes) ≡ prefix_len (is_of l.kind) l.bytes
