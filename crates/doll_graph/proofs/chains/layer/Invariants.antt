use Rattle.std.proofs.Common.{◌≡◌, ◌-◌, ◌++◌, length}
use Rattle.std.specs.List.{filter, range_with_len}
use Rattle.doll_graph.specs.Graphs as spec
use Rattle.doll_graph.proofs.chains.layer.Given as goal

-- those so far and those among the things that are left make the layer
abbrev pub invariant-loop-number : goal.invariant-loop-number
invariant-loop-number l = l.numbers ++ filter (spec.ends_at l.graph l.most) (range_with_len l.number (length l.graph - l.number)) ≡ spec.layer l.graph l.most
