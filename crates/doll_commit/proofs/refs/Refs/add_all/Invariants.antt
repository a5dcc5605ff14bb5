use Rattle.std.proofs.Common.{◌≡◌, drop}
use Rattle.doll_commit.specs.Refs.{with_refs}
use Rattle.doll_commit.proofs.refs.Refs.add_all.Given as goal

-- what is added and what is left give the whole
abbrev pub invariant-loop-item : goal.invariant-loop-item
invariant-loop-item l = with_refs l.self (drop l.item-index l.items) ≡ with_refs l.fn.self l.items
