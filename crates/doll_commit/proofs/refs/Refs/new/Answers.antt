use Rattle.doll_commit.proofs.Members.{none_beside}
use Rattle.doll_commit.proofs.refs.Refs.new.Goals as goal

pub invariant_of-result : goal.invariant_of-result
invariant_of-result c = none_beside c.new-2.result c.new.result.items c.new-2.ensures.empty c.new.ensures.items
