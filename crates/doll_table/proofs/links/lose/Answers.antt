use Rattle.doll_table.proofs.Linking.{sole_lost}
use Rattle.doll_table.proofs.links.lose.Goals as goal

pub returns-in-Some-clause-ok : goal.returns-in-Some-clause-ok
returns-in-Some-clause-ok c = sole_lost c.args.links.now c.edit.new.self c.args.row.now c.in-Some.place c.in-Some.parent c.args.id c.in-Some.ensures c.in_ok-edit.ensures.ok
