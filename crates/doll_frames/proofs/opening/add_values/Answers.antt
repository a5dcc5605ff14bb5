use Rattle.std.proofs.Common.{◌++◌}
use Rattle.std.proofs.lemmas.Slice.Zip.{either_empty_from_Zip}
use Rattle.doll_plain.specs.Variables.{parameters}
use Rattle.doll_plain.proofs.Lives.{all_bound}
use Rattle.doll_frames.proofs.opening.add_values.Goals as goal

pub returns-clause-vars : goal.returns-clause-vars
returns-clause-vars c =
    let at = c.loop-name.name-iterator in
    all_bound c.loop-name.scope.vars (c.args.scope.now.vars ++ parameters c.args.names.now c.args.values.now) at.a.rest.now at.b.rest.now (either_empty_from_Zip at c.next.new.self c.next.result c.in-None.is c.next.ensures.steps) c.loop-name.invariant.vars
