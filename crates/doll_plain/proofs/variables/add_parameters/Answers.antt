use Rattle.std.proofs.Common.{◌++◌}
use Rattle.std.proofs.lemmas.Slice.Zip.{either_empty_from_Zip}
use Rattle.doll_plain.specs.Variables.{parameters}
use Rattle.doll_plain.proofs.Lives.{all_bound}
use Rattle.doll_plain.proofs.variables.add_parameters.Goals as goal

pub returns : goal.returns
returns c =
    let at = c.loop-name.name-iterator in
    all_bound c.loop-name.vars (c.args.vars.now ++ parameters c.args.names.now c.args.values.now) at.a.rest.now at.b.rest.now (either_empty_from_Zip at c.next.new.self c.next.result c.in-None.is c.next.ensures.steps) c.loop-name.invariant
