use Rattle.std.proofs.Common.{ap, ◌∙◌}
use Rattle.doll_set.specs.Dependencies.{names_of, number_of}
use Rattle.doll_types.proofs.Opens.{opens_one}
use Rattle.doll_types.proofs.opening.open.Goals as goal

pub returns : goal.returns
returns c =
    opens_one c.args.set.now c.args.schema.now c.args.route.now c.args.reach.now c.number_of-2.new.reach c.in-Some.number c.in_ok-number_of.field-0 c.in_ok-typing.typing
    (c.in-Some.ensures ∙ ap (number_of (names_of c.args.set.now.templates)) c.as_bytes.ensures)
    c.in_ok-typing.ensures c.in_ok-number_of.ensures.number c.in_ok-number_of.ensures.grows c.in_ok-number_of.ensures.calls c.in_ok-number_of.ensures.faults
