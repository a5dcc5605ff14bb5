use Rattle.std.proofs.Common.{◌<◌, length, arith}
use Rattle.doll_types.proofs.Chains.{called_there}
use Rattle.doll_types.specs.Reached.{called_by}
use Rattle.doll_types.proofs.Expanding.{element_at, longer, longer_by_one, reaching_on, round_ends, round_on}
use Rattle.doll_types.proofs.rounds.expand_to.Goals as goal

pub round-smaller : goal.round-smaller
round-smaller c =
    let old = c.round.reach in
    let new = c.expand.new.reach in
    let below : length old.calls < c.args.end = omega (arith, c.round-test.true, c.len.ensures) in
    let room : length old.calls < length old.reached = omega (arith, below, c.round.invariant.room) in
    let found = element_at old.reached (length old.calls) room in
    let e = c.in_ok-expand.ensures found.0 found.1 in
    omega (arith, below, longer_by_one old.calls new.calls e.numbers e.calls)

pub round-preserved : goal.round-preserved
round-preserved c =
    let set = c.args.set.now in
    let schema = c.args.schema.now in
    let old = c.round.reach in
    let new = c.expand.new.reach in
    let below : length old.calls < c.args.end = omega (arith, c.round-test.true, c.len.ensures) in
    let room : length old.calls < length old.reached = omega (arith, below, c.round.invariant.room) in
    let found = element_at old.reached (length old.calls) room in
    let e = c.in_ok-expand.ensures found.0 found.1 in
    record {
      reaching = λ routes r. reaching_on set schema found.0 old new found.1 e routes room (c.round.invariant.reaching routes r);
      rounds = λ levels s.
          round_on set schema found.0 old new levels c.args.end c.requires.set (called_there set c.requires.set schema) found.1 e below (c.round.invariant.rounds levels s);
      room = longer old.reached new.reached (called_by set schema found.0) c.args.end e.grows c.round.invariant.room;
    }

pub returns-clause-short : goal.returns-clause-short
returns-clause-short c levels s =
    let reach = c.round.reach in
    let round = c.round.invariant.rounds levels s in
    record {
      templates = round.templates;
      short = round_ends c.args.set.now.graph levels c.args.end reach round (omega (arith, c.round-test.false, c.len.ensures));
    }
