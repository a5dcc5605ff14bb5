use Rattle.std.proofs.Common.{◌∙◌, subst, take}
use Rattle.std.specs.List.{flat_map}
use Rattle.doll_types.specs.Reached.{called_at}
use Rattle.doll_types.specs.Reachings.{AreNumbersOf, Grows}
use Rattle.doll_types.proofs.Growing.{calls_more, grow_on}
use Rattle.doll_types.proofs.reaching.number_calls.Goals as goal

pub loop-finding-preserved : goal.loop-finding-preserved
loop-finding-preserved c =
    let go = called_at c.args.set.now c.args.number in
    let before = flat_map go (take c.loop-finding.finding-index c.args.found.now) in
    let more = calls_more go c.args.found.now c.loop-finding.finding-index c.finding-item.result c.loop-finding-test.true c.finding-item.is in
    let reached = c.number_call.new.reach.reached in
    record {
      numbers = subst (λ ones. AreNumbersOf reached c.number_call.new.numbers ones) more (c.in_ok-number_call.ensures.numbers before c.loop-finding.invariant.numbers);
      grows =
          subst (λ ones. Grows c.args.reach.now.reached reached ones) more
          (grow_on c.args.reach.now.reached c.loop-finding.reach.reached reached before (go c.finding-item.result) c.loop-finding.invariant.grows c.in_ok-number_call.ensures.grows);
      calls = c.in_ok-number_call.ensures.calls ∙ c.loop-finding.invariant.calls;
      faults = c.in_ok-number_call.ensures.faults ∙ c.loop-finding.invariant.faults;
    }
