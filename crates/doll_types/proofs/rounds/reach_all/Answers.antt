use Rattle.std.proofs.Common.{◌≡◌, suc, ◌+◌, ◌-◌, length, subst, arith}
use Rattle.doll_types.specs.Reachings.{AreShortFrom, IsShallow}
use Rattle.doll_types.proofs.Chains.{shallow_first}
use Rattle.doll_types.proofs.Expanding.{none_left}
use Rattle.doll_types.proofs.Opens.{reaching_first}
use Rattle.doll_types.proofs.rounds.reach_all.Goals as goal

pub loop-round-init : goal.loop-round-init
loop-round-init c = record {
  reaching = reaching_first c.args.set.now c.args.schema.now c.args.routes.now c.in_ok-reach.reach c.in_ok-reach.ensures;
  shallow = shallow_first c.args.set.now c.requires.set c.args.schema.now c.args.routes.now c.in_ok-reach.reach c.in_ok-reach.ensures;
}

pub loop-round-preserved : goal.loop-round-preserved
loop-round-preserved c =
    let r = c.loop-round._round in
    let graph = c.args.set.now.graph in
    let before : 16 - r ≡ suc (15 - r) = omega (arith, c.loop-round-test.true) in
    let after : 15 - r ≡ 16 - (r + 1) = omega arith in
    record {
      reaching = c.in_ok-expand_to.ensures.reaching c.args.routes.now c.loop-round.invariant.reaching;
      shallow =
          subst (λ n. IsShallow graph n c.expand_to.new.reach) after
          (c.in_ok-expand_to.ensures.short (15 - r) (subst (λ n. IsShallow graph n c.loop-round.reach) before c.loop-round.invariant.shallow));
    }

pub returns-clause-all : goal.returns-clause-all
returns-clause-all c =
    let r = c.loop-round._round in
    let graph = c.args.set.now.graph in
    let reach = c.loop-round.reach in
    let none : 16 - r ≡ 0 = omega (arith, c.loop-round-test.false) in
    none_left graph reach c.loop-round.invariant.shallow.templates
    (subst (λ n. AreShortFrom graph n (length reach.calls) reach.reached) none c.loop-round.invariant.shallow.short)
