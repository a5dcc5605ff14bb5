use Rattle.std.proofs.Common.{◌+◌, ◌∙◌, drop, get_or, refl, sym, subst}
use Rattle.doll_digest.specs.declared.registry.DigestFault.TheVariants.{Memory as NoMemory}
use Rattle.doll_set.specs.Digests.{AreReady, KnownStay, these_entered}
use Rattle.doll_set.proofs.Entries.{all_are_entered, entered_more, left_by_first, none_left, refused, refused_more, texts_same, texts_then}
use Rattle.doll_set.proofs.Known.{AllKnownOnce, once_first, once_last, stay_same, step_known}
use Rattle.doll_set.proofs.digests.enter_all.Goals as goal

pub loop-number-preserved : goal.loop-number-preserved
loop-number-preserved g c =
    let at = c.loop-number.number-index in
    let n = get_or c.args.numbers.now c.loop-number.number-index 0 in
    let step : KnownStay g.H.Hash16.hash_of c.args.templates.now c.args.graph.now c.args.digests.now c.enter_one.new.digests
    × (AllKnownOnce g.H.Hash16.hash_of c.args.templates.now c.args.graph.now c.enter_one.new.digests (drop (at + 1) c.args.numbers.now) c.args.numbers.now
    × AreReady g.H.Hash16.hash_of c.args.templates.now c.args.graph.now c.enter_one.new.digests (drop (at + 1) c.args.numbers.now)) =
    step_known g.H.Hash16.hash_of c.args.templates.now c.args.graph.now c.requires.closed c.requires.shallow c.args.digests.now c.loop-number.digests c.enter_one.new.digests n
    (drop at c.args.numbers.now) (drop (at + 1) c.args.numbers.now) c.args.numbers.now (left_by_first c.args.numbers.now at c.loop-number-test.true)
    (c.loop-number.invariant.long ∙ c.requires.digests ∙ sym c.requires.long) c.in_ok-enter_one.ensures.entered
    c.loop-number.invariant.stay c.loop-number.invariant.known c.loop-number.invariant.ready in
    record {
      answer =
          entered_more g.H.Hash16.hash_of c.args.templates.now c.args.graph.now c.args.registry.now c.args.numbers.now at
          c.loop-number.registry c.enter_one.new.registry c.loop-number-test.true c.loop-number.invariant.answer c.in_ok-enter_one.ensures.answer;
      long = c.in_ok-enter_one.ensures.long ∙ c.loop-number.invariant.long;
      stay = step.0;
      known = step.1.0;
      ready = step.1.1;
      names = c.in_ok-enter_one.ensures.names ∙ c.loop-number.invariant.names;
      texts = texts_then c.args.registry.now.texts c.loop-number.registry.texts c.enter_one.new.registry.texts c.loop-number.invariant.texts c.in_ok-enter_one.ensures.texts;
    }

pub loop-number-init : goal.loop-number-init
loop-number-init g c = record {
  answer = refl;
  long = refl;
  stay = stay_same g.H.Hash16.hash_of c.args.templates.now c.args.graph.now c.args.digests.now;
  known = once_first g.H.Hash16.hash_of c.args.templates.now c.args.graph.now c.args.digests.now c.args.numbers.now;
  ready = c.requires.ready;
  names = refl;
  texts = texts_same c.args.registry.now.texts;
}

pub returns-in_err-enter_one-clause-answer : goal.returns-in_err-enter_one-clause-answer
returns-in_err-enter_one-clause-answer g c =
    refused NoMemory (these_entered g.H.Hash16.hash_of c.args.templates.now c.args.graph.now c.args.registry.now c.args.numbers.now) c.enter_one.new.registry
    c.from_residual.result c.in_err-enter_one.field-0.0 c.from_residual.ensures.1
    (λ known. refused_more g.H.Hash16.hash_of c.args.templates.now c.args.graph.now c.args.registry.now c.args.numbers.now c.loop-number.number-index
    c.loop-number.registry c.in_err-enter_one.field-0.0 c.loop-number-test.true c.loop-number.invariant.answer (c.in_err-enter_one.ensures.answer known))

pub returns-clause-answer : goal.returns-clause-answer
returns-clause-answer g c =
    all_are_entered g.H.Hash16.hash_of c.args.templates.now c.args.graph.now c.args.registry.now c.args.numbers.now c.loop-number.number-index
    c.loop-number.registry c.loop-number-test.false c.loop-number.invariant.answer

pub returns-clause-known : goal.returns-clause-known
returns-clause-known g c =
    once_last g.H.Hash16.hash_of c.args.templates.now c.args.graph.now c.loop-number.digests c.args.numbers.now
    (subst (λ ns. AllKnownOnce g.H.Hash16.hash_of c.args.templates.now c.args.graph.now c.loop-number.digests ns c.args.numbers.now)
    (none_left c.args.numbers.now c.loop-number.number-index c.loop-number-test.false) c.loop-number.invariant.known)
