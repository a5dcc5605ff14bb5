use Rattle.std.proofs.Common.{◌≡◌, ◌∙◌, arith, ap, refl, subst, sym}
use Rattle.std.specs.List.{AllByRecursion}
use Rattle.doll_digest.specs.declared.registry.DigestFault.TheVariants.{Memory as NoMemory}
use Rattle.doll_graph.specs.Graphs.{layer}
use Rattle.doll_set.specs.Digests.{AreReady, IsKnown, in_layers, these_entered}
use Rattle.doll_set.proofs.Entering.{layer_entered, layer_refused, layers_entered}
use Rattle.doll_set.proofs.Entries.{layers_all, refused, texts_same, texts_then}
use Rattle.doll_set.proofs.Known.{known_next, layer_ready, none_before}
use Rattle.doll_set.proofs.digests.enter_layers.Goals as goal

pub loop-length-init : goal.loop-length-init
loop-length-init g c = record {
  answer = ap (these_entered g.H.Hash16.hash_of c.args.templates.now c.args.graph.now c.args.registry.now) (layers_all c.args.graph.now c.args.most);
  known = none_before g.H.Hash16.hash_of c.args.templates.now c.args.graph.now c.args.digests.now;
  long = refl;
  names = refl;
  texts = texts_same c.args.registry.now.texts;
  within = omega arith;
}

pub enter_all-requires-clause-ready : goal.enter_all-requires-clause-ready
enter_all-requires-clause-ready g c =
    let same : c.as_slice.result.now ≡ layer c.args.graph.now c.loop-length.length = c.as_slice.ensures ∙ c.in_ok-numbers.ensures in
    subst (AreReady g.H.Hash16.hash_of c.args.templates.now c.args.graph.now c.loop-length.digests) (sym same)
    (layer_ready g.H.Hash16.hash_of c.args.templates.now c.args.graph.now c.loop-length.digests c.loop-length.length c.requires.closed c.loop-length.invariant.known)

pub returns-in_err-enter_all-clause-answer : goal.returns-in_err-enter_all-clause-answer
returns-in_err-enter_all-clause-answer g c =
    let same : c.as_slice.result.now ≡ layer c.args.graph.now c.loop-length.length = c.as_slice.ensures ∙ c.in_ok-numbers.ensures in
    refused NoMemory (these_entered g.H.Hash16.hash_of c.args.templates.now c.args.graph.now c.args.registry.now (in_layers c.args.graph.now c.args.most))
    c.enter_all.new.registry c.from_residual-in_err-enter_all.result c.in_err-enter_all.field-0.0 c.from_residual-in_err-enter_all.ensures.1
    (λ known. layer_refused g.H.Hash16.hash_of c.args.templates.now c.args.graph.now c.args.registry.now c.args.most c.loop-length.length
    c.loop-length.registry c.loop-length.invariant.answer c.in_err-enter_all.field-0.0 c.as_slice.result.now c.loop-length-test.true same
    (c.in_err-enter_all.ensures.answer known))

pub loop-length-preserved : goal.loop-length-preserved
loop-length-preserved g c =
    let same : c.as_slice.result.now ≡ layer c.args.graph.now c.loop-length.length = c.as_slice.ensures ∙ c.in_ok-numbers.ensures in
    record {
      answer =
          layer_entered g.H.Hash16.hash_of c.args.templates.now c.args.graph.now c.args.registry.now c.args.most c.loop-length.length
          c.loop-length.registry c.loop-length.invariant.answer c.enter_all.new.registry c.as_slice.result.now c.loop-length-test.true same
          c.in_ok-enter_all.ensures.answer;
      known =
          known_next g.H.Hash16.hash_of c.args.templates.now c.args.graph.now c.loop-length.digests c.enter_all.new.digests c.loop-length.length
          c.loop-length.invariant.known c.in_ok-enter_all.ensures.stay
          (subst (AllByRecursion (IsKnown g.H.Hash16.hash_of c.args.templates.now c.args.graph.now c.enter_all.new.digests)) same c.in_ok-enter_all.ensures.known);
      long = c.in_ok-enter_all.ensures.long ∙ c.loop-length.invariant.long;
      names = c.in_ok-enter_all.ensures.names ∙ c.loop-length.invariant.names;
      texts = texts_then c.args.registry.now.texts c.loop-length.registry.texts c.enter_all.new.registry.texts c.loop-length.invariant.texts c.in_ok-enter_all.ensures.texts;
      within = omega (arith, c.loop-length-test.true);
    }

pub returns-clause-answer : goal.returns-clause-answer
returns-clause-answer g c =
    layers_entered g.H.Hash16.hash_of c.args.templates.now c.args.graph.now c.args.registry.now c.args.most c.loop-length.length
    c.loop-length.registry c.loop-length.invariant.answer c.loop-length-test.false
