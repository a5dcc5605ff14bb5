use Rattle.std.proofs.Common.{◌≡◌, ◌<◌, ◌∙◌, [], ◌∷◌, ap, length, map, subst, sym}
use Rattle.std.specs.List.{AllByRecursion}
use Rattle.std.proofs.Math.ListN.{length-set, set}
use Rattle.doll_digest.specs.Framing.{framed_text}
use Rattle.doll_digest.specs.Registries.{AreNumbered, named, text_of}
use Rattle.doll_digest.specs.declared.registry.DigestFault.TheVariants.{Memory as NoMemory}
use Rattle.doll_graph.specs.Graphs.{dependencies}
use Rattle.doll_set.specs.Digests.{framed_of, numbered, these_entered}
use Rattle.doll_set.proofs.Entries.{numbers_ready, one_entered, one_refused, refused, text_is}
use Rattle.doll_set.proofs.Known.{ready_within}
use Rattle.doll_set.proofs.digests.enter_one.Goals as goal

pub named-requires-clause-within : goal.named-requires-clause-within
named-requires-clause-within g c =
    subst (λ ds. AllByRecursion (λ d. d < length ds) c.dependencies_of.result.now) (sym c.as_slice.ensures)
    (subst (AllByRecursion (λ d. d < length c.args.digests.now)) (sym c.dependencies_of.ensures)
    (ready_within g.H.Hash16.hash_of c.args.templates.now c.args.graph.now c.args.digests.now c.args.number (c.requires.digests ∙ sym c.requires.long) c.requires.ready))

pub enter-requires : goal.enter-requires
enter-requires g c = record {
  numbers =
      let same : c.as_slice-2.result.now ≡ map (numbered c.args.ids.now c.args.digests.now) (dependencies c.args.graph.now c.args.number) =
      cc (c.as_slice-2.ensures, c.in_ok-named.ensures, c.as_slice.ensures, c.dependencies_of.ensures) in
      subst (AreNumbered c.args.registry.now.names) (sym same)
      (numbers_ready g.H.Hash16.hash_of c.args.templates.now c.args.graph.now c.args.registry.now.names c.args.ids.now c.requires.ids c.args.digests.now c.args.number c.requires.long c.requires.ready);
}

pub returns : goal.returns
returns g c =
    let same : c.as_slice-2.result.now ≡ map (numbered c.args.ids.now c.args.digests.now) (dependencies c.args.graph.now c.args.number) =
    cc (c.as_slice-2.ensures, c.in_ok-named.ensures, c.as_slice.ensures, c.dependencies_of.ensures) in
    let text : text_of c.args.registry.now c.source_of.result.now c.as_slice-2.result.now ≡ framed_of g.H.Hash16.hash_of c.args.templates.now c.args.graph.now c.args.number =
    ap (λ ds. framed_text c.source_of.result.now (named c.args.registry.now.names ds)) same
    ∙ ap (λ s. framed_text s (named c.args.registry.now.names (map (numbered c.args.ids.now c.args.digests.now) (dependencies c.args.graph.now c.args.number)))) c.source_of.ensures
    ∙ text_is g.H.Hash16.hash_of c.args.templates.now c.args.graph.now c.args.registry.now.names c.args.ids.now c.requires.ids c.args.registry.now.texts c.args.digests.now c.args.number c.requires.long c.requires.ready in
    record {
      answer =
          one_entered g.H.Hash16.hash_of c.args.templates.now c.args.graph.now c.args.registry.now c.enter.new.self c.args.number
          (text_of c.args.registry.now c.source_of.result.now c.as_slice-2.result.now) c.in_ok-digest.digest text c.in_ok-digest.ensures.answer c.in_ok-digest.ensures.entered;
      entered = c.set.ensures ∙ ap (set c.args.digests.now c.args.number) (c.in_ok-digest.ensures.hash ∙ ap g.H.Hash16.hash_of text);
      long = ap length c.set.ensures ∙ length-set c.args.digests.now c.args.number c.in_ok-digest.digest;
      names = c.enter.ensures.names;
      texts = c.enter.ensures.stay;
    }

pub returns-in_err-digest-clause-answer : goal.returns-in_err-digest-clause-answer
returns-in_err-digest-clause-answer g c =
    let same : c.as_slice-2.result.now ≡ map (numbered c.args.ids.now c.args.digests.now) (dependencies c.args.graph.now c.args.number) =
    cc (c.as_slice-2.ensures, c.in_ok-named.ensures, c.as_slice.ensures, c.dependencies_of.ensures) in
    let text : text_of c.args.registry.now c.source_of.result.now c.as_slice-2.result.now ≡ framed_of g.H.Hash16.hash_of c.args.templates.now c.args.graph.now c.args.number =
    ap (λ ds. framed_text c.source_of.result.now (named c.args.registry.now.names ds)) same
    ∙ ap (λ s. framed_text s (named c.args.registry.now.names (map (numbered c.args.ids.now c.args.digests.now) (dependencies c.args.graph.now c.args.number)))) c.source_of.ensures
    ∙ text_is g.H.Hash16.hash_of c.args.templates.now c.args.graph.now c.args.registry.now.names c.args.ids.now c.requires.ids c.args.registry.now.texts c.args.digests.now c.args.number c.requires.long c.requires.ready in
    refused NoMemory (these_entered g.H.Hash16.hash_of c.args.templates.now c.args.graph.now c.args.registry.now (c.args.number ∷ [])) c.enter.new.self
    c.from_residual-in_err-digest.result c.in_err-digest.field-0.0 c.from_residual-in_err-digest.ensures.1
    (λ known. one_refused g.H.Hash16.hash_of c.args.templates.now c.args.graph.now c.args.registry.now c.args.number
    (text_of c.args.registry.now c.source_of.result.now c.as_slice-2.result.now) c.in_err-digest.field-0.0 text (c.in_err-digest.ensures.answer known))
