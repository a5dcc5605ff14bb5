use Rattle.std.proofs.Common.{ap, ◌∙◌, subst}
use Rattle.doll_text.specs.Gives.{Gives}
use Rattle.doll_digest.specs.Registries.{AreApart, Registered, entered, text_of}
use Rattle.doll_digest.specs.declared.registry.DigestFault.TheVariants.{Memory as NoMemory}
use Rattle.doll_digest.proofs.Texts.{apart, kept_after, stay_after}
use Rattle.doll_digest.proofs.registry.Registry.enter.Goals as goal

pub returns-clause-answer : goal.returns-clause-answer
returns-clause-answer g c =
    subst (λ text. Gives NoMemory (entered g.H.Hash16.hash_of c.args.self.now text) c.keep.result)
    (c.in_ok-text.ensures ∙ ap (λ registry. text_of registry c.args.source.now c.args.deps.now) c.self.view_is)
    c.keep.ensures.answer

pub returns-clause-kept : goal.returns-clause-kept
returns-clause-kept g c =
    kept_after g.H.Hash16.hash_of c.args.self.now c.keep.new.self c.in_ok-text.text (text_of c.args.self.now c.args.source.now c.args.deps.now)
    (c.in_ok-text.ensures ∙ ap (λ registry. text_of registry c.args.source.now c.args.deps.now) c.self.view_is)
    c.keep.result c.keep.ensures.answer c.keep.ensures.entered

pub returns-clause-stay : goal.returns-clause-stay
returns-clause-stay g c =
    stay_after g.H.Hash16.hash_of c.args.self.now c.keep.new.self c.in_ok-text.text c.keep.result c.keep.ensures.entered c.keep.ensures.same

pub returns-in_err-text-clause-apart : goal.returns-in_err-text-clause-apart
returns-in_err-text-clause-apart g c =
    subst (λ (registry : Registered). AreApart g.H.Hash16.hash_of registry.texts) c.self.view_is (apart g.H.Hash16.hash_of c.self.inside.texts.entries c.self.invariant)
