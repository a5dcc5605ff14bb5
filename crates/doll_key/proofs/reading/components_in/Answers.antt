use Rattle.std.proofs.Common.{refl, subst}
use Rattle.doll_key.specs.Reading.{IsMade}
use Rattle.doll_key.proofs.Finding.{all_made, no_component, no_slash, nothing, one_more, starts}
use Rattle.doll_key.proofs.reading.components_in.Goals as goal

pub returns-then-slash-ne-SLASH : goal.returns-then-slash-ne-SLASH
returns-then-slash-ne-SLASH c =
    let rest = c.loop-rest.rest.now in
    no_slash c.args.text.now c.loop-rest.components _ _ (subst (IsMade c.args.text.now c.loop-rest.components) (starts _ rest c.in-len1-up.len_at_least refl) c.loop-rest.invariant) c.if-slash-ne-SLASH.true

pub returns-in_default-2 : goal.returns-in_default-2
returns-in_default-2 c =
    let rest = c.loop-rest.rest.now in
    no_component c.args.text.now c.loop-rest.components _
    (subst (IsMade c.args.text.now c.loop-rest.components) (starts 47 rest c.in-len1-up.len_at_least c.if-slash-ne-SLASH.false) c.loop-rest.invariant) (rw c.in_default-2.is at c.in_ok-first.ensures.first)

pub loop-rest-preserved : goal.loop-rest-preserved
loop-rest-preserved c =
    let rest = c.loop-rest.rest.now in
    rw c.in_ok-push.ensures.ok
    (one_more c.args.text.now c.loop-rest.components _ c.in-Some.first.0 c.in-Some.first.1.now
    (subst (IsMade c.args.text.now c.loop-rest.components) (starts 47 rest c.in-len1-up.len_at_least c.if-slash-ne-SLASH.false) c.loop-rest.invariant) (rw c.in-Some.is at c.in_ok-first.ensures.first))

pub returns : goal.returns
returns c =
    all_made c.args.text.now c.loop-rest.components (subst (IsMade c.args.text.now c.loop-rest.components) (nothing c.loop-rest.rest.now c.in_default.len_below) c.loop-rest.invariant)
