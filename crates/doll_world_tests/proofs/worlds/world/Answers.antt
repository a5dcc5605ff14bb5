use Rattle.std.proofs.Common.{◌∙◌, ap, sym, subst}
use Rattle.doll_sound.specs.Names.{HasNames}
use Rattle.doll_sound.specs.Sites.{HasDistinctPlurals}
use Rattle.doll_types.specs.Sets.{TypedSet}
use Rattle.doll_world_tests.proofs.worlds.world.Goals as goal

pub open-requires-clause-plurals : goal.open-requires-clause-plurals
open-requires-clause-plurals g c =
    subst HasDistinctPlurals (sym (ap (λ (t : TypedSet). t.schema) c.in-Ok.ensures ∙ c.in_ok-checked.ensures.schema)) c.in_ok-schema.ensures.plurals

pub open-requires-clause-names : goal.open-requires-clause-names
open-requires-clause-names g c = subst (λ (t : TypedSet). HasNames t.set t.schema) (sym c.in-Ok.ensures) c.in_ok-checked.ensures.names
