use Rattle.std.proofs.Common.{◌∙◌, ◌≤◌, ◌^◌, length, ap, sym, subst}
use Rattle.doll_sound.specs.Names.{HasNames}
use Rattle.doll_sound.specs.Sites.{HasDistinctPlurals}
use Rattle.doll_types.specs.Sets.{TypedSet}
use Rattle.doll_core_tests.proofs.sessions.core.Goals as goal

pub open-requires-clause-plurals : goal.open-requires-clause-plurals
open-requires-clause-plurals c = subst (λ (t : TypedSet). HasDistinctPlurals t.schema) (sym c.in-Ok.ensures) c.in_ok-site.ensures.plurals

pub open-requires-clause-names : goal.open-requires-clause-names
open-requires-clause-names c = subst (λ (t : TypedSet). HasNames t.set t.schema) (sym c.in-Ok.ensures) c.in_ok-site.ensures.names
