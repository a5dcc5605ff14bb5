use Rattle.doll_world_tests.proofs.Sites.{checked_has_names}
use Rattle.doll_world_tests.proofs.site.checked.Goals as goal

pub returns-in-Ok-clause-names : goal.returns-in-Ok-clause-names
returns-in-Ok-clause-names c = checked_has_names c.in-Ok.set c.args.schema c.checked_by.result c.in-Ok.ensures c.requires c.checked_by.ensures.set c.checked_by.ensures.schema
