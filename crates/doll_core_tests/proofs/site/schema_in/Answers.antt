use Rattle.serde_json.specs.View.{view}
use Rattle.doll_core_tests.proofs.site.schema_in.Goals as goal

pub returns-in-Ok-clause-names : goal.returns-in-Ok-clause-names
returns-in-Ok-clause-names c = c.schemas_have_names.ensures (view c.args.json.now) c.in-Ok.schema c.in-Ok.ensures
