use Rattle.doll_core_tests.proofs.Sites.{has_few, has_names, has_plurals}
use Rattle.doll_core_tests.proofs.site.checked.Goals as goal

pub returns-clause-plurals : goal.returns-clause-plurals
returns-clause-plurals c = has_plurals c.args.schema c.linted.result c.requires.distinct c.linted.ensures.schema

pub returns-clause-names : goal.returns-clause-names
returns-clause-names c = has_names c.args.set c.args.schema c.linted.result c.requires.paths c.requires.named c.linted.ensures.set c.linted.ensures.schema

pub returns-clause-few : goal.returns-clause-few
returns-clause-few c = has_few c.args.set c.linted.result c.requires.few c.linted.ensures.set
