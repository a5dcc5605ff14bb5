use Rattle.doll_erb.proofs.Blocks.{template_found, template_only}
use Rattle.doll_erb.proofs.FirstFault.{template_faults}
use Rattle.doll_erb.proofs.template.parse_template.Goals as goal

pub returns-clause-found : goal.returns-clause-found
returns-clause-found c = template_found c.args.text.now c.read_template.result c.read_template.ensures

pub returns-clause-only : goal.returns-clause-only
returns-clause-only c tree is = template_only c.args.text.now c.read_template.result tree c.read_template.ensures is

pub returns-clause-fault : goal.returns-clause-fault
returns-clause-fault c = template_faults c.args.text.now c.read_template.result c.read_template.ensures
