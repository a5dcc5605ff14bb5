use Rattle.doll_erb.proofs.Blocks as law
use Rattle.doll_erb.proofs.template.one_tree.Goals as goal

pub returns : goal.returns
returns c = law.one_tree
