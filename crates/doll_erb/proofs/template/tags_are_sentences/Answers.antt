use Rattle.doll_erb.proofs.Tags as law
use Rattle.doll_erb.proofs.template.tags_are_sentences.Goals as goal

pub returns : goal.returns
returns c = law.tags_are_sentences
