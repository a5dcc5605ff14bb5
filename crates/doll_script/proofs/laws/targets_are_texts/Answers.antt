use Rattle.doll_script.proofs.Texts.{targets_are_texts}
use Rattle.doll_script.proofs.laws.targets_are_texts.Goals as goal

pub returns : goal.returns
returns c = targets_are_texts
