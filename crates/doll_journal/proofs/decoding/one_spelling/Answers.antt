use Rattle.doll_journal.proofs.Commits.{one_spelling}
use Rattle.doll_journal.proofs.decoding.one_spelling.Goals as goal

pub returns : goal.returns
returns c = one_spelling
