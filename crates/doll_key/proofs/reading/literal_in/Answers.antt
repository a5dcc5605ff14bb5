use Rattle.doll_key.proofs.Finding.{literal_first}
use Rattle.doll_key.proofs.reading.literal_in.Goals as goal

pub returns-clause-first : goal.returns-clause-first
returns-clause-first c = literal_first c.args.text.now c.cut.result.0.now c.cut.result.1.now c.cut.ensures c.in_ok-text.text c.in_ok-text.ensures
