use Rattle.doll_key.proofs.Finding.{scalar_first, scalar_none}
use Rattle.doll_key.proofs.reading.scalar_in.Goals as goal

pub returns-in_default-clause-first : goal.returns-in_default-clause-first
returns-in_default-clause-first c =
    scalar_none c.args.text.now c.cut.result.0.now c.cut.result.1.now c.cut.ensures (rw c.in_default.is at c.in_ok-value.ensures)

pub returns-clause-first : goal.returns-clause-first
returns-clause-first c =
    scalar_first c.args.text.now c.cut.result.0.now c.cut.result.1.now c.cut.ensures c.in-Some.value (rw c.in-Some.is at c.in_ok-value.ensures)
