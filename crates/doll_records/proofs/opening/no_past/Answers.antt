use Rattle.doll_records.proofs.Growing.{holds_none}
use Rattle.doll_records.proofs.opening.no_past.Goals as goal

pub returns-clause-holds : goal.returns-clause-holds
returns-clause-holds c = holds_none c.args.schema.now _ _ c.new.ensures.items c.in_ok-table.ensures.empty
