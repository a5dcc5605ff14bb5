use Rattle.doll_table.proofs.Kept.{kept_none}
use Rattle.doll_table.proofs.model_rows.ModelRows.new.Goals as goal

pub invariant_of-result : goal.invariant_of-result
invariant_of-result c = kept_none c.in_ok-rows.rows c.in_ok-ids.ids c.in_ok-links.links c.in_ok-rows.ensures c.in_ok-ids.ensures c.in_ok-links.ensures
