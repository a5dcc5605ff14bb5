use Rattle.doll_table.proofs.Ascending.{none_of}
use Rattle.doll_table.proofs.id_list.IdList.new.Goals as goal

pub returns : goal.returns
returns c = rw (c.in_ok-ids.ensures.ok, c.new.ensures.items) none_of
