use Rattle.doll_table.proofs.Ascending.{rise_searched, removed, missed}
use Rattle.doll_table.proofs.id_list.take_id.Goals as goal

pub seek-requires : goal.seek-requires
seek-requires c = rise_searched c.args.ids.now.items c.as_slice.result.now c.requires.ascend c.as_slice.ensures.value

pub returns-in-Ok-clause-ascend : goal.returns-in-Ok-clause-ascend
returns-in-Ok-clause-ascend c =
    (removed c.args.ids.now.items c.as_slice.result.now c.requires.ascend c.as_slice.ensures.value c.args.id c.in-Ok.at c.remove.new.self.items c.in-Ok.ensures c.remove.ensures.items).ascend

pub returns-in-Ok-clause-set : goal.returns-in-Ok-clause-set
returns-in-Ok-clause-set c =
    (removed c.args.ids.now.items c.as_slice.result.now c.requires.ascend c.as_slice.ensures.value c.args.id c.in-Ok.at c.remove.new.self.items c.in-Ok.ensures c.remove.ensures.items).is

pub returns-in_default-clause-set : goal.returns-in_default-clause-set
returns-in_default-clause-set c = missed c.args.ids.now.items c.as_slice.result.now c.requires.ascend c.as_slice.ensures.value c.args.id c.in_default.field-0 c.in_default.ensures
