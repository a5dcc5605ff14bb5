use Rattle.std.proofs.Common.{◌≡◌, true, is_ok}
use Rattle.doll_table.proofs.Ascending.{rise_searched, inserted, stayed}
use Rattle.doll_table.proofs.id_list.put_id.Goals as goal

pub seek-requires : goal.seek-requires
seek-requires c = rise_searched c.args.ids.now.items c.as_slice.result.now c.requires.ascend c.as_slice.ensures.value

pub returns-in-Err-clause-ascend : goal.returns-in-Err-clause-ascend
returns-in-Err-clause-ascend c =
    let ok : is_ok c.insert.result ≡ true = c.insert.ensures.succeeds c.requires.room in
    (inserted c.args.ids.now.items c.as_slice.result.now c.requires.ascend c.as_slice.ensures.value c.args.id c.in-Err.at c.insert.new.self.items c.in-Err.ensures (rw ok at c.insert.ensures.items)).ascend

pub returns-in-Err-clause-set : goal.returns-in-Err-clause-set
returns-in-Err-clause-set c =
    let ok : is_ok c.insert.result ≡ true = c.insert.ensures.succeeds c.requires.room in
    (inserted c.args.ids.now.items c.as_slice.result.now c.requires.ascend c.as_slice.ensures.value c.args.id c.in-Err.at c.insert.new.self.items c.in-Err.ensures (rw ok at c.insert.ensures.items)).is

pub returns-in_default-clause-set : goal.returns-in_default-clause-set
returns-in_default-clause-set c = stayed c.args.ids.now.items c.as_slice.result.now c.requires.ascend c.as_slice.ensures.value c.args.id c.in_default.field-0 c.in_default.ensures
