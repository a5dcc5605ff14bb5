use Rattle.std.proofs.Common.{◌≤◌, length, Some, None}
use Rattle.doll_table.proofs.Linking.{read_at}
use Rattle.doll_table.proofs.Fewer.{unlinked_place, unlinked_nil, unlinked_all}
use Rattle.doll_table.proofs.links.unlink_gone.Goals as goal
use Rattle.doll_table.proofs.links.unlink_gone.Goals.{in-Some+in_ok-edit, in_default}

pub loop-place-preserved : goal.loop-place-preserved
loop-place-preserved c =
    let row = c.args.row.now in
    let place = c.loop-place.place in
    elim c.match-parent.branch [
      | in-Some+in_ok-edit w ↦
          let read = read_at c.as_slice-parent-items.result.now row.parents place (Some w.in-Some.parent) c.as_slice-parent-items.ensures c.loop-place-test.true w.in-Some.is in
          rw w.links-is (unlinked_place c.args.living.now c.args.links.now c.loop-place.links w.edit.new.self row c.args.id place w.in-Some.parent read c.requires w.in_ok-edit.ensures.ok c.loop-place.invariant)
      | in_default w ↦
          let read = read_at c.as_slice-parent-items.result.now row.parents place None c.as_slice-parent-items.ensures c.loop-place-test.true w.in_default.is in
          unlinked_nil c.args.living.now c.args.links.now c.loop-place.links c.match-parent.links row c.args.id place read w.links-is c.loop-place.invariant
    ]

pub returns-clause-none : goal.returns-clause-none
returns-clause-none c =
    let past : length c.args.row.now.parents ≤ c.loop-place.place = rw c.as_slice-parent-items.ensures at c.loop-place-test.false in
    unlinked_all c.args.living.now c.args.links.now c.loop-place.links c.loop-place.links c.args.row.now c.args.id c.loop-place.place past c.loop-place.invariant
