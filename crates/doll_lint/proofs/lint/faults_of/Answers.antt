use Rattle.std.proofs.Common.{◌≡◌, ◌++◌, map, subst}
use Rattle.std.specs.List.{flat_map}
use Rattle.doll_lint.specs.Found.{all_blocks, block_faults, note_of}
use Rattle.doll_lint.specs.Shared.{AreThose, all_shared}
use Rattle.doll_lint.proofs.Answering.{are_faults}
use Rattle.doll_lint.proofs.lint.faults_of.Goals as goal

pub returns : goal.returns
returns c routes a =
    let set = c.args.set.now in
    let schema = c.args.schema.now in
    let blocks = all_blocks set schema c.args.reached.now in
    let found = c.in_ok-faults.ensures in
    let listed = flat_map (block_faults set schema) blocks ++ all_shared set (map (note_of schema) blocks) in
    let told = c.in_ok-faults.field-0 in
    let is : told.faults.items ++ all_shared set told.notes.items ≡ listed = cc (found.faults, found.notes) in
    are_faults set schema routes c.args.reached.now a c.add_shared.new.faults.items c.in_ok-in_order.field-0
    (subst (AreThose c.add_shared.new.faults.items) is c.in_ok-add_shared.ensures) c.in_ok-in_order.ensures
