use Rattle.std.proofs.Common.{◌+◌, length, refl}
use Rattle.doll_keep.specs.Calls.{IsFaultless}
use Rattle.doll_bundle.proofs.Keeping.{serves_faultless, open_kept_never, open_refused_never}
use Rattle.doll_bundle.proofs.commits.no_records.Goals as goal

pub unreachable-requires : goal.unreachable-requires
unreachable-requires c =
    let free : IsFaultless c.new-keeper.result.plan = rw c.new-keeper.ensures.plan (record { failing = c.new.ensures.items; fuse = refl }) in
    open_refused_never c.in_ok-copy.field-0 c.new-keeper.result.kept c.in-Err.refusal.fault c.new-keeper.ensures.kept c.in-Err.ensures.exact
    (open_kept_never c.in-Err.refusal.fault c.new-keeper.result c.in-Err.refusal.keeper free c.in-Err.ensures.failed)
    c.in_default.not-Memory

pub returns-in-Ok-clause-faultless : goal.returns-in-Ok-clause-faultless
returns-in-Ok-clause-faultless c =
    let free : IsFaultless c.new-keeper.result.plan = rw c.new-keeper.ensures.plan (record { failing = c.new.ensures.items; fuse = refl }) in
    serves_faultless (length c.in-Ok.records.history + 1) c.new-keeper.result c.in-Ok.records.keeper free c.in-Ok.ensures.served
