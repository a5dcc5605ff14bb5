use Rattle.doll_keep.specs.Calls.{Serves}
use Rattle.doll_records.proofs.Replays.{Midway}
use Rattle.doll_records.proofs.opening.replay.Given as goal

-- the items so far are the history's spellings, and opening goes on from it; the keeper served in each call so far
abbrev pub invariant-loop-index : goal.invariant-loop-index
invariant-loop-index g l =
    Midway l.schema (g.K.Keeper.kept l.fn.keeper) (g.K.Keeper.kept l.keeper) (g.K.Keeper.faults l.fn.keeper) (g.K.Keeper.faults l.keeper) l.past.history.items l.past.table l.past.moment l.index
    × Serves g.K.Keeper.called l.index l.fn.keeper l.keeper
