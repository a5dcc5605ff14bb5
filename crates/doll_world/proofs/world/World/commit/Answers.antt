use Rattle.std.proofs.Common.{◌∷◌, []}
use Rattle.doll_records.specs.Commitments.{asked}
use Rattle.doll_world.proofs.Worlds.{after_commit}
use Rattle.doll_world.proofs.world.World.commit.Goals as goal

pub invariant_of-self : goal.invariant_of-self
invariant_of-self g c =
    let inside = c.self.inside in
    let done = c.commit-committed in
    after_commit inside.checked inside.records done.new.self (asked inside.records.history c.args.author c.args.serial c.args.changes c.args.now ∷ []) done.result
    (g.H.Shelf.entries inside.shelf) c.self.invariant done.ensures.schema c.history-history.ensures.is_history done.ensures.history done.ensures.same
