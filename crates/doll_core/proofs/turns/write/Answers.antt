use Rattle.std.proofs.Common.{subst}
use Rattle.doll_records.specs.Histories.{IsHistory}
use Rattle.doll_core.proofs.Answering.{sound}
use Rattle.doll_core.proofs.turns.write.Goals as goal

pub write-requires : goal.write-requires
write-requires c =
    let known = c.checked-set.ensures.world in
    record {
      sound = sound c.args.world.now c.args.session c.args.fresh c.requires.heads known.names
          (subst (λ s. IsHistory s c.args.world.now.records.history) known.schema known.history);
    }
