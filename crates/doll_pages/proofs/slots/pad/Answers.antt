use Rattle.std.proofs.Common.{◌≡◌, [], ◌∷◌, ◌++◌, None, arith, sym, ◌∙◌}
use Rattle.std.proofs.lemmas.Grind.{common_steps}
use Rattle.doll_pages.proofs.Slotted.{padded_more}
use Rattle.doll_pages.proofs.slots.pad.Goals as goal

pub loop-slot-preserved : goal.loop-slot-preserved
loop-slot-preserved g c =
    let pushed : c.push.new.self.items ≡ c.loop-slot.slots.items ++ None ∷ [] = grind (arith, common_steps, c.loop-slot.invariant.room) in
    record {
      slots = rw pushed (sym (padded_more c.loop-slot.slots.items c.args.more c.loop-slot._slot c.loop-slot-test.true) ∙ c.loop-slot.invariant.slots);
      room = grind (arith, common_steps, c.loop-slot.invariant.room);
    }
