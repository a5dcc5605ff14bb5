use Rattle.std.proofs.Common.{◌≡◌, [], ◌∷◌, ◌++◌, arith, ◌∙◌, rules}
use Rattle.std.proofs.lemmas.Grind.{common_steps}
use Rattle.doll_pages.proofs.Slotted.{edited_within, edited_past}
use Rattle.doll_pages.proofs.slots.edit_slot.Goals as goal

pub returns-then-at-len-clause-ok : goal.returns-then-at-len-clause-ok
returns-then-at-len-clause-ok g c = rw (edited_within c.args.slots.now.items c.args.at (g.E.Edit.gives c.args.edit) c.index_mut.result.now (omega (arith, c.len.ensures, c.if-at-len.true)), ← c.index_mut.ensures.value) (search (rules, c.make.ensures.ok))

pub returns-clause-ok : goal.returns-clause-ok
returns-clause-ok g c =
    let pushed : c.push.new.self.items ≡ c.pad.new.slots.items ++ c.make-2.new.slot ∷ [] = grind (arith, common_steps) in
    pushed
    ∙ edited_past c.args.slots.now.items c.reserve.new.self.items c.pad.new.slots.items c.args.at c.len-2.result (g.E.Edit.gives c.args.edit) c.make-2.new.slot
    c.in_ok-reserve.ensures.items c.pad.ensures.items c.in_ok-make.ensures.ok (omega (arith, c.len-2.ensures)) (omega (arith, c.if-at-len.false, c.len.ensures, c.len-2.ensures))
