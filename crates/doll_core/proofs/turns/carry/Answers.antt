use Rattle.std.proofs.Common.{◌∙◌}
use Rattle.doll_core.proofs.Carrying.{carried_by}
use Rattle.doll_core.proofs.turns.carry.Goals as goal

pub returns : goal.returns
returns c =
    let inside = c.session.inside in
    let lives = rw (← c.session.view_is) at c.requires.lives in
    rw (← c.session.view_is)
    (carried_by c.args.world.now (record { target = inside.target; snapshot = inside.snapshot; job = inside.job; charged = inside.charged }) c.step.new.self
    c.new-rows.result.looks c.step.new.rows.looks c.in_ok-need.need c.get-2.result.now c.new-rows.result.table.now
    (c.get-2.ensures ∙ c.checked.ensures.value) (c.new-rows.ensures.table ∙ c.get.ensures) lives c.in_ok-need.ensures.next c.in_ok-need.ensures.lives)
