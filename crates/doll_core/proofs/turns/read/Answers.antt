use Rattle.std.proofs.Common.{◌∙◌, ap, sym}
use Rattle.doll_entry.specs.declared.asks.Fetched.{Fetched}
use Rattle.doll_job.specs.Jobs.{answered}
use Rattle.doll_core.proofs.Answering.{read}
use Rattle.doll_core.proofs.turns.read.Goals as goal

pub returns-clause-turn : goal.returns-clause-turn
returns-clause-turn c =
    let inside = c.session.inside in
    let found = c.read-found in
    let charged = rw (← c.session.view_is) at c.requires.charged in
    let heads = rw (← c.session.view_is) at c.requires.heads in
    rw (← c.session.view_is)
    (read c.args.now c.args.world.now found.new.self (record { target = inside.target; snapshot = inside.snapshot; job = inside.job; charged = inside.charged }) charged
    found.ensures.records found.ensures.settings found.ensures.checked c.checked-set.ensures.world.names found.ensures.writes c.args.ask heads found.result
    c.answer.new.self (c.answer.ensures ∙ ap (λ (f : Fetched). answered f inside.job) c.in_ok-shared.ensures.same)
    found.ensures.shown found.ensures.found found.ensures.cause (sym c.is_lost.ensures ∙ c.if-is_lost.false))
