use Rattle.std.proofs.Common.{List, ◌∙◌, ap, sym}
use Rattle.doll_entry.specs.declared.asks.Fetched.{Fetched}
use Rattle.doll_job.specs.Jobs.{answered_many}
use Rattle.doll_core.specs.Turning.{any_lost}
use Rattle.doll_core.proofs.Answering.{read_many_of}
use Rattle.doll_core.proofs.turns.read_many.Goals as goal

pub returns-clause-turn : goal.returns-clause-turn
returns-clause-turn c =
    let inside = c.session.inside in
    let found = c.read_many in
    let charged = rw (← c.session.view_is) at c.requires.charged in
    let heads = rw (← c.session.view_is) at c.requires.heads in
    rw (← c.session.view_is)
    (read_many_of c.args.now c.args.world.now found.new.self (record { target = inside.target; snapshot = inside.snapshot; job = inside.job; charged = inside.charged }) charged
    found.ensures.records found.ensures.settings found.ensures.checked c.checked-set.ensures.world.names found.ensures.writes c.args.asks heads c.as_slice.result.now c.as_slice.ensures c.in-Ok.found.items c.from_vec.result c.from_vec.ensures
    c.answer_many.new.self (c.answer_many.ensures ∙ ap (λ (f : List Fetched). answered_many f inside.job) (c.in_ok-shared.ensures ∙ c.deref-2.ensures.value))
    c.in-Ok.ensures.shown c.in-Ok.ensures.found c.in-Ok.ensures.causes (ap any_lost (sym c.deref.ensures.value) ∙ sym c.any_lost.ensures ∙ c.if-any_lost.false))
