use Rattle.std.proofs.Common.{None, nat_eq, if◌then◌else◌, refl, ◌∙◌, ap, sym}
use Rattle.doll_core.specs.States.{session_at}
use Rattle.doll_core.proofs.Keeping.{none_loses, on_err}
use Rattle.doll_core.proofs.stepping.Core.turn.Goals as goal

pub returns-in_err-room-clause-lost : goal.returns-in_err-room-clause-lost
returns-in_err-room-clause-lost c =
    let inside = c.self.inside in
    let same = c.reserve-room.ensures.entries in
    rw (← c.self.view_is)
    (on_err c.from_residual.result
    (none_loses c.args.number c.args.now (record { world = inside.world; sessions = inside.sessions.entries }) (record { world = inside.world; sessions = c.swap_remove.new.self.entries })
    c.in-Some.session (ap (λ entries. session_at entries c.args.number) (sym same) ∙ sym c.in-Some.ensures.value) refl
    (λ other. c.swap_remove.ensures.updates.0 other ∙ ap (λ entries. if nat_eq c.args.number other then None else session_at entries other) same)))
