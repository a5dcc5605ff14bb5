use Rattle.std.proofs.Common.{◌≡◌, Some, sym, ap, ◌∙◌}
use Rattle.std.specs.Prelude.{slice_get}
use Rattle.doll_route.specs.Rows.{row_number}
use Rattle.doll_route.proofs.Kept.{requested-first}
use Rattle.doll_route.proofs.routes.Routes.candidate.Goals as goal

pub returns-in-Ok : goal.returns-in-Ok
returns-in-Ok c = λ n r at asks.
    let here : slice_get c.self.inside.routes n ≡ Some r = rw c.self.view_is at in
    sym (ap row_number c.in-Ok.ensures.found) ∙ requested-first c.self.inside.routes c.self.inside.router c.args.path.now n r c.self.invariant.1 c.self.invariant.0 here asks

pub returns-in-Err : goal.returns-in-Err
returns-in-Err c = λ n r at asks.
    let here : slice_get c.self.inside.routes n ≡ Some r = rw c.self.view_is at in
    sym (ap row_number c.in-Err.ensures.missing) ∙ requested-first c.self.inside.routes c.self.inside.router c.args.path.now n r c.self.invariant.1 c.self.invariant.0 here asks
