use Rattle.std.proofs.Common.{◌≡◌, Some, None, sym, ◌∙◌}
use Rattle.std.specs.Prelude.{slice_get}
use Rattle.doll_route.specs.Paths.{requested}
use Rattle.doll_route.specs.Routes.{AreRoutes}
use Rattle.doll_route.proofs.Kept.{found-in, only-found}
use Rattle.doll_route.proofs.routes.Routes.found.Goals as goal

pub returns-in_err-route-clause-exact : goal.returns-in_err-route-clause-exact
returns-in_err-route-clause-exact c =
    let only = only-found c.args.self.now c.args.path.now c.args.number c.requires in
    c.from_residual.ensures ∙ rw c.in_err-route.was at only

pub returns-in_err-own-clause-exact : goal.returns-in_err-own-clause-exact
returns-in_err-own-clause-exact c =
    let only = only-found c.args.self.now c.args.path.now c.args.number c.requires in
    let at : slice_get c.args.self.now c.in_ok-route.route ≡ None = rw c.self.view_is at (sym c.in_err-own.ensures.value) in
    c.from_residual-in_err-own.ensures ∙ rw (c.in_ok-route.was, at) at only

pub returns-in_err-id-clause-exact : goal.returns-in_err-id-clause-exact
returns-in_err-id-clause-exact c =
    let only = only-found c.args.self.now c.args.path.now c.args.number c.requires in
    let at : slice_get c.args.self.now c.in_ok-route.route ≡ Some c.in_ok-own.own.now = rw c.self.view_is at (sym c.in_ok-own.ensures.value) in
    let no : requested c.in_ok-own.own.now.path c.args.path.now ≡ None = rw (c.as_bytes.ensures, c.as_bytes-2.ensures.value) at (sym c.in_err-id.ensures) in
    c.from_residual-in_err-id.ensures ∙ rw (c.in_ok-route.was, at, no) at only

pub returns-clause-exact : goal.returns-clause-exact
returns-clause-exact c =
    let only = only-found c.args.self.now c.args.path.now c.args.number c.requires in
    let at : slice_get c.args.self.now c.in_ok-route.route ≡ Some c.in_ok-own.own.now = rw c.self.view_is at (sym c.in_ok-own.ensures.value) in
    let yes : requested c.in_ok-own.own.now.path c.args.path.now ≡ Some c.in_ok-id.id = rw (c.as_bytes.ensures, c.as_bytes-2.ensures.value) at (sym c.in_ok-id.ensures) in
    rw (c.in_ok-route.was, at, yes) at only

pub returns-clause-fits : goal.returns-clause-fits
returns-clause-fits c =
    let are : AreRoutes c.args.self.now = rw c.self.view_is at c.self.invariant.0 in
    let at : slice_get c.args.self.now c.in_ok-route.route ≡ Some c.in_ok-own.own.now = rw c.self.view_is at (sym c.in_ok-own.ensures.value) in
    let yes : requested c.in_ok-own.own.now.path c.args.path.now ≡ Some c.in_ok-id.id = rw (c.as_bytes.ensures, c.as_bytes-2.ensures.value) at (sym c.in_ok-id.ensures) in
    found-in c.args.self.now c.args.path.now c.in_ok-route.route c.in_ok-own.own.now c.in_ok-id.id are at yes
