use Rattle.std.proofs.Common.{◌≡◌, ◌++◌, ◌∷◌, [], ◌<◌, false, length}
use Rattle.doll_route.specs.Routes.{AreRoutes, has_path}
use Rattle.doll_route.specs.Rows.{AddsRow, HasRows, pattern_of}
use Rattle.doll_route.proofs.Kept.{routes-pushed, rows-apart, rows-pushed}
use Rattle.doll_route.proofs.Patterns.{read, shape_of, text}
use Rattle.doll_route.proofs.routes.Routes.with.Goals as goal

pub add_row-requires-clause-text : goal.add_row-requires-clause-text
add_row-requires-clause-text c = rw c.as_bytes.ensures (text c.args.route.path (shape_of c.args.route.path c.requires.route.path))

pub add_row-requires-clause-reads : goal.add_row-requires-clause-reads
add_row-requires-clause-reads c = rw c.as_bytes.ensures (read c.args.route.path (shape_of c.args.route.path c.requires.route.path))

pub add_row-requires-clause-apart : goal.add_row-requires-clause-apart
add_row-requires-clause-apart c =
    let fresh : has_path c.self.inside.routes c.args.route.path ≡ false = rw c.self.view_is c.requires.fresh in
    rw c.as_bytes.ensures (rows-apart c.self.inside.routes c.self.inside.router c.args.route c.self.invariant.1 c.self.invariant.0 c.requires.route fresh)

pub invariant_of-result : goal.invariant_of-result
invariant_of-result c =
    let fresh : has_path c.self.inside.routes c.args.route.path ≡ false = rw c.self.view_is c.requires.fresh in
    let room : length c.self.inside.routes < 256 = rw c.self.view_is c.requires.room in
    let adds : AddsRow (pattern_of c.args.route.path) (length c.self.inside.routes) c.self.inside.router c.add_row.new.router = rw (c.as_bytes.ensures, c.len.ensures) at c.in_ok-add_row.ensures in
    let are : AreRoutes (c.self.inside.routes ++ c.args.route ∷ []) = routes-pushed c.self.inside.routes c.args.route c.self.invariant.0 c.requires.route fresh room in
    let has : HasRows (c.self.inside.routes ++ c.args.route ∷ []) c.add_row.new.router = rows-pushed c.self.inside.routes c.self.inside.router c.add_row.new.router c.args.route c.self.invariant.1 c.self.invariant.0 c.requires.route fresh adds in
    rw c.in_ok-push.ensures.ok (are, has)
