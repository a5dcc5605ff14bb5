use Rattle.std.proofs.Common.{◌≡◌, Some}
use Rattle.doll_records.specs.Histories.{table_of}
use Rattle.doll_route.specs.Paths.{path_of, query_of}
use Rattle.doll_route.specs.Queries.{params_in}
use Rattle.doll_route.specs.Routes.{route_of}
use Rattle.doll_bundle.proofs.Served.{page_found}
use Rattle.doll_bundle.proofs.site.site_page.Goals as goal

pub returns : goal.returns
returns c =
    let finds : route_of c.args.routes.now (path_of c.args.target.now) ≡ Some c.in-Some.found = cc (c.in_ok-found.ensures.exact, c.in-Some.is, c.split_target.ensures.path) in
    let given : c.in_ok-params.params ≡ params_in c.args.routes.now c.in-Some.found.route (query_of c.args.target.now) = cc (c.in_ok-params.ensures.exact, c.split_target.ensures.query) in
    let left : c.get.result.now ≡ table_of c.args.schema.now c.args.records.now.history = cc (c.get.ensures, c.in_ok-snapshot.ensures.whole, c.requires.records) in
    page_found c.args.schema.now c.args.routes.now c.args.set.now c.args.records.now.history c.args.target.now c.in-Some.found c.in_ok-params.params c.get.result.now c.plain_page.result
    finds given left c.plain_page.ensures
