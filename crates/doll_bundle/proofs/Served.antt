-- Pages of sites.
use Rattle.std.proofs.Common.{◌≡◌, ℕ, List, Option, Some, Result, Ok, Err, IfOk, ap, ◌∙◌}
use Rattle.doll_schema.specs.Models.{ModelList}
use Rattle.doll_schema.specs.declared.value.Value.{Value}
use Rattle.doll_journal.specs.declared.change.Commit.{Commit}
use Rattle.doll_table.specs.Tables.{TableMap}
use Rattle.doll_records.specs.Histories.{table_of}
use Rattle.doll_route.specs.Paths.{path_of, query_of}
use Rattle.doll_route.specs.Queries.{params_in}
use Rattle.doll_route.specs.Routes.{route_of}
use Rattle.doll_route.specs.declared.route.Found.{Found}
use Rattle.doll_route.specs.declared.route.Route.{Route}
use Rattle.doll_set.specs.Sets.{ReadSet}
use Rattle.doll_plain.specs.Pages.{page_of}
use Rattle.doll_bundle.specs.Sites.{page_after}

-- the page of the route that is found, over the table that the history leaves
pub page_found : {F : Type 0} (schema : ModelList) (routes : List Route) (set : ReadSet) (history : List Commit) (target : List ℕ) (found : Found) (params : List Value) (table : TableMap) (result : Result (Option (List ℕ)) F)
    → route_of routes (path_of target) ≡ Some found → params ≡ params_in routes found.route (query_of target) → table ≡ table_of schema history
    → IfOk result (λ page. page ≡ page_of set schema routes found params table) → IfOk result (λ page. page ≡ page_after schema routes set history target)
page_found schema routes set history target found params table (Ok page) finds given left is =
    rw finds (is ∙ ap (λ p. page_of set schema routes found p table) given ∙ ap (λ t. page_of set schema routes found (params_in routes found.route (query_of target)) t) left)
page_found schema routes set history target found params table (Err e) finds given left is = tt
