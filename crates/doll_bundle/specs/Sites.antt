-- The site that a bundle makes with the readings of a clock, and its pages (this project's own).
use Rattle.std.specs.Prelude.{◌≡◌, ℕ, List, [], Option, option_and_then, Result, Ok, Err}
use Rattle.std.specs.List.{AllByRecursion}
use Rattle.std.specs.Str.{IsUtf8}
use Rattle.doll_text.specs.Steps.{◌>>=◌}
use Rattle.doll_journal.specs.declared.change.Commit.{Commit}
use Rattle.doll_keep.specs.Calls.{IsFaultless}
use Rattle.doll_records.specs.Histories.{table_of}
use Rattle.doll_route.specs.Paths.{path_of, query_of}
use Rattle.doll_route.specs.Queries.{params_in}
use Rattle.doll_route.specs.Routes.{route_of}
use Rattle.doll_route.specs.declared.route.Found.{Found}
use Rattle.doll_route.specs.declared.route.Route.{Route}
use Rattle.doll_plain.specs.Pages.{page_of}
use Rattle.doll_schema.specs.Models.{ModelList}
use Rattle.doll_set.specs.Sets.{ReadSet}
use Rattle.doll_settings.specs.declared.settings.SiteSettings.{SiteSettings}
use Rattle.doll_views.specs.Bundles.{Loaded, WasRead}
use Rattle.doll_views.specs.declared.refusal.Refusal.{Refusal}
use Rattle.doll_bundle.specs.Commits.{untimed, commits_from}
use Rattle.doll_bundle.specs.Scripts.{script_in}
use Rattle.doll_bundle.specs.declared.site.Site as lent

-- ---- the site of a bundle

pub record Site : Type 0 where
  pub schema : ModelList
  pub routes : List Route
  pub set : ReadSet
  -- the commits of the bundle
  pub history : List Commit
  pub settings : SiteSettings
  -- the lines of its script
  pub script : List (List ℕ)

-- what the code's site stands for
abbrev pub seen_site : lent.Site → Site
seen_site site = record {
  schema = site.schema;
  routes = site.routes;
  set = site.set;
  history = site.records.history;
  settings = site.settings;
  script = site.script;
}

-- how many readings it takes: one for each commit that says no time
abbrev pub readings_needed : Result Loaded Refusal → ℕ
readings_needed (Ok loaded) = untimed loaded.commits
readings_needed (Err why) = 0

-- the site that is made where the clock gives these readings: its commits, then the lines of its script
abbrev pub site_of : Loaded → List ℕ → Result Site Refusal
site_of loaded readings = do
  history ← commits_from loaded.schema [] readings loaded.commits
  script ← script_in loaded.script
  Ok (record {
    schema = loaded.schema;
    routes = loaded.routes;
    set = loaded.set;
    history = history;
    settings = loaded.settings;
    script = script;
  })

-- A site's records are of its schema, behind a keeper that fails at no call, its schema, routes and settings were read, and the
-- lines of its script are texts.
pub record IsServed (site : lent.Site) : Type 0 where
  pub records : site.records.schema ≡ site.schema
  pub keeper : IsFaultless site.records.keeper.plan
  pub read : WasRead site.schema site.routes site.settings
  pub lines : AllByRecursion IsUtf8 site.script

-- ---- pages

-- the page of a route that was found, with the parameters of a query
abbrev pub found_page : ModelList → List Route → ReadSet → List Commit → List ℕ → Found → Option (List ℕ)
found_page schema routes set history query found =
    page_of set schema routes found (params_in routes found.route query) (table_of schema history)

-- the page of a request's target of the site with these parts, where a route has its path and the route's record is there
abbrev pub page_after : ModelList → List Route → ReadSet → List Commit → List ℕ → Option (List ℕ)
page_after schema routes set history target =
    option_and_then (found_page schema routes set history (query_of target)) (route_of routes (path_of target))

-- the same of a site
abbrev pub page_at : Site → List ℕ → Option (List ℕ)
page_at site target = page_after site.schema site.routes site.set site.history target
