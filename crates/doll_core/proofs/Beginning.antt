-- A session that is opened comes to the page of its target.
use Rattle.std.proofs.Common.{◌≡◌, ℕ, Bool, true, false, List, [], ◌∷◌, length, Option, Some, None, IsSome, slice_get, refl, ap, sym, subst, ◌∙◌, nat_lt, arith}
use Rattle.std.proofs.lemmas.Bool.Decides.{nat_tests}
use Rattle.std.specs.Prelude.{◌≤◌, IfSome, is_some, option_and_then, if◌then◌else◌}
use Rattle.std.specs.List.{AllByRecursion}
use Rattle.std.proofs.lemmas.List.Elements.{recursion_from_All}
use Rattle.doll_schema.specs.declared.value.Value.{Value}
use Rattle.doll_schema.specs.declared.value.Value.TheVariants as value
use Rattle.doll_job.specs.Jobs.{Begins, JobLives, JobState, Opens as JobOpens, found_looks, job_ground, left}
use Rattle.doll_keep.specs.Kept.{MemKept}
use Rattle.doll_plain.specs.Pages.{page_of, route_page}
use Rattle.doll_plain.specs.Variables.{is_there}
use Rattle.doll_records.specs.Histories.{moment_at, table_of}
use Rattle.doll_records.specs.declared.records.Snapshot.{Snapshot}
use Rattle.doll_report.specs.declared.outcome.Outcome.TheVariants as outcome
use Rattle.doll_report.specs.declared.outcome.TheConstants.{CONFLICT, NOT_FOUND}
use Rattle.doll_route.specs.Paths.{path_of, query_of}
use Rattle.doll_route.specs.Queries.{AreParamsFor, is_param, param_names, params_in}
use Rattle.doll_route.specs.Routes.{route_of}
use Rattle.doll_route.specs.declared.route.Found.{Found}
use Rattle.doll_route.specs.declared.route.Route.{Route}
use Rattle.doll_run.specs.Comes.{AreParameters}
use Rattle.doll_run.specs.Keys.{keyed_over}
use Rattle.doll_run.specs.Pages.{Ground, ground_of, page_run, route_run}
use Rattle.doll_run.specs.Runs.{Run}
use Rattle.doll_run.proofs.Opening.{pages_come}
use Rattle.doll_shelf.specs.Calls.{Shelved}
use Rattle.doll_sound.specs.Sites.{IsSite}
use Rattle.doll_table.specs.Tables.{TableMap}
use Rattle.doll_types.specs.Sets.{TypedSet}
use Rattle.doll_types.specs.Sound.{ValueHasType}
use Rattle.doll_types.specs.declared.types.ValueType.TheVariants.{Text}
use Rattle.doll_world.specs.Worlds.{WorldParts}
use Rattle.doll_core.specs.Beginnings.{IsSnapshotOf, Opens}
use Rattle.doll_core.specs.Cores.{ComesTo}
use Rattle.doll_core.specs.Openings.{found_run, ground_now, moment_now, opened, opening_by, refused}
use Rattle.doll_core.specs.Pages.{KnownPagesOpen}
use Rattle.doll_core.specs.States.{SessionParts, run_of}

-- ---- parameters

param_typed : (v : Value) → is_param v ≡ true → ValueHasType Text v
param_typed value.Nil is = tt
param_typed (value.Text text) is = tt
param_typed (value.Bool truth) is = absurd (cc is)
param_typed (value.Int number) is = absurd (cc is)

params_typed : (params : List Value) → AllByRecursion (λ v. is_param v ≡ true) params → AllByRecursion (ValueHasType Text) params
params_typed [] are = tt
params_typed (v ∷ params) are = (param_typed v are.0, params_typed params are.1)

parameters : (route : Route) (params : List Value) → AreParamsFor route.params params → AreParameters route params
parameters route params are = (are.0, params_typed params (recursion_from_All (λ v. is_param v ≡ true) params are.1))

-- ---- a page is there exactly where there is something to do for it

both_there : {X Y : Type 0} (b : Bool) (x : X) (y : Y) → IsSome (if b then Some x else None) → IsSome (if b then Some y else None)
both_there true x y is = refl
both_there false x y is = absurd (cc is)

given : {X : Type 0} (o : Option X) → IsSome o → (x : X) × (o ≡ Some x)
given None is = absurd (cc is)
given (Some x) is = (x, refl)

is_given : {X : Type 0} (o : Option X) (x : X) → o ≡ Some x → IsSome o
is_given o x is = ap is_some is

module _ (checked : TypedSet) (table : TableMap) (moment tree : ℕ) (found : Found) (params : List Value) where
  abbrev over : Ground
  over = ground_of checked.set checked.schema table moment tree (keyed_over checked.set checked.schema table)

  pub page_for_run : IsSome (page_run over checked.routes found params) → IsSome (page_of checked.set checked.schema checked.routes found params table)
  page_for_run is = by (slice_get checked.routes found.route) is
    where
      by : (o : Option Route) → IsSome (option_and_then (λ (r : Route). route_run over r found.id params) o)
          → IsSome (option_and_then (λ (r : Route). route_page checked.set checked.schema r found.id params table) o)
      by None is = is
      by (Some r) is = both_there (is_there table r.subject found.id) _ _ is

  pub run_for_page : IsSome (page_of checked.set checked.schema checked.routes found params table) → IsSome (page_run over checked.routes found params)
  run_for_page is = by (slice_get checked.routes found.route) is
    where
      by : (o : Option Route) → IsSome (option_and_then (λ (r : Route). route_page checked.set checked.schema r found.id params table) o)
          → IsSome (option_and_then (λ (r : Route). route_run over r found.id params) o)
      by None is = is
      by (Some r) is = both_there (is_there table r.subject found.id) _ _ is

-- ---- opening what a path found

module _ (world : WorldParts MemKept Shelved) (snapshot : Snapshot) (now : IsSnapshotOf world snapshot) (target : List ℕ) (found : Found) (params : List Value)
    (at : route_of world.checked.routes (path_of target) ≡ Some found) (are : params ≡ params_in world.checked.routes found.route (query_of target)) where
  abbrev run_over : Ground → Option Run
  run_over over = page_run over world.checked.routes found params

  -- with no record there is no page
  pub none_opens : page_run (ground_of world.checked.set world.checked.schema snapshot.table snapshot.moment 0 (keyed_over world.checked.set world.checked.schema snapshot.table)) world.checked.routes found params ≡ None
      → found_run world target found ≡ None
  none_opens none =
      ap (λ p. page_run (ground_now world) world.checked.routes found p) (sym are)
      ∙ (λ i. run_over (ground_of world.checked.set world.checked.schema (sym now.whole i) (sym now.moment i) 0 (keyed_over world.checked.set world.checked.schema (sym now.whole i))))
      ∙ none

  pub none_opened : found_run world target found ≡ None → Opens world (opened world target (found_run world target found)) (outcome.NoPage NOT_FOUND snapshot.moment) None
  none_opened none = record {
    outcome = ap (outcome.NoPage NOT_FOUND) now.moment ∙ ap (λ r. (opened world target r).outcome) (sym none);
    session_is = ap (λ r. (opened world target r).session) (sym none);
    lives = tt;
  }

  module _ (site : IsSite world.checked.set world.checked.schema world.checked.routes) (fitting : AreParamsFor (param_names (slice_get world.checked.routes found.route)) params)
      (job : JobState) (begins : Begins world.checked world.checked.routes found params snapshot.table snapshot.moment 0 job)
      (charged : ℕ) (charges : charged ≡ found_looks world.checked.routes found) where
    abbrev pub session : SessionParts
    session = record { target = target; snapshot = snapshot; job = job; charged = charged }

    same : ground_now world ≡ job_ground world.checked job snapshot.table
    same = λ i. ground_of world.checked.set world.checked.schema (sym now.whole i) (sym (begins.moment_is ∙ now.moment) i) (sym begins.tree_is i)
        (keyed_over world.checked.set world.checked.schema (sym now.whole i))

    runs : run_over (job_ground world.checked job snapshot.table) ≡ Some (run_of world.checked session)
    runs = begins.run ∙ ap (λ looks. Some (left (job_ground world.checked job snapshot.table) job looks)) (sym charges)

    finds : found_run world target found ≡ Some (run_of world.checked session)
    finds = ap (λ p. page_run (ground_now world) world.checked.routes found p) (sym are) ∙ ap run_over same ∙ runs

    abbrev page : (bytes : List ℕ) × (page_of world.checked.set world.checked.schema world.checked.routes found params snapshot.table ≡ Some bytes)
    page = given _ (page_for_run world.checked snapshot.table job.moment job.tree found params (is_given _ _ runs))

    comes : (o : Option Route) → slice_get world.checked.routes found.route ≡ o → ComesTo world.checked session page.0 (run_of world.checked session)
    comes None is = absurd (none_some (sym (ap (λ o. option_and_then (λ (r : Route). route_run (job_ground world.checked job snapshot.table) r found.id params) o) is) ∙ runs))
      where
        none_some : ◌≡◌ {A = Option Run} None (Some (run_of world.checked session)) → ⊥
        none_some e = cc e
    comes (Some route) is =
        pages_come world.checked.set world.checked.schema world.checked.routes snapshot.table job.moment job.tree (keyed_over world.checked.set world.checked.schema snapshot.table)
        found route params (run_of world.checked session) page.0 site.read site.typed now.fits is
        (parameters route params (subst (λ o. AreParamsFor (param_names o) params) is fitting)) runs page.1

    pub begun : JobLives world.checked snapshot.table job → Opens world (opened world target (found_run world target found)) (outcome.Opened snapshot.moment) (Some session)
    begun living = record {
      outcome = ap outcome.Opened now.moment ∙ ap (λ r. (opened world target r).outcome) (sym finds);
      session_is =
          (λ i. Some (record { target = target; place = now.place i; run = run_of world.checked session }))
          ∙ ap (λ r. (opened world target r).session) (sym finds);
      lives = record {
        within = subst (λ n. n ≤ length world.records.history) (sym now.place) (omega arith);
        table_is = now.table;
        moment_is = begins.moment_is ∙ now.moment ∙ ap (moment_at world.records.history) (sym now.place);
        tree_is = begins.tree_is;
        fits = now.fits;
        lives = living;
        page = page.0;
        page_is =
            ap (λ o. option_and_then (λ (f : Found). page_of world.checked.set world.checked.schema world.checked.routes f (params_in world.checked.routes f.route (query_of target)) snapshot.table) o) at
            ∙ ap (λ p. page_of world.checked.set world.checked.schema world.checked.routes found p snapshot.table) (sym are) ∙ page.1;
        comes = comes (slice_get world.checked.routes found.route) refl;
      };
    }

-- the same over a set, routes and a table that are these
module _ (world : WorldParts MemKept Shelved) (snapshot : Snapshot) (now : IsSnapshotOf world snapshot) (target : List ℕ) (found : Found) (params : List Value)
    (checked : TypedSet) (routes : List Route) (table : TableMap) (checked_is : checked ≡ world.checked) (routes_are : routes ≡ world.checked.routes) (table_is : table ≡ snapshot.table)
    (at : route_of routes (path_of target) ≡ Some found) (are : params ≡ params_in routes found.route (query_of target)) where
  pub begun_by : IsSite world.checked.set world.checked.schema world.checked.routes → AreParamsFor (param_names (slice_get routes found.route)) params
      → (started : Option JobState) (job : JobState) → started ≡ Some job → JobOpens checked routes found params table snapshot.moment 0 started → IfSome started (JobLives checked table)
      → (charged : ℕ) → charged ≡ found_looks routes found
      → Opens world (opened world target (found_run world target found)) (outcome.Opened snapshot.moment) (Some (record { target = target; snapshot = snapshot; job = job; charged = charged }))
  begun_by site fitting started job is opens lives charged charges =
      begun world snapshot now target found params
      (subst (λ rs. route_of rs (path_of target) ≡ Some found) routes_are at)
      (subst (λ rs. params ≡ params_in rs found.route (query_of target)) routes_are are)
      site
      (subst (λ rs. AreParamsFor (param_names (slice_get rs found.route)) params) routes_are fitting)
      job
      (subst (λ c. Begins c world.checked.routes found params snapshot.table snapshot.moment 0 job) checked_is
      (subst (λ rs. Begins checked rs found params snapshot.table snapshot.moment 0 job) routes_are
      (subst (λ t. Begins checked routes found params t snapshot.moment 0 job) table_is
      (subst (λ s. JobOpens checked routes found params table snapshot.moment 0 s) is opens))))
      charged (subst (λ rs. charged ≡ found_looks rs found) routes_are charges)
      (subst (λ c. JobLives c snapshot.table job) checked_is (subst (λ t. JobLives checked t job) table_is (subst (λ s. IfSome s (JobLives checked table)) is lives)))

  pub none_by : (started : Option JobState) → started ≡ None → JobOpens checked routes found params table snapshot.moment 0 started
      → Opens world (opened world target (found_run world target found)) (outcome.NoPage NOT_FOUND snapshot.moment) None
  none_by started is opens =
      let own = subst (λ rs. params ≡ params_in rs found.route (query_of target)) routes_are are in
      let way = subst (λ rs. route_of rs (path_of target) ≡ Some found) routes_are at in
      none_opened world snapshot now target found params way own
      (none_opens world snapshot now target found params way own
      (subst (λ c. JobOpens c world.checked.routes found params snapshot.table snapshot.moment 0 None) checked_is
      (subst (λ rs. JobOpens checked rs found params snapshot.table snapshot.moment 0 None) routes_are
      (subst (λ t. JobOpens checked routes found params t snapshot.moment 0 None) table_is
      (subst (λ s. JobOpens checked routes found params table snapshot.moment 0 s) is opens)))))

-- ---- a page that is there is opened

pub pages_open : KnownPagesOpen
pages_open world target seen there known = by (route_of world.checked.routes (path_of target)) there
  where
    opens : (r : Option Run) → IsSome r → IsSome (opened world target r).session
    opens None is = absurd (cc is)
    opens (Some run) is = refl

    late : nat_lt (moment_now world) seen ≡ false
    late = grind (arith, nat_tests, known)

    by : (o : Option Found)
        → IsSome (option_and_then (λ (f : Found). page_of world.checked.set world.checked.schema world.checked.routes f (params_in world.checked.routes f.route (query_of target)) (table_of world.checked.schema world.records.history)) o)
        → IsSome (opening_by world target seen o).session
    by None is = absurd (cc is)
    by (Some found) is =
        subst (λ b. IsSome (if b then refused CONFLICT world else opened world target (found_run world target found)).session) (sym late)
        (opens (found_run world target found) (run_for_page world.checked (table_of world.checked.schema world.records.history) (moment_now world) 0 found (params_in world.checked.routes found.route (query_of target)) is))
