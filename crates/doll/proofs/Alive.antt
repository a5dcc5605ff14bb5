-- What is read of a bundle, and the site that it makes, are never a folder's fault.
use Rattle.std.proofs.Common.{◌≡◌, ◌≢◌, ℕ, ◌+◌, Bool, true, false, List, [], ◌∷◌, ◌++◌, length, Option, None, Some, Result, Ok, Err}
use Rattle.std.specs.Prelude.{codes}
use Rattle.std.specs.Option.{ok_or, option_map_or}
use Rattle.serde_json.specs.Data.{Data, Items, no_items, item}
use Rattle.doll_text.specs.Steps.{◌>>=◌, ◌>>◌, check}
use Rattle.serde_json.specs.Find.{as_str, get}
use Rattle.doll_schema.specs.Json.{has_only, list_if_given}
use Rattle.doll_schema.specs.Models.{ModelList}
use Rattle.doll_schema.specs.Schemas.{schema_of}
use Rattle.doll_schema.specs.declared.fault.SchemaFault.{SchemaFault}
use Rattle.doll_schema.specs.declared.fault.SchemaFault.TheVariants as schema_fault
use Rattle.doll_schema.specs.declared.model.Schema.{Schema}
use Rattle.doll_route.specs.Readings.{routes_of}
use Rattle.doll_route.specs.declared.fault.RouteFault.{RouteFault}
use Rattle.doll_route.specs.declared.fault.RouteFault.TheVariants as route_fault
use Rattle.doll_route.specs.declared.route.Route.{Route}
use Rattle.doll_settings.specs.Settings.{settings_in}
use Rattle.doll_views.specs.Bundles.{Loaded, bundle_in}
use Rattle.doll_views.specs.Faults.{or_schema_refusal, or_route_refusal, routes_in}
use Rattle.doll_views.specs.Forms.{bundle_keys, parts_of, settings_of}
use Rattle.doll_views.specs.Views.{Listing, unwanted, views_if_given, with_wanted, listing_of, listed, all_sourced, sourced, with_names, views_in}
use Rattle.doll_views.specs.declared.refusal.Refusal.{Refusal}
use Rattle.doll_views.specs.declared.refusal.Refusal.TheVariants.{Failed, Memory, Refused}
use Rattle.doll_views.specs.declared.refusal.BundlePart.{BundlePart}
use Rattle.doll_views.specs.declared.refusal.BundlePart.TheVariants as part
use Rattle.doll_views.specs.declared.refusal.Kind.{Kind}
use Rattle.doll_views.specs.declared.refusal.Kind.TheVariants as kind
use Rattle.doll_views.specs.declared.views.NamedFile.{NamedFile}
use Rattle.doll_views.specs.declared.views.Source.{Source}
use Rattle.doll_views.specs.declared.views.Source.TheVariants as source
use Rattle.doll_journal.specs.declared.change.Change.{Change}
use Rattle.doll_journal.specs.declared.change.Commit.{Commit}
use Rattle.doll_records.specs.declared.fault.RecordFault.{RecordFault}
use Rattle.doll_records.specs.declared.fault.RecordFault.TheVariants as fault
use Rattle.doll_records.specs.Commitments.{committed}
use Rattle.doll_bundle.specs.Commits.{asked_in, commit_result, commits_from, next_asked, next_reading, or_refusal, readings_behind, recorded, why_kind}
use Rattle.doll_bundle.specs.Scripts.{lines_of}
use Rattle.doll_bundle.specs.Sites.{site_of}

-- The answer isn't a folder's fault.
pub record IsAlive {A : Type 0} (r : Result A Refusal) : Type 0 where
  pub isnt : r ≢ Err Failed

-- steps one after another
bind_alive : {A B : Type 0} (r : Result A Refusal) (f : A → Result B Refusal) → IsAlive r → ((x : A) → IsAlive (f x)) → IsAlive (r >>= f)
bind_alive (Ok x) f first next = next x
bind_alive (Err why) f first next = record { isnt = λ is. first.isnt (cc is) }

then_alive : {A B : Type 0} (r : Result A Refusal) (next : Result B Refusal) → IsAlive r → IsAlive next → IsAlive (r >> next)
then_alive (Ok x) next first second = second
then_alive (Err why) next first second = record { isnt = λ is. first.isnt (cc is) }

fine : {A : Type 0} (x : A) → IsAlive (Ok x)
fine x = record { isnt = λ is. absurd (cc is) }

refused : {A : Type 0} (p : BundlePart) (n : ℕ) (k : Kind) → IsAlive {A = A} (Err (Refused p n k))
refused p n k = record { isnt = λ is. absurd (cc is) }

no_memory : {A : Type 0} → IsAlive {A = A} (Err Memory)
no_memory = record { isnt = λ is. absurd (cc is) }

check_refused : (test : Bool) (p : BundlePart) (n : ℕ) (k : Kind) → IsAlive (check test (Refused p n k))
check_refused true p n k = fine tt
check_refused false p n k = refused p n k

found_or : {A : Type 0} (o : Option A) (p : BundlePart) (n : ℕ) (k : Kind) → IsAlive (ok_or o (Refused p n k))
found_or (Some x) p n k = fine x
found_or None p n k = refused p n k

-- ---- the bundle

parts_alive : (d : Data) → IsAlive (parts_of d)
parts_alive d =
    then_alive _ _ (check_refused (has_only bundle_keys d) part.Json 0 kind.BadForm)
    (bind_alive _ _ (found_or (get (codes "schema") d) part.Json 0 kind.BadForm)
    (λ schema. fine (record {
      schema = schema;
      routes = get (codes "routes") d;
      views = get (codes "views") d;
      files = get (codes "files") d;
      settings = get (codes "settings") d;
      commits = get (codes "commits") d;
      script = get (codes "script") d;
    })))

schema_alive : (r : Result Schema SchemaFault) → IsAlive (or_schema_refusal r)
schema_alive (Ok schema) = fine schema
schema_alive (Err (schema_fault.BadForm at)) = refused part.Schema at.model kind.BadForm
schema_alive (Err (schema_fault.TooMany at)) = refused part.Schema at.model kind.TooMany
schema_alive (Err (schema_fault.UnknownKind at)) = refused part.Schema at.model kind.UnknownKind
schema_alive (Err (schema_fault.DuplicateName at)) = refused part.Schema at.model kind.DuplicateName
schema_alive (Err (schema_fault.UnknownModel at)) = refused part.Schema at.model kind.UnknownModel
schema_alive (Err (schema_fault.BadInverse at)) = refused part.Schema at.model kind.BadInverse
schema_alive (Err schema_fault.Memory) = no_memory

route_alive : (r : Result (List Route) RouteFault) → IsAlive (or_route_refusal r)
route_alive (Ok routes) = fine routes
route_alive (Err (route_fault.BadForm at)) = refused part.Routes at kind.BadForm
route_alive (Err (route_fault.BadPath at)) = refused part.Routes at kind.BadPath
route_alive (Err (route_fault.Reserved at)) = refused part.Routes at kind.Reserved
route_alive (Err (route_fault.UnknownModel at)) = refused part.Routes at kind.UnknownModel
route_alive (Err (route_fault.Duplicate at)) = refused part.Routes at kind.Duplicate
route_alive (Err (route_fault.TooMany at)) = refused part.Routes at kind.TooMany
route_alive (Err route_fault.Memory) = no_memory

routes_alive : (schema : ModelList) (routes : Option Data) → IsAlive (routes_in schema routes)
routes_alive schema None = fine []
routes_alive schema (Some d) = route_alive (routes_of schema d)

settings_alive : (settings : Option Data) → IsAlive (settings_of settings)
settings_alive settings = found_or (settings_in settings) part.Settings 0 kind.BadForm

names_alive : (listing : Listing) (names : Items) → IsAlive (with_names listing names)
names_alive listing no_items = fine listing
names_alive listing (item d names) =
    bind_alive _ _ (found_or (as_str d) part.Views 0 kind.BadForm) (λ name. names_alive (with_wanted listing name) names)

views_alive : (views : Option Data) → IsAlive (views_in views)
views_alive views = bind_alive _ _ (found_or (views_if_given views) part.Views 0 kind.BadForm) (λ members. fine _)

listed_alive : (views files : Option Data) → IsAlive (listed views files)
listed_alive views files =
    bind_alive _ _ (views_alive views)
    (λ placed. bind_alive _ _ (found_or (list_if_given files) part.Views 0 kind.BadForm) (λ names. names_alive (unwanted placed) names))

sourced_alive : (number : ℕ) (s : Source) → IsAlive (sourced number s)
sourced_alive number source.NoText = refused part.Views number kind.BadForm
sourced_alive number (source.Given text) = fine tt
sourced_alive number source.Folder = fine tt

all_sourced_alive : (number : ℕ) (files : List NamedFile) → IsAlive (all_sourced number files)
all_sourced_alive number [] = fine tt
all_sourced_alive number (file ∷ files) = then_alive _ _ (sourced_alive number file.source) (all_sourced_alive (number + 1) files)

listing_alive : (views files : Option Data) → IsAlive (listing_of views files)
listing_alive views files =
    bind_alive _ _ (listed_alive views files) (λ listing. then_alive _ _ (all_sourced_alive 0 listing.files) (fine listing))

pub bundle_alive : (d : Data) → IsAlive (bundle_in d)
unfolding bundle_in
bundle_alive d =
    bind_alive _ _ (parts_alive d)
    (λ parts. bind_alive _ _ (schema_alive (schema_of parts.schema))
    (λ schema. bind_alive _ _ (routes_alive schema parts.routes)
    (λ routes. bind_alive _ _ (settings_alive parts.settings)
    (λ settings. bind_alive _ _ (listing_alive parts.views parts.files) (λ listing. fine _)))))

-- ---- the site

committed_alive : {A : Type 0} (number : ℕ) (r : Result A RecordFault) → IsAlive (or_refusal number r)
committed_alive number (Ok x) = fine x
committed_alive number (Err (fault.HistoryFull count)) = refused part.Commits number kind.HistoryFull
committed_alive number (Err (fault.MomentsEnded last)) = refused part.Commits number kind.MomentsEnded
committed_alive number (Err (fault.Refused index what)) = refused part.Commits number (why_kind what)
committed_alive number (Err fault.Kept) = no_memory
committed_alive number (Err fault.Memory) = no_memory

recorded_alive : (schema : Schema) (history : List Commit) (time : ℕ) (changes : List Change) → IsAlive (recorded schema history time changes)
recorded_alive schema history time changes =
    then_alive _ _ (committed_alive (length history) (committed schema history (next_asked history time changes))) (fine (history ++ next_asked history time changes ∷ []))

commit_alive : (schema : Schema) (history : List Commit) (reading : ℕ) (d : Data) → IsAlive (commit_result schema history reading d)
unfolding commit_result
commit_alive schema history reading d =
    bind_alive _ _ (found_or (asked_in d) part.Commits (length history) kind.BadForm)
    (λ form. recorded_alive schema history (option_map_or (λ time. time) form.time reading) form.changes)

commits_alive : (schema : Schema) (history : List Commit) (readings : List ℕ) (commits : Items) → IsAlive (commits_from schema history readings commits)
commits_alive schema history readings no_items = fine history
commits_alive schema history readings (item d commits) =
    bind_alive _ _ (commit_alive schema history (next_reading readings) d) (λ next. commits_alive schema next (readings_behind d readings) commits)

pub site_alive : (loaded : Loaded) (readings : List ℕ) → IsAlive (site_of loaded readings)
site_alive loaded readings =
    bind_alive _ _ (commits_alive loaded.schema [] readings loaded.commits)
    (λ history. bind_alive _ _ (found_or (lines_of loaded.script) part.Script 0 kind.BadForm)
    (λ script. fine (record {
      schema = loaded.schema;
      routes = loaded.routes;
      set = loaded.set;
      history = history;
      settings = loaded.settings;
      script = script;
    })))

-- ---- answers

-- so a refusal that is the answer isn't one
pub alive_never : {A : Type 0} (r : Result A Refusal) (why : Refusal) → IsAlive r → ((why ≡ Memory → ⊥) → r ≡ Err why) → why ≡ Failed → ⊥
alive_never r why alive gives failed =
    alive.isnt (rw failed at (gives (λ memory. absurd (cc (failed, memory)))))
