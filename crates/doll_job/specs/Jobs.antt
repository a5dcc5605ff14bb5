-- Pages that are rendered from call to call: what is kept of one, and what it still has to do (this project's own).
use Rattle.std.specs.Prelude.{◌≡◌, ◌≤◌, ◌<◌, ◌+◌, ℕ, Bool, false, List, [], length, slice_get, Option, Some, None, IfSome}
use Rattle.std.specs.Option.{option_map_or}
use Rattle.doll_schema.specs.declared.value.Value.{Value}
use Rattle.doll_table.specs.Tables.{TableMap}
use Rattle.doll_eval.specs.Living.{AreLiving}
use Rattle.doll_set.specs.declared.limits.TheConstants.{LONGEST_CHAIN}
use Rattle.doll_route.specs.declared.route.Found.{Found}
use Rattle.doll_route.specs.declared.route.Route.{Route}
use Rattle.doll_types.specs.Sets.{TypedSet}
use Rattle.doll_entry.specs.declared.asks.Fetched.{Fetched}
use Rattle.doll_run.specs.Pages.{Ground, ground_of, opening_looks, page_run}
use Rattle.doll_run.specs.Runs.{Ends, Reads, ReadsMany, Rest, Run, Writes}
use Rattle.doll_frames.specs.Along.{many_given, next, none_given, one_given}
use Rattle.doll_run.specs.Keys.{keyed_over}
use Rattle.doll_frames.specs.Left.{partial_left}
use Rattle.doll_frames.specs.Stacks.{FramesLive, Given, Stopped, given}
use Rattle.doll_frames.specs.declared.flow.Flow.{Flow}
use Rattle.doll_frames.specs.declared.flow.Flow.TheVariants as flow
use Rattle.doll_frames.specs.declared.scope.Scope.{Scope}
use Rattle.doll_frames.specs.declared.stack.Answer.TheVariants as answer
use Rattle.doll_job.specs.declared.job.Need.{Need}
use Rattle.doll_job.specs.declared.job.Need.TheVariants as need

-- What is kept of a page: the number of its template, where there is one, its variables, what is written of it, where it stopped, the moment and the number of the
-- set that it is rendered by, and whether memory ran out.
pub record JobState : Type 0 where
  pub template : Option ℕ
  pub scope : Scope
  pub written : List ℕ
  pub stopped : Stopped
  pub moment : ℕ
  pub tree : ℕ
  pub failed : Bool

-- what a page is rendered over: a checked set and a table, with the moment and the number of the set that are its own
abbrev pub job_ground : TypedSet → JobState → TableMap → Ground
job_ground checked job table = ground_of checked.set checked.schema table job.moment job.tree (keyed_over checked.set checked.schema table)

-- ---- what is left

-- what is left of its template, by what was found for its last question
abbrev pub job_rest : Ground → JobState → Given → Rest → Rest
job_rest over job found =
    option_map_or (λ number. partial_left over LONGEST_CHAIN number job.scope.typing job.scope.vars found job.stopped.frames) job.template (λ rest. rest)

-- what a page still has to do behind so many looks, by what was found for its last question
abbrev pub left_by : Ground → JobState → Given → ℕ → Run
left_by over job found looks = job_rest over job found Ends looks job.written

-- the same by what it was answered
abbrev pub left : Ground → JobState → ℕ → Run
left over job looks = left_by over job (given job.stopped.answer) looks

-- a page with its answer
abbrev pub answered : Fetched → JobState → JobState
answered found job = record {
  template = job.template;
  scope = job.scope;
  written = job.written;
  stopped = record { frames = job.stopped.frames; answer = answer.One found };
  moment = job.moment;
  tree = job.tree;
  failed = job.failed;
}

abbrev pub answered_many : List Fetched → JobState → JobState
answered_many found job = record {
  template = job.template;
  scope = job.scope;
  written = job.written;
  stopped = record { frames = job.stopped.frames; answer = answer.Many found };
  moment = job.moment;
  tree = job.tree;
  failed = job.failed;
}

-- ---- needs

-- what has this need, and then is left by what is found for it
abbrev pub need_run : Need → (Given → Run) → ℕ → Run
need_run (need.Read ask) rest looks = Reads looks ask (λ found. rest (one_given found))
need_run (need.ReadMany asks) rest looks = ReadsMany looks asks (λ found. rest (many_given found))
need_run (need.Write fresh) rest looks = Writes looks fresh (rest none_given)
need_run (need.Done bytes) rest looks = Ends looks bytes

-- The need is the first call of what was left, and behind it is left what the page now has to do; the table was looked at no more often than may be up to that
-- call. Nothing is answered yet.
pub record IsNext (over : Ground) (old new : JobState) (before after : ℕ) (need : Need) : Type 0 where
  pub more : ℕ
  pub within : after ≤ before + more
  pub is : (looks : ℕ) → left over old looks ≡ need_run need (λ found. left_by over new found 0) (looks + more)
  pub waiting : new.stopped.answer ≡ answer.Nothing
  pub moment : new.moment ≡ old.moment
  pub tree : new.tree ≡ old.tree

-- how far a page was carried before its need is told: to its end, or to the call at which it stopped
pub record IsCarried (over : Ground) (old new : JobState) (before after : ℕ) (flow : Flow) : Type 0 where
  pub more : ℕ
  pub within : after ≤ before + more
  pub is : (looks : ℕ) → left over old looks ≡ next flow (job_rest over new) Ends (looks + more) new.written
  pub moment : new.moment ≡ old.moment
  pub tree : new.tree ≡ old.tree

-- what is needed where it stopped; at its end it is given away
abbrev pub need_at : Flow → List ℕ → Need
need_at flow.Done written = need.Done written
need_at (flow.Read ask) written = need.Read ask
need_at (flow.ReadMany asks) written = need.ReadMany asks
need_at (flow.Write fresh) written = need.Write fresh

-- a page of which nothing is answered yet
abbrev pub unanswered : JobState → JobState
unanswered job = record {
  template = job.template;
  scope = job.scope;
  written = job.written;
  stopped = record { frames = job.stopped.frames; answer = answer.Nothing };
  moment = job.moment;
  tree = job.tree;
  failed = job.failed;
}

-- a page of which nothing is left
abbrev pub emptied : JobState → JobState
emptied job = record {
  template = None;
  scope = job.scope;
  written = [];
  stopped = record { frames = []; answer = answer.Nothing };
  moment = job.moment;
  tree = job.tree;
  failed = job.failed;
}

-- a page once its need is told
abbrev pub told : Flow → JobState → JobState
told flow.Done job = emptied job
told (flow.Read ask) job = unanswered job
told (flow.ReadMany asks) job = unanswered job
told (flow.Write fresh) job = unanswered job

-- ---- over a table

-- Its template is one of the set's, and the records of its variables and of its frames are in the table.
pub record JobLives (checked : TypedSet) (table : TableMap) (job : JobState) : Type 0 where
  pub there : IfSome job.template (λ number. number < length checked.set.templates)
  pub vars : AreLiving table job.scope.vars
  pub frames : FramesLive table job.stopped.frames

-- ---- opening

-- the looks that opening the page of what a path found may take
abbrev pub found_looks : List Route → Found → ℕ
found_looks routes found = option_map_or (λ (route : Route). opening_looks route.subject) (slice_get routes found.route) 0

-- This page begins: it has to do what the page of a route runs over a table, and nothing is answered yet.
pub record Begins (checked : TypedSet) (routes : List Route) (found : Found) (params : List Value) (table : TableMap) (moment tree : ℕ) (job : JobState) : Type 0 where
  pub moment_is : job.moment ≡ moment
  pub tree_is : job.tree ≡ tree
  pub run : page_run (job_ground checked job table) routes found params ≡ Some (left (job_ground checked job table) job (found_looks routes found))
  pub waiting : job.stopped.answer ≡ answer.Nothing
  pub going : job.failed ≡ false

-- A page begins, or there is none because its record isn't in the table or there is no such route.
abbrev pub Opens : TypedSet → List Route → Found → List Value → TableMap → ℕ → ℕ → Option JobState → Type 0
Opens checked routes found params table moment tree (Some job) = Begins checked routes found params table moment tree job
Opens checked routes found params table moment tree None =
    page_run (ground_of checked.set checked.schema table moment tree (keyed_over checked.set checked.schema table)) routes found params ≡ None
