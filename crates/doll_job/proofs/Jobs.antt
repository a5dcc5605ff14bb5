-- What a page still has to do behind each step.
use Rattle.std.proofs.Common.{◌≡◌, IfOk, IfSome, OnOk, length, ◌<◌, Result, Ok, Err, ◌≢◌, ℕ, ◌+◌, ◌≤◌, Bool, true, false, List, [], ◌∷◌, Option, Some, None, if◌then◌else◌, refl, ap, sym, subst, ◌∙◌, arith}
use Rattle.std.specs.Prelude.{bytes_eq, option_and_then, slice_get}
use Rattle.std.specs.Option.{option_map_or}
use Rattle.std.proofs.lemmas.List.{length-map}
use Rattle.std.proofs.lemmas.List.Quantifiers.{position-Some}
use Rattle.doll_schema.specs.declared.value.Value.{Value}
use Rattle.doll_table.specs.Tables.{TableMap}
use Rattle.doll_set.specs.declared.limits.TheConstants.{LONGEST_CHAIN}
use Rattle.doll_set.specs.declared.template.Template.{Template}
use Rattle.doll_set.specs.Dependencies.{names_of, number_of}
use Rattle.doll_route.specs.declared.route.Found.{Found}
use Rattle.doll_route.specs.declared.route.Route.{Route}
use Rattle.doll_plain.specs.Variables.{is_there, route_variables}
use Rattle.doll_types.specs.Reached.{route_typing}
use Rattle.doll_types.specs.Sets.{TypedSet}
use Rattle.doll_run.specs.Pages.{Ground, ground_of, opening_looks, page_run, route_run, template_runs}
use Rattle.doll_run.specs.Runs.{Ends, Rest}
use Rattle.doll_frames.specs.Along.{Went, next}
use Rattle.doll_frames.specs.Carried.{TemplateGoes}
use Rattle.doll_frames.specs.Contexts.{over_of}
use Rattle.doll_run.specs.Keys.{keyed_over}
use Rattle.doll_frames.specs.Left.{partial_left}
use Rattle.doll_frames.specs.Openings.{opened_scope}
use Rattle.doll_frames.specs.Stacks.{FramesLive, Given, given}
use Rattle.doll_frames.specs.declared.context.Context.{Context}
use Rattle.doll_frames.specs.declared.flow.Flow.{Flow}
use Rattle.doll_frames.specs.declared.frame.Frame.{Frame}
use Rattle.doll_frames.specs.declared.flow.Flow.TheVariants as flow
use Rattle.doll_frames.specs.declared.scope.Scope.{Scope}
use Rattle.doll_frames.specs.declared.stack.Answer.TheVariants as answer
use Rattle.doll_frames.proofs.Walking.{template_anew}
use Rattle.doll_job.specs.Jobs.{Begins, IsCarried, IsNext, JobLives, JobState, Opens, found_looks, job_ground, job_rest, left, need_at, told}
use Rattle.doll_job.specs.declared.job.Need.{Need}

plain : (n : ℕ) → n + 0 ≡ n
plain n = omega arith

-- a page without a template is at its end
pub carried_none : (over : Ground) (old : JobState) (before : ℕ) → old.template ≡ None → IsCarried over old old before before flow.Done
carried_none over old before none = record {
  more = 0;
  within = omega arith;
  is = λ looks.
      ap (λ t. option_map_or (λ number. partial_left over LONGEST_CHAIN number old.scope.typing old.scope.vars (given old.stopped.answer) old.stopped.frames) t (λ rest. rest) Ends looks old.written) none
      ∙ ap (λ n. Ends n old.written) (sym (plain looks));
  moment = refl;
  tree = refl;
}

-- a page whose template was carried on
pub carried_some : (over : Ground) (old new : JobState) (before after number : ℕ) (stop : Flow) → old.template ≡ Some number → new.template ≡ old.template → new.scope ≡ old.scope → new.moment ≡ old.moment → new.tree ≡ old.tree
    → Went (partial_left over LONGEST_CHAIN number old.scope.typing old.scope.vars (given old.stopped.answer) old.stopped.frames) (partial_left over LONGEST_CHAIN number old.scope.typing old.scope.vars) new.stopped before after old.written new.written stop
    → IsCarried over old new before after stop
carried_some over old new before after number stop there same scope moment tree went = record {
  more = went.along.more;
  within = went.along.within;
  is = λ looks.
      ap (λ t. option_map_or (λ n. partial_left over LONGEST_CHAIN n old.scope.typing old.scope.vars (given old.stopped.answer) old.stopped.frames) t (λ rest. rest) Ends looks old.written) there
      ∙ went.along.goes Ends looks old.written
      ∙ ap (λ w. next stop (λ found. partial_left over LONGEST_CHAIN number old.scope.typing old.scope.vars found new.stopped.frames) Ends (looks + went.along.more) w) (sym went.along.written)
      ∙ ap (λ (s : Scope). next stop (λ found. partial_left over LONGEST_CHAIN number s.typing s.vars found new.stopped.frames) Ends (looks + went.along.more) new.written) (sym scope)
      ∙ ap (λ t. next stop (λ found. option_map_or (λ n. partial_left over LONGEST_CHAIN n new.scope.typing new.scope.vars found new.stopped.frames) t (λ rest. rest)) Ends (looks + went.along.more) new.written) (sym (same ∙ there));
  moment = moment;
  tree = tree;
}

-- the ground of a context is that of a page with its set, its schema, its moment and the number of its set
ground_same : (context : Context) (checked : TypedSet) (job : JobState) (table : TableMap) → context.set.now ≡ checked.set → context.schema.now ≡ checked.schema → context.moment ≡ job.moment → context.tree ≡ job.tree
    → over_of context table ≡ job_ground checked job table
ground_same context checked job table set schema moment tree = (λ i. ground_of (set i) (schema i) table (moment i) (tree i) (keyed_over (set i) (schema i) table))

-- a page whose template a context carried on
pub carried_in : {E : Type 0} (context : Context) (checked : TypedSet) (table : TableMap) (old new : JobState) (before after number : ℕ) (result : Result Flow E)
    → context.set.now ≡ checked.set → context.schema.now ≡ checked.schema → context.moment ≡ old.moment → context.tree ≡ old.tree → context.levels ≡ LONGEST_CHAIN
    → old.template ≡ Some number → new.template ≡ old.template → OnOk result (new.scope ≡ old.scope) → new.moment ≡ old.moment → new.tree ≡ old.tree
    → IfOk result (TemplateGoes context table number old.scope old.stopped new.stopped before after old.written new.written)
    → IfOk result (IsCarried (job_ground checked old table) old new before after)
unfolding TemplateGoes
carried_in context checked table old new before after number (Ok stop) set schema moment tree levels there same scope new_moment new_tree goes =
    subst (λ over. IsCarried over old new before after stop) (ground_same context checked old table set schema moment tree)
    (carried_some (over_of context table) old new before after number stop there same scope new_moment new_tree
    (subst (λ n. Went (partial_left (over_of context table) n number old.scope.typing old.scope.vars (given old.stopped.answer) old.stopped.frames) (partial_left (over_of context table) n number old.scope.typing old.scope.vars) new.stopped before after old.written new.written stop) levels goes))
carried_in context checked table old new before after number (Err e) set schema moment tree levels there same scope new_moment new_tree goes = tt

-- its need is told
pub told_next : (over : Ground) (old mid : JobState) (before after : ℕ) (stop : Flow) → IsCarried over old mid before after stop → IsNext over old (told stop mid) before after (need_at stop mid.written)
told_next over old mid before after flow.Done carried = record { more = carried.more; within = carried.within; is = carried.is; waiting = refl; moment = carried.moment; tree = carried.tree }
told_next over old mid before after (flow.Read ask) carried = record { more = carried.more; within = carried.within; is = carried.is; waiting = refl; moment = carried.moment; tree = carried.tree }
told_next over old mid before after (flow.ReadMany asks) carried = record { more = carried.more; within = carried.within; is = carried.is; waiting = refl; moment = carried.moment; tree = carried.tree }
told_next over old mid before after (flow.Write fresh) carried = record { more = carried.more; within = carried.within; is = carried.is; waiting = refl; moment = carried.moment; tree = carried.tree }

-- a page with a mark whether memory ran out
abbrev pub marked : Bool → JobState → JobState
marked failed job = record { template = job.template; scope = job.scope; written = job.written; stopped = job.stopped; moment = job.moment; tree = job.tree; failed = failed }

-- The same of a page that was marked before it was carried on, and after it.
pub step_next : (checked : TypedSet) (table : TableMap) (old from mid back new : JobState) (before after : ℕ) (stop : Flow) (need : Need) (first last : Bool) → from ≡ marked first old → back ≡ marked last mid
    → IsCarried (job_ground checked from table) from mid before after stop → new ≡ told stop back → need ≡ need_at stop back.written → IsNext (job_ground checked old table) old new before after need
step_next checked table old from mid back new before after stop need first last from_is back_is carried new_is need_is =
    subst (λ n. IsNext (job_ground checked old table) old n before after need) (sym (new_is ∙ ap (told stop) back_is))
    (subst (λ n. IsNext (job_ground checked old table) old (told stop (marked last mid)) before after n) (sym (need_is ∙ ap (λ (j : JobState). need_at stop j.written) back_is))
    (told_next (job_ground checked old table) old (marked last mid) before after stop (unmarked (subst (λ f. IsCarried (job_ground checked f table) f mid before after stop) from_is carried))))
  where
    unmarked : IsCarried (job_ground checked (marked first old) table) (marked first old) mid before after stop → IsCarried (job_ground checked old table) old (marked last mid) before after stop
    unmarked c = record { more = c.more; within = c.within; is = c.is; moment = c.moment; tree = c.tree }

-- its template and the records of its frames are still there
lives_told : (checked : TypedSet) (table : TableMap) (mid : JobState) (stop : Flow) → JobLives checked table mid → JobLives checked table (told stop mid)
unfolding FramesLive
lives_told checked table mid flow.Done lives = record { there = tt; vars = lives.vars; frames = tt }
lives_told checked table mid (flow.Read ask) lives = record { there = lives.there; vars = lives.vars; frames = lives.frames }
lives_told checked table mid (flow.ReadMany asks) lives = record { there = lives.there; vars = lives.vars; frames = lives.frames }
lives_told checked table mid (flow.Write fresh) lives = record { there = lives.there; vars = lives.vars; frames = lives.frames }

pub step_lives : (checked : TypedSet) (table : TableMap) (mid back new : JobState) (stop : Flow) (last : Bool) → back ≡ marked last mid → JobLives checked table mid → new ≡ told stop back → JobLives checked table new
step_lives checked table mid back new stop last back_is lives is =
    subst (JobLives checked table) (sym (is ∙ ap (told stop) back_is)) (lives_told checked table (marked last mid) stop (record { there = lives.there; vars = lives.vars; frames = lives.frames }))

-- no frames live in every table
pub none_live : (table : TableMap) (frames : List Frame) → frames ≡ [] → FramesLive table frames
unfolding FramesLive
none_live table [] none = tt
none_live table (frame ∷ frames) none = absurd (cc none)

-- ---- opening

module _ (over : Ground) (looks : ℕ) where
  -- a template that begins is what is left of it with no frame
  begun : (number : Option ℕ) (scope : Scope) → option_map_or (λ n. template_runs over n scope.typing scope.vars Ends looks []) number (Ends looks [])
      ≡ option_map_or (λ n. partial_left over LONGEST_CHAIN n scope.typing scope.vars (given answer.Nothing) []) number (λ rest. rest) Ends looks []
  unfolding partial_left
  begun None scope = refl
  begun (Some n) scope = ap (λ (run : Rest → Rest). run Ends looks []) (sym (template_anew over LONGEST_CHAIN n scope.typing scope.vars (given answer.Nothing)))

  opened_by : (number : Option ℕ) (own scope : Scope) (there : Bool) → Some scope ≡ (if there then Some own else None)
      → (if there then Some (option_map_or (λ n. template_runs over n own.typing own.vars Ends looks []) number (Ends looks [])) else None)
      ≡ Some (option_map_or (λ n. partial_left over LONGEST_CHAIN n scope.typing scope.vars (given answer.Nothing) []) number (λ rest. rest) Ends looks [])
  opened_by number own scope true is = ap Some (begun number own ∙ ap (λ (s : Scope). option_map_or (λ n. partial_left over LONGEST_CHAIN n s.typing s.vars (given answer.Nothing) []) number (λ rest. rest) Ends looks []) (sym (some_is is)))
    where
      some_is : {x y : Scope} → Some x ≡ Some y → x ≡ y
      some_is e = cc e
  opened_by number own scope false is = absurd (cc is)

-- what the page of a route whose variables are bound runs
page_begun : (over : Ground) (routes : List Route) (found : Found) (params : List Value) (route : Route) (scope : Scope) → slice_get routes found.route ≡ Some route → Some scope ≡ opened_scope over.schema route found.id params over.table
    → page_run over routes found params
    ≡ Some (option_map_or (λ n. partial_left over LONGEST_CHAIN n scope.typing scope.vars (given answer.Nothing) []) (number_of (names_of over.templates) route.template) (λ rest. rest) Ends (found_looks routes found) [])
page_begun over routes found params route scope there bound =
    ap (λ r. option_and_then (λ (one : Route). route_run over one found.id params) r) there
    ∙ opened_by over (opening_looks route.subject) (number_of (names_of over.templates) route.template) (record { typing = route_typing over.schema route; vars = route_variables over.schema route found.id params over.table }) scope (is_there over.table route.subject found.id) bound
    ∙ ap (λ r. Some (option_map_or (λ n. partial_left over LONGEST_CHAIN n scope.typing scope.vars (given answer.Nothing) []) (number_of (names_of over.templates) route.template) (λ rest. rest) Ends (option_map_or (λ (one : Route). opening_looks one.subject) r 0) [])) (sym there)

-- A page of a route whose variables are bound begins.
pub opens_page : (checked : TypedSet) (routes : List Route) (found : Found) (params : List Value) (table : TableMap) (moment tree : ℕ) (route : Route) (scope : Scope) (job : JobState)
    → slice_get routes found.route ≡ Some route → Some scope ≡ opened_scope checked.schema route found.id params table
    → job ≡ record { template = number_of (names_of checked.set.templates) route.template; scope = scope; written = []; stopped = record { frames = []; answer = answer.Nothing }; moment = moment; tree = tree; failed = false }
    → Begins checked routes found params table moment tree job
opens_page checked routes found params table moment tree route scope job there bound is =
    subst (Begins checked routes found params table moment tree) (sym is)
    (record {
      moment_is = refl;
      tree_is = refl;
      run = page_begun (ground_of checked.set checked.schema table moment tree (keyed_over checked.set checked.schema table)) routes found params route scope there bound;
      waiting = refl;
      going = refl;
    })

-- No page begins where there is no such route, and none where its record isn't in the table.
pub opens_no_route : (checked : TypedSet) (routes : List Route) (found : Found) (params : List Value) (table : TableMap) (moment tree : ℕ) → slice_get routes found.route ≡ None → Opens checked routes found params table moment tree None
opens_no_route checked routes found params table moment tree none =
    ap (λ r. option_and_then (λ (one : Route). route_run (ground_of checked.set checked.schema table moment tree (keyed_over checked.set checked.schema table)) one found.id params) r) none

unopened_by : {A : Type 0} (there : Bool) (own : Scope) (run : A) → None ≡ (if there then Some own else None) → (if there then Some run else None) ≡ None
unopened_by true own run is = absurd (cc is)
unopened_by false own run is = refl

pub opens_no_record : (checked : TypedSet) (routes : List Route) (found : Found) (params : List Value) (table : TableMap) (moment tree : ℕ) (route : Route) → slice_get routes found.route ≡ Some route → None ≡ opened_scope checked.schema route found.id params table → Opens checked routes found params table moment tree None
opens_no_record checked routes found params table moment tree route there none =
    ap (λ r. option_and_then (λ (one : Route). route_run (ground_of checked.set checked.schema table moment tree (keyed_over checked.set checked.schema table)) one found.id params) r) there
    ∙ unopened_by (is_there table route.subject found.id) (record { typing = route_typing checked.schema route; vars = route_variables checked.schema route found.id params table }) _ none

-- the number of a template that a name means is below that of templates
pub number_within : (templates : List Template) (name : List ℕ) (found : Option ℕ) → found ≡ number_of (names_of templates) name → IfSome found (λ n. n < length templates)
number_within templates name None is = tt
number_within templates name (Some n) is =
    subst (λ m. n < m) (length-map templates (λ (t : Template). t.name)) (position-Some (bytes_eq name) (names_of templates) n [] (sym is)).0
