-- What is reached so far (this project's own).
use Rattle.std.specs.Prelude.{◌≡◌, ℕ, ◌<◌, ◌≤◌, false, List, [], ◌∷◌, ◌++◌, length, map, slice_get, Some}
use Rattle.std.specs.List.{Contains}
use Rattle.doll_graph.specs.Graphs.{Graph, dependencies, has_longer}
use Rattle.doll_route.specs.declared.route.Route.{Route}
use Rattle.doll_schema.specs.Models.{ModelList}
use Rattle.doll_set.specs.Sets.{IsSet, ReadSet}
use Rattle.doll_types.specs.declared.fault.TypeFault.{TypeFault}
use Rattle.doll_types.specs.declared.reached.Reached.{Reached}
use Rattle.doll_types.specs.declared.reaching.Reach.{Reach}
use Rattle.doll_types.specs.Faults.{IsTypeFault, faults_of, missing, missing_of}
use Rattle.doll_types.specs.Reached.{IsReached, called_by, opened, opened_by}

-- the things that these numbers stand for, in this order
abbrev pub AreNumbersOf : List Reached → List ℕ → List Reached → Type 0
AreNumbersOf reached numbers ones = map (slice_get reached) numbers ≡ map Some ones

-- a list goes on, with nothing but what is among some others
pub record Grows (old new among : List Reached) : Type 0 where
  pub more : List Reached
  pub is : new ≡ old ++ more
  pub from : (one : Reached) → Contains more one → Contains among one

-- one more has its calls numbered and its faults listed
pub record IsExpanded (set : ReadSet) (schema : ModelList) (one : Reached) (old new : Reach) : Type 0 where
  pub grows : Grows old.reached new.reached (called_by set schema one)
  pub numbers : List ℕ
  pub calls : new.calls ≡ old.calls ++ numbers ∷ []
  pub numbered : AreNumbersOf new.reached numbers (called_by set schema one)
  pub faults : new.faults.items ≡ old.faults.items ++ faults_of set schema one

-- What is listed is reached, and has its faults listed as far as its calls are numbered.
pub record IsReaching (set : ReadSet) (schema : ModelList) (routes : List Route) (reach : Reach) : Type 0 where
  pub within : length reach.calls ≤ length reach.reached
  pub sound : (one : Reached) → Contains reach.reached one → IsReached set schema routes one
  pub opens : (one : Reached) → Contains (opened set schema routes) one → Contains reach.reached one
  pub numbered : (at : ℕ) (one : Reached) (numbers : List ℕ) → slice_get reach.reached at ≡ Some one → slice_get reach.calls at ≡ Some numbers
      → AreNumbersOf reach.reached numbers (called_by set schema one)
  pub faulty : (fault : TypeFault) → Contains reach.faults.items fault → IsTypeFault set schema routes fault
  pub missing : (fault : TypeFault) → Contains (missing set routes) fault → Contains reach.faults.items fault
  pub faults : (at : ℕ) (one : Reached) (fault : TypeFault) → at < length reach.calls → slice_get reach.reached at ≡ Some one
      → Contains (faults_of set schema one) fault → Contains reach.faults.items fault

-- from each that is listed from a place on, no chain of more than so many templates begins
abbrev pub AreShortFrom : Graph → ℕ → ℕ → List Reached → Type 0
AreShortFrom graph levels from reached =
    (at : ℕ) (one : Reached) → from ≤ at → slice_get reached at ≡ Some one → has_longer graph levels one.template ≡ false

-- each that is listed is a template of the set
abbrev pub AreTemplates : Graph → List Reached → Type 0
AreTemplates graph reached = (one : Reached) → Contains reached one → one.template < length graph

-- Each partial that a template of a set renders is one of those that it depends on.
abbrev pub CallsAreDependencies : Type 0
CallsAreDependencies =
    (set : ReadSet) (schema : ModelList) (caller one : Reached) → IsSet set.templates set.graph set.digests
    → Contains (called_by set schema caller) one → Contains (dependencies set.graph caller.template) one.template

-- those whose calls aren't numbered begin no chain of more than so many templates
pub record IsShallow (graph : Graph) (levels : ℕ) (reach : Reach) : Type 0 where
  pub templates : AreTemplates graph reach.reached
  pub short : AreShortFrom graph levels (length reach.calls) reach.reached

-- what one route opens is there, or its fault
pub record IsOpened (set : ReadSet) (schema : ModelList) (route : Route) (old new : Reach) : Type 0 where
  pub grows : Grows old.reached new.reached (opened_by set schema route)
  pub has : (one : Reached) → Contains (opened_by set schema route) one → Contains new.reached one
  pub calls : new.calls ≡ old.calls
  pub faults : new.faults.items ≡ old.faults.items ++ missing_of set route

-- what routes open is there, and nothing else; so are their faults
pub record AreOpened (set : ReadSet) (schema : ModelList) (routes : List Route) (reach : Reach) : Type 0 where
  pub grows : Grows [] reach.reached (opened set schema routes)
  pub has : (one : Reached) → Contains (opened set schema routes) one → Contains reach.reached one
  pub calls : reach.calls ≡ []
  pub faults : reach.faults.items ≡ missing set routes
