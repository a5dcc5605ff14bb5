-- Sets that are typed, and what is answered of the others (this project's own).
use Rattle.std.specs.Prelude.{◌≡◌, ◌≢◌, ℕ, List, [], length, slice_get, Some, Result, MatchResult, ⊤}
use Rattle.doll_route.specs.declared.route.Route.{Route}
use Rattle.doll_schema.specs.Models.{ModelList}
use Rattle.doll_set.specs.Sets.{ReadSet}
use Rattle.doll_types.specs.declared.fault.TypeRefusal.{TypeRefusal}
use Rattle.doll_types.specs.declared.fault.TypeRefusal.TheVariants as refusal
use Rattle.doll_types.specs.declared.reached.Reached.{Reached}
use Rattle.doll_types.specs.Faults.{AreTypeFaults, IsTyped}
use Rattle.doll_types.specs.Reached.{AreReached, called_by}
use Rattle.doll_types.specs.Reachings.{AreNumbersOf}

-- a set that is typed for a schema and routes, with what pages reach and of each the numbers of the partials that it renders
pub record TypedSet : Type 0 where
  pub set : ReadSet
  pub schema : ModelList
  pub routes : List Route
  pub reached : List Reached
  pub calls : List (List ℕ)

-- what every layer above may rest on
pub record IsTypedSet (t : TypedSet) : Type 0 where
  -- no fault is there
  pub typed : IsTyped t.set t.schema t.routes
  -- what pages reach is listed, and nothing else
  pub reached : AreReached t.set t.schema t.routes t.reached
  -- the calls of each are numbered, in the order of the text
  pub each : length t.calls ≡ length t.reached
  pub calls : (at : ℕ) (one : Reached) (numbers : List ℕ) → slice_get t.reached at ≡ Some one → slice_get t.calls at ≡ Some numbers
      → AreNumbersOf t.reached numbers (called_by t.set t.schema one)

-- a refusal tells the faults, of which there are some, unless memory ran out
abbrev pub IsRefused : ReadSet → ModelList → List Route → TypeRefusal → Type 0
IsRefused set schema routes (refusal.Faults faults) = AreTypeFaults set schema routes faults × (faults ≢ [])
IsRefused set schema routes refusal.Memory = ⊤

-- a set is answered as typed exactly where it is, unless memory ran out
abbrev pub IsAnswered : ReadSet → ModelList → List Route → Result TypedSet TypeRefusal → Type 0
IsAnswered set schema routes result =
    MatchResult result (λ typed. (typed.set ≡ set) × (typed.schema ≡ schema) × (typed.routes ≡ routes) × IsTyped set schema routes) (IsRefused set schema routes)
