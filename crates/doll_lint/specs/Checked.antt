-- Sets that a lint passes, and what is answered of the others (this project's own).
use Rattle.std.specs.Prelude.{◌≡◌, ◌≢◌, [], Result, MatchResult, ⊤}
use Rattle.doll_types.specs.Sets.{IsTypedSet, TypedSet}
use Rattle.doll_lint.specs.declared.checked.LintRefusal.{LintRefusal}
use Rattle.doll_lint.specs.declared.checked.LintRefusal.TheVariants as refusal
use Rattle.doll_lint.specs.Faults.{AreLintFaults, IsClean}

-- what every layer above may rest on
pub record IsChecked (t : TypedSet) : Type 0 where
  -- the set is typed, and what pages reach is listed
  pub typed : IsTypedSet t
  -- no block reads beyond its key or may share it
  pub clean : IsClean t.set t.schema t.routes

-- a refusal tells the faults, of which there are some, unless memory ran out
abbrev pub IsRefused : TypedSet → LintRefusal → Type 0
IsRefused t (refusal.Faults faults) = AreLintFaults t.set t.schema t.routes faults × (faults ≢ [])
IsRefused t refusal.Memory = ⊤

-- a typed set passes exactly where no fault is there, unless memory ran out
abbrev pub IsLinted : TypedSet → Result TypedSet LintRefusal → Type 0
IsLinted typed result = MatchResult result (λ checked. (checked ≡ typed) × IsClean typed.set typed.schema typed.routes) (IsRefused typed)
