-- What one call after another comes to, by what a keeper tells of one call: the keeper before it, which call it is,
-- whether it fails in it, and the keeper after it (this project's own).
use Rattle.std.specs.Prelude.{◌≡◌, ◌⊎◌, ◌∷◌, ◌++◌, ℕ, zero, suc, Bool, true, false, List, [], None}
use Rattle.doll_base.specs.Faults.{Plan, is_due, after_call}
use Rattle.doll_keep.specs.Kept.{MemKept}

-- one call of a keeper: of the item with this number from 0, or of one more item with these bytes
pub data Call : Type 0 where
  Load : ℕ → Call
  Append : List ℕ → Call

-- what a keeper of this type may tell of one call
abbrev pub Telling : Type 0 → Type 1
Telling K = K → Call → Bool → K → Type 0

-- loads of the first items one after another, so many of them, in none of which the keeper fails
unfoldable pub Serves : {K : Type 0} → Telling K → ℕ → K → K → Type 0
Serves Called zero before after = after ≡ before
Serves {K} Called (suc loads) before after = (last : K) × Serves Called loads before last × Called last (Load loads) false after

-- the load of one item more, in which the keeper fails
abbrev pub FailsAfter : {K : Type 0} → Telling K → ℕ → K → K → Type 0
FailsAfter {K} Called loads before after = (last : K) × Serves Called loads before last × Called last (Load loads) true after

-- what a call does to the list: an append in which the keeper doesn't fail adds its item, or nothing where no memory
-- is found
abbrev pub ListAfter : Call → Bool → List (List ℕ) → List (List ℕ) → Type 0
ListAfter (Load at) fails old new = new ≡ old
ListAfter (Append bytes) true old new = new ≡ old
ListAfter (Append bytes) false old new = (new ≡ old ++ bytes ∷ []) ⊎ (new ≡ old)

-- what a keeper in memory tells of one call: it fails in exactly the calls of its plan
pub record MemCalled (before : MemKept) (call : Call) (fails : Bool) (after : MemKept) : Type 0 where
  pub due : fails ≡ is_due before.plan
  pub plan : after.plan ≡ after_call before.plan
  pub list : ListAfter call fails before.kept after.kept

-- a plan under which no call fails
pub record IsFaultless (plan : Plan) : Type 0 where
  pub failing : plan.failing ≡ []
  pub fuse : plan.fuse ≡ None

-- A keeper in memory that has such a plan fails in no call and keeps such a plan.
abbrev pub NeverFails : Type 0
NeverFails = (before after : MemKept) (call : Call) (fails : Bool) → IsFaultless before.plan → MemCalled before call fails after → (fails ≡ false) × IsFaultless after.plan
