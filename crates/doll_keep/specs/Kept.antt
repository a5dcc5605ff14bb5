-- The list that a keeper keeps, and what its calls give (this project's own). A keeper tells its list or tells
-- nothing, and that never changes.
use Rattle.std.specs.Prelude.{◌≡◌, ℕ, Bool, true, false, List, [], ◌∷◌, ◌++◌, Option, Some, None, Result, Ok, Err, Vec, slice_get, map}
use Rattle.std.specs.declared.alloc.Global.{Global}
use Rattle.doll_base.specs.Faults.{Plan}
use Rattle.doll_keep.specs.declared.keeper.KeepFault.{KeepFault}
use Rattle.doll_keep.specs.declared.keeper.KeepFault.TheVariants.{Failed, Memory}

-- This item was added at the end of the list.
abbrev pub Added : Option (List (List ℕ)) → Option (List (List ℕ)) → List ℕ → Type 0
Added None None item = Unit {0}
Added None (Some new) item = ⊥
Added (Some old) None item = ⊥
Added (Some old) (Some new) item = new ≡ old ++ item ∷ []

-- The item at this place, where a list is told, or none exactly past its end.
abbrev pub GivesItem : Option (List (List ℕ)) → ℕ → Option (Vec ℕ Global) → Type 0
GivesItem None at item = Unit {0}
GivesItem (Some kept) at None = slice_get kept at ≡ None
GivesItem (Some kept) at (Some item) = slice_get kept at ≡ Some item.items

-- The keeper failed in this call. Want of memory is no failure of the keeper.
abbrev pub has_failed : {T : Type 0} → Result T KeepFault → Bool
has_failed (Ok value) = false
has_failed (Err Failed) = true
has_failed (Err Memory) = false

-- What is known of a keeper in memory: the items that it keeps, and the plan of its faults.
pub record MemKept : Type 0 where
  pub kept : List (List ℕ)
  pub plan : Plan

-- The bytes of each of these vectors.
abbrev pub contents : List (Vec ℕ Global) → List (List ℕ)
contents items = map (λ item. item.items) items
