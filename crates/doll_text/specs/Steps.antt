-- Reading in steps, of which the first that fails is the answer.
use Rattle.std.specs.Prelude.{Bool, true, false, Result, Ok, Err, ⊤}

infixl 10 ◌>>=◌
-- the value of a step goes on
abbrev pub ◌>>=◌ : {A B F : Type 0} → Result A F → (A → Result B F) → Result B F
(Ok x) >>= f = f x
(Err e) >>= f = Err e

infixl 10 ◌>>◌
-- a step without a value
abbrev pub ◌>>◌ : {A B F : Type 0} → Result A F → Result B F → Result B F
(Ok x) >> next = next
(Err e) >> next = Err e

-- the fault where the test fails
abbrev pub check : {F : Type 0} → Bool → F → Result ⊤ F
check true fault = Ok tt
check false fault = Err fault
