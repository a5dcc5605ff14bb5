-- What reading a whole input gives (this project's own).
use Rattle.std.specs.Prelude.{◌≡◌, ℕ, List, length, Result, Ok, Err, Vec, if◌then◌else◌, nat_lt}
use Rattle.std.specs.declared.alloc.Global.{Global}
use Rattle.doll_base.specs.declared.input.InputFault.{InputFault}
use Rattle.doll_base.specs.declared.input.InputFault.TheVariants.{Failed, TooLong, Memory}

-- All of these bytes, or the refusal of those that are more than allowed.
abbrev pub read_up_to : ℕ → List ℕ → Result (List ℕ) InputFault
read_up_to most bytes = if nat_lt most (length bytes) then Err TooLong else Ok bytes

-- The call gave what is expected of it, unless the source failed or no memory was found.
abbrev pub GivesInput : Result (List ℕ) InputFault → Result (Vec ℕ Global) InputFault → Type 0
GivesInput expected (Ok bytes) = expected ≡ Ok bytes.items
GivesInput expected (Err TooLong) = expected ≡ Err TooLong
GivesInput expected (Err Failed) = Unit {0}
GivesInput expected (Err Memory) = Unit {0}
