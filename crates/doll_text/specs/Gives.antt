-- What a call answers, where one answer is right and want of memory is free.
use Rattle.std.specs.Prelude.{◌≡◌, Result, Ok, Err, MatchResult}

-- The call gave, seen by view, what is expected of it, value or fault, unless memory ran out (this project's own).
abbrev pub GivesBy : {X Y F : Type 0} → (X → Y) → F → Result Y F → Result X F → Type 0
GivesBy view memory expected result = MatchResult result (λ x. expected ≡ Ok (view x)) (λ e. (e ≡ memory → ⊥) → expected ≡ Err e)

-- the same of a call that takes no memory
abbrev pub GivesExactly : {X Y F : Type 0} → (X → Y) → Result Y F → Result X F → Type 0
GivesExactly view expected result = MatchResult result (λ x. expected ≡ Ok (view x)) (λ e. expected ≡ Err e)

-- what was expected, unless memory ran out, of a value that is seen as it is
abbrev pub Gives : {X F : Type 0} → F → Result X F → Result X F → Type 0
Gives memory expected result = MatchResult result (λ x. expected ≡ Ok x) (λ e. (e ≡ memory → ⊥) → expected ≡ Err e)
