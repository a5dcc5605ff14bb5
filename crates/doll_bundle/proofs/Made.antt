-- Commits made one after another.
use Rattle.std.proofs.Common.{◌≡◌, Result, Ok, Err, refl}
use Rattle.doll_text.specs.Steps.{◌>>=◌}

-- after a step that went well the next decides
pub step_goes_on : {A B F : Type 0} (r : Result A F) (f : A → Result B F) (x : A) → r ≡ Ok x → (r >>= f) ≡ f x
step_goes_on r f x is = rw is refl

-- a step that was refused is the answer
pub step_stops : {A B F : Type 0} (r : Result A F) (f : A → Result B F) (why : F) → r ≡ Err why → (r >>= f) ≡ Err why
step_stops r f why is = rw is refl
