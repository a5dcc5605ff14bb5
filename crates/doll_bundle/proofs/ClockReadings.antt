-- Readings that a clock gave, one after another.
use Rattle.std.proofs.Common.{◌<◌, ℕ, List, [], ◌∷◌, ◌++◌, length, Option, None, Some, ap, sym, ◌∙◌, append_assoc, length-append, arith}
use Rattle.std.proofs.lemmas.List.{append-nil}
use Rattle.doll_base.specs.Streams.{Appended}
use Rattle.doll_bundle.specs.Readings.{ReadsClock}

-- one reading more
pub appended_more : (first old new : Option (List ℕ)) (readings : List ℕ) (reading : ℕ) → Appended first old readings → Appended old new (reading ∷ []) → Appended first new (readings ++ reading ∷ [])
appended_more None None None readings reading before more = tt
appended_more (Some first) (Some old) (Some new) readings reading before more =
    more ∙ ap (λ (l : List ℕ). l ++ reading ∷ []) before ∙ append_assoc first readings (reading ∷ [])
appended_more None None (Some new) readings reading before more = absurd more
appended_more None (Some old) new readings reading before more = absurd before
appended_more (Some first) None new readings reading before more = absurd before
appended_more (Some first) (Some old) None readings reading before more = absurd more

-- a clock that gave readings, and then one more
pub reads_more : (most : ℕ) (first old new : Option (List ℕ)) (readings : List ℕ) (reading : ℕ) → Appended first old readings → Appended old new (reading ∷ []) → length readings < most → ReadsClock most first new
reads_more most first old new readings reading before more few =
    (readings ++ reading ∷ [], appended_more first old new readings reading before more, omega (arith, length-append readings (reading ∷ []), few))

-- no reading
pub appended_none : (now : Option (List ℕ)) → Appended now now []
appended_none None = tt
appended_none (Some given) = sym (append-nil given)
