-- Reading so many fields of one sort, of which the first are read already.
use Rattle.std.proofs.Common.{◌≡◌, ℕ, suc, ◌+◌, ◌-◌, ◌<◌, ◌≤◌, List, [], ◌∷◌, ◌++◌, Ok, Err, refl, sym, ap, ◌∙◌, append_assoc, arith}
use Rattle.std.proofs.lemmas.List.{append-nil}
use Rattle.doll_text.specs.Steps.{◌>>=◌}
use Rattle.doll_journal.specs.declared.fault.JournalFault.{JournalFault}
use Rattle.doll_journal.specs.Fields.{Field, repeated}

-- what is read, and behind it what is still to be read
unfoldable pub fronted : {X : Type 0} → List X → Field (List X) → Field (List X)
fronted front (Ok x) = Ok (front ++ x.0, x.1)
fronted front (Err e) = Err e

-- nothing is read yet
pub fronted_starts : {X : Type 0} (read : Field (List X)) → fronted [] read ≡ read
unfolding fronted
fronted_starts (Ok x) = refl
fronted_starts (Err e) = refl

grown : {X : Type 0} (front : List X) (x : X) (others : Field (List X)) → fronted front (others >>= (λ o. Ok (x ∷ o.0, o.1))) ≡ fronted (front ++ x ∷ []) others
unfolding fronted
grown front x (Ok o) = ap (λ xs. Ok (xs, o.1)) (sym (append_assoc front (x ∷ []) o.0))
grown front x (Err e) = refl

-- one more is read
pub fronted_more : {X : Type 0} (one : List ℕ → Field X) (front : List X) (count i : ℕ) (bytes after : List ℕ) (x : X) (whole : Field (List X)) → i < count → one bytes ≡ Ok (x, after)
    → fronted front (repeated one (count - i) bytes) ≡ whole → fronted (front ++ x ∷ []) (repeated one (count - (i + 1)) after) ≡ whole
unfolding repeated
fronted_more one front count i bytes after x whole lt is so_far =
    let k : count - i ≡ suc (count - (i + 1)) = omega arith in
    let step : fronted front (repeated one (count - i) bytes) ≡ fronted (front ++ x ∷ []) (repeated one (count - (i + 1)) after) = rw (k, is) (grown front x (repeated one (count - (i + 1)) after)) in
    sym step ∙ so_far

-- the next can't be read
pub fronted_fails : {X : Type 0} (one : List ℕ → Field X) (front : List X) (count i : ℕ) (bytes : List ℕ) (e want : JournalFault) (whole : Field (List X)) → i < count → ((e ≡ want → ⊥) → one bytes ≡ Err e)
    → fronted front (repeated one (count - i) bytes) ≡ whole → (e ≡ want → ⊥) → whole ≡ Err e
unfolding repeated fronted
fronted_fails one front count i bytes e want whole lt fails so_far other =
    let is : one bytes ≡ Err e = fails other in
    let k : count - i ≡ suc (count - (i + 1)) = omega arith in
    let step : fronted front (repeated one (count - i) bytes) ≡ Err e = rw (k, is) refl in
    sym so_far ∙ step

-- all are read
pub fronted_done : {X : Type 0} (one : List ℕ → Field X) (front : List X) (count i : ℕ) (bytes : List ℕ) (whole : Field (List X)) → count ≤ i
    → fronted front (repeated one (count - i) bytes) ≡ whole → whole ≡ Ok (front, bytes)
unfolding repeated fronted
fronted_done one front count i bytes whole le so_far =
    let k : count - i ≡ 0 = omega arith in
    let step : fronted front (repeated one (count - i) bytes) ≡ Ok (front, bytes) = rw k (ap (λ xs. Ok (xs, bytes)) (append-nil front)) in
    sym so_far ∙ step
