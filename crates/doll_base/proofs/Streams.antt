-- Laws of what calls do to bytes.
use Rattle.std.proofs.Common.{◌≡◌, ℕ, ◌+◌, ◌-◌, List, ◌++◌, length, take, drop, Option, Some, None, append_assoc, ◌∙◌, sym, ap, arith, length-drop, take-append-drop}
use Rattle.std.proofs.Math.Seq.{take-add}
use Rattle.std.proofs.lemmas.List.{take_all, drop-drop}
use Rattle.doll_base.specs.Streams.{Appended}

-- the first of the items from a place on
taken_from : (items : List ℕ) (done n : ℕ) → take done items ++ take n (take (length items - done) (drop done items)) ≡ take (done + n) items
taken_from items done n =
    let whole : take (length items - done) (drop done items) ≡ drop done items = take_all _ _ (omega (arith, length-drop done items)) in
    ap (λ (l : List ℕ). take done items ++ take n l) whole ∙ sym (take-add done n items)

-- a first part, and then a first part of the rest
pub Appended-more : (first old new : Option (List ℕ)) (items : List ℕ) (done n : ℕ) → Appended first old (take done items) → Appended old new (take n (take (length items - done) (drop done items))) → Appended first new (take (done + n) items)
Appended-more None None None items done n before more = tt
Appended-more (Some first) (Some old) (Some new) items done n before more =
    let next = take n (take (length items - done) (drop done items)) in
    more ∙ ap (λ (l : List ℕ). l ++ next) before ∙ append_assoc first (take done items) next ∙ ap (λ (l : List ℕ). first ++ l) (taken_from items done n)
Appended-more None None (Some new) items done n before more = absurd more
Appended-more None (Some old) new items done n before more = absurd before
Appended-more (Some first) None new items done n before more = absurd before
Appended-more (Some first) (Some old) None items done n before more = absurd more

-- what is left from a place on: its first items, and what is left behind them
pub left_from : (items : List ℕ) (at n : ℕ) → drop at items ≡ take n (take (length items - at) (drop at items)) ++ drop (at + n) items
left_from items at n =
    let whole : take (length items - at) (drop at items) ≡ drop at items = take_all _ _ (omega (arith, length-drop at items)) in
    sym (take-append-drop n (drop at items)) ∙ ap (λ (l : List ℕ). take n l ++ drop n (drop at items)) (sym whole) ∙ ap (λ (l : List ℕ). take n (take (length items - at) (drop at items)) ++ l) (drop-drop n at items)
