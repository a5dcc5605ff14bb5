-- Orders that are read line by line, of which the first are made already.
use Rattle.std.proofs.Common.{◌≡◌, ◌<◌, ◌+◌, ℕ, List, [], ◌∷◌, ◌++◌, Some, Result, Ok, Err, length, drop, get_or, refl, ap, append_assoc, sym, ◌∙◌}
use Rattle.std.proofs.lemmas.List.{append-nil, at_drop_more}
use Rattle.doll_script.specs.declared.order.Order.{Order}
use Rattle.doll_script.specs.declared.script.ScriptFault.{ScriptFault}
use Rattle.doll_script.specs.Lines.{order_in}
use Rattle.doll_script.specs.Scripts.{orders_from, with_order}

-- what is made, and behind it what is still to come
unfoldable pub with_made : List Order → Result (List Order) ScriptFault → Result (List Order) ScriptFault
with_made made (Ok more) = Ok (made ++ more)
with_made made (Err fault) = Err fault

-- nothing is made yet
pub made_starts : (all : Result (List Order) ScriptFault) → with_made [] all ≡ all
unfolding with_made
made_starts (Ok more) = refl
made_starts (Err fault) = refl

-- the first of what is to come is made
pub made_grows : (made : List Order) (line : ℕ) (order : Order) (others : Result (List Order) ScriptFault) → with_made made (with_order line (Some order) others) ≡ with_made (made ++ order ∷ []) others
unfolding with_made
made_grows made line order (Ok more) = ap (λ xs. Ok xs) (sym (append_assoc made (order ∷ []) more))
made_grows made line order (Err fault) = refl

-- a line is no order
pub made_stops : (made : List Order) (fault : ScriptFault) → with_made made (Err fault) ≡ Err fault
unfolding with_made
made_stops made fault = refl

-- no line is left
pub made_ends : (made : List Order) → with_made made (Ok []) ≡ Ok made
unfolding with_made
made_ends made = ap (λ xs. Ok xs) (append-nil made)

-- one line more is read as an order
pub made_more : (made : List Order) (at : ℕ) (lines : List (List ℕ)) (text : List ℕ) (order : Order) (all : Result (List Order) ScriptFault) → at < length lines → text ≡ get_or lines at text → order_in text ≡ Some order → with_made made (orders_from (at + 1) (drop at lines)) ≡ all → with_made (made ++ order ∷ []) (orders_from (at + 1 + 1) (drop (at + 1) lines)) ≡ all
made_more made at lines text order all within is read so =
    let rest = orders_from (at + 1 + 1) (drop (at + 1) lines) in
    let split : orders_from (at + 1) (drop at lines) ≡ with_order (at + 1) (order_in (get_or lines at text)) rest = at_drop_more (orders_from (at + 1)) lines at text within in
    let first : orders_from (at + 1) (drop at lines) ≡ with_order (at + 1) (Some order) rest = split ∙ ap (λ o. with_order (at + 1) o rest) (ap order_in (sym is) ∙ read) in
    sym (made_grows made (at + 1) order rest) ∙ ap (with_made made) (sym first) ∙ so
