-- The orders of the lines of a script (this project's own).
use Rattle.std.specs.Prelude.{ℕ, ◌+◌, List, [], ◌∷◌, Option, Some, None, Result, Ok, Err}
use Rattle.doll_script.specs.declared.order.Order.{Order}
use Rattle.doll_script.specs.declared.script.ScriptFault.{ScriptFault}
use Rattle.doll_script.specs.declared.script.ScriptFault.TheVariants.{Line}
use Rattle.doll_script.specs.Lines.{order_in}

-- an order before others, or the line with this number that is none
abbrev pub with_order : ℕ → Option Order → Result (List Order) ScriptFault → Result (List Order) ScriptFault
with_order line None others = Err (Line line)
with_order line (Some order) (Ok others) = Ok (order ∷ others)
with_order line (Some order) (Err fault) = Err fault

-- the orders of lines of which the first has this number
abbrev pub orders_from : ℕ → List (List ℕ) → Result (List Order) ScriptFault
orders_from line [] = Ok []
orders_from line (text ∷ more) = with_order line (order_in text) (orders_from (line + 1) more)

-- one order for each line, or the first line that is none, counted from 1
abbrev pub orders_of : List (List ℕ) → Result (List Order) ScriptFault
orders_of lines = orders_from 1 lines
