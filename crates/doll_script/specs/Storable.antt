-- What holds of every order that is read (this project's own).
use Rattle.std.specs.Prelude.{◌≡◌, ℕ, List, Ok, ⊤}
use Rattle.std.specs.List.{AllByRecursion}
use Rattle.std.specs.Str.{IsUtf8}
use Rattle.doll_journal.specs.Storable.{AreStorable}
use Rattle.doll_script.specs.declared.order.Order.{Order}
use Rattle.doll_script.specs.declared.order.Order.TheVariants as order
use Rattle.doll_script.specs.Scripts.{orders_of}

-- an order that may be made: the changes of a commit are some that a commit may have
abbrev pub MayBeMade : Order → Type 0
MayBeMade (order.Now now) = ⊤
MayBeMade (order.Commit changes) = AreStorable changes
MayBeMade (order.Open session target seen) = ⊤
MayBeMade (order.Turn session) = ⊤
MayBeMade (order.Run session) = ⊤
MayBeMade (order.Get target) = ⊤
MayBeMade order.Expire = ⊤

-- an order whose target is a text
abbrev pub IsForText : Order → Type 0
IsForText (order.Open session target seen) = IsUtf8 target
IsForText (order.Get target) = IsUtf8 target
IsForText other = ⊤

-- the orders of lines that are texts are for texts
abbrev pub TargetsAreTexts : Type 0
TargetsAreTexts =
    (lines : List (List ℕ)) (orders : List Order) → AllByRecursion IsUtf8 lines → orders_of lines ≡ Ok orders → AllByRecursion IsForText orders
