use Rattle.std.proofs.Common.{◌≡◌, ◌+◌, drop}
use Rattle.std.specs.List.{AllByRecursion}
use Rattle.doll_script.specs.Storable.{MayBeMade}
use Rattle.doll_script.specs.Scripts.{orders_from}
use Rattle.doll_script.proofs.Made.{with_made}
use Rattle.doll_script.proofs.script.Script.read.Given as goal

-- the orders made and the lines that are left give the whole
abbrev pub invariant-loop-text : goal.invariant-loop-text
invariant-loop-text l = record {
  count : l.line ≡ l.text-index;
  orders : with_made l.orders (orders_from (l.text-index + 1) (drop l.text-index l.lines)) ≡ orders_from 1 l.lines;
  storable : AllByRecursion MayBeMade l.orders;
}
