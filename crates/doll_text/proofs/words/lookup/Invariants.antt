use Rattle.std.proofs.Common.{◌≡◌, map, length}
use Rattle.doll_text.specs.Names.{lookup}
use Rattle.doll_text.proofs.words.lookup.Given as goal

abbrev pub invariant-loop-table : goal.invariant-loop-table
invariant-loop-table g l = lookup (map (λ row. (row.0.now, row.1)) l.table) l.text ≡ lookup (map (λ row. (row.0.now, row.1)) l.initial.table) l.text

abbrev pub decreases-loop-table : goal.decreases-loop-table
decreases-loop-table g l = length l.table
