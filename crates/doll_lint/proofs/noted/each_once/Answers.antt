use Rattle.doll_lint.proofs.Sorting.{notes_once}
use Rattle.doll_lint.proofs.noted.each_once.Goals as goal

pub returns : goal.returns
returns c = notes_once c.args.notes.items c.sort.new.self.items c.dedup.new.self.items c.sort.ensures.permutation c.in_ok-sort.ensures.sorted c.dedup.ensures.filtered
