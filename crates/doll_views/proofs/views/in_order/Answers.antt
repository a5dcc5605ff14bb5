use Rattle.doll_views.proofs.Placed.{sorted_is}
use Rattle.doll_views.proofs.Wanted.{file_total}
use Rattle.doll_views.proofs.views.in_order.Goals as goal

pub returns : goal.returns
returns c = sorted_is file_total c.args.files.items c.sort.new.self.items c.in_ok-sort.ensures.sorted c.sort.ensures.stable
