use Rattle.doll_plain.proofs.Levels.{more_levels}
use Rattle.doll_plain.proofs.page.more_levels_change_nothing.Goals as goal

pub returns : goal.returns
returns c = more_levels
