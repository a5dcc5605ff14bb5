use Rattle.std.proofs.Common.{length}
use Rattle.doll_types.proofs.keyed.+is_same_typing.Given as goal

abbrev pub decreases-is_same_typing : goal.decreases-is_same_typing
decreases-is_same_typing l = length l.one.now
