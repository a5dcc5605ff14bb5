use Rattle.std.proofs.Common.{◌≡◌, take, map}
use Rattle.doll_lint.specs.Blocks.{part_shape}
use Rattle.doll_lint.proofs.block.key_shape.Given as goal

-- those of the parts so far
abbrev pub invariant-loop-part : goal.invariant-loop-part
invariant-loop-part l = l.shape ≡ map (part_shape l.schema l.typing) (take l.part-index l.key)
