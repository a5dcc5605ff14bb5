use Rattle.std.proofs.Common.{◌≡◌, take}
use Rattle.std.specs.List.{flat_map}
use Rattle.doll_lint.specs.Blocks.{part_paths}
use Rattle.doll_lint.proofs.block.key_paths.Given as goal

-- those of the parts so far
abbrev pub invariant-loop-part : goal.invariant-loop-part
invariant-loop-part l = l.paths ≡ flat_map (part_paths l.schema l.typing l.standing) (take l.part-index l.key)
