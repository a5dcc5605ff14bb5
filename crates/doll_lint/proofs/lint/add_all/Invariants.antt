use Rattle.std.proofs.Common.{take}
use Rattle.doll_lint.specs.Found.{Grows, all_blocks}
use Rattle.doll_lint.proofs.lint.add_all.Given as goal

-- the blocks of what is reached so far
abbrev pub invariant-loop-one : goal.invariant-loop-one
invariant-loop-one l = Grows l.set l.schema (all_blocks l.set l.schema (take l.one-index l.reached)) l.fn.found l.found
