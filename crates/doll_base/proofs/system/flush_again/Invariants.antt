use Rattle.std.specs.Io.KnownBytes.{Keeps}
use Rattle.doll_base.proofs.system.flush_again.Given as goal

-- an interrupted flush adds nothing
abbrev pub invariant-loop : goal.invariant-loop
invariant-loop g l = Keeps (g.W.Write.contents l.initial.writer) (g.W.Write.contents l.writer)
