-- A set whose list of faults is empty passes.
use Rattle.std.proofs.Common.{◌≡◌, List, [], subst, arith}
use Rattle.std.specs.List.{Contains}
use Rattle.doll_types.specs.Sets.{TypedSet}
use Rattle.doll_lint.specs.declared.fault.LintFault.{LintFault}
use Rattle.doll_lint.specs.Faults.{AreLintFaults, IsClean}

none_among : (x : LintFault) → Contains [] x → ⊥
none_among x h = absurd (omega (arith, h.1))

pub no_faults : (t : TypedSet) (faults : List LintFault) → AreLintFaults t.set t.schema t.routes faults → faults ≡ [] → IsClean t.set t.schema t.routes
no_faults t faults are none fault h = none_among fault (subst (λ fs. Contains fs fault) none (are.all fault h))
