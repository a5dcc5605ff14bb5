-- Faults in their order, each once.
use Rattle.std.specs.Prelude.{◌==◌, Bool, List}
use Rattle.std.specs.Cmp.Lexicographic.{pointwise}
use Rattle.std.specs.List.{Contains}
use Rattle.std.specs.List.Sorted.{IsStrictlySortedBy}
use Rattle.std.specs.Ordering.{eq_of_both, on}
use Rattle.doll_lint.specs.declared.fault.LintFault.{LintFault}
use Rattle.doll_lint.specs.Faults.{fault_order, kind_number, kind_place, kind_text}

-- the same fault
abbrev pub same_fault : LintFault → LintFault → Bool
same_fault =
    eq_of_both (on (λ (f : LintFault). f.template) (pointwise ◌==◌))
    (eq_of_both (on (λ (f : LintFault). f.at) ◌==◌)
    (eq_of_both (on (λ (f : LintFault). kind_place f.kind) ◌==◌)
    (eq_of_both (on (λ (f : LintFault). kind_text f.kind) (pointwise ◌==◌)) (on (λ (f : LintFault). kind_number f.kind) ◌==◌))))

-- the same faults, each once, in their order
pub record AreInOrder (faults once : List LintFault) : Type 0 where
  pub ascend : IsStrictlySortedBy fault_order once
  pub kept : (fault : LintFault) → Contains faults fault → Contains once fault
  pub only : (fault : LintFault) → Contains once fault → Contains faults fault
