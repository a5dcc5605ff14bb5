-- A set's faults are one list (this project's own).
use Rattle.std.specs.Prelude.{◌≡◌, List}
use Rattle.doll_lint.specs.declared.fault.LintFault.{LintFault}
use Rattle.doll_lint.specs.Faults.{AreLintFaults}
use Rattle.doll_route.specs.declared.route.Route.{Route}
use Rattle.doll_schema.specs.Models.{ModelList}
use Rattle.doll_set.specs.Sets.{ReadSet}
use Rattle.doll_types.specs.declared.fault.TypeFault.{TypeFault}
use Rattle.doll_types.specs.Faults.{AreTypeFaults}

-- two lists that have exactly the faults of a set's types, each once, in their order, are the same
abbrev pub TypeFaultsAreOneList : Type 0
TypeFaultsAreOneList = (set : ReadSet) (schema : ModelList) (routes : List Route) (one other : List TypeFault)
    → AreTypeFaults set schema routes one → AreTypeFaults set schema routes other → one ≡ other

-- so are two that have those of its lint
abbrev pub LintFaultsAreOneList : Type 0
LintFaultsAreOneList = (set : ReadSet) (schema : ModelList) (routes : List Route) (one other : List LintFault)
    → AreLintFaults set schema routes one → AreLintFaults set schema routes other → one ≡ other
