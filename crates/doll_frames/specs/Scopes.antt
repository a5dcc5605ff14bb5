-- The variables that a partial is rendered with (this project's own).
use Rattle.std.specs.Prelude.{◌≡◌, ℕ, List, map, sum_by, Option, None, Some, Result, Ok, Err}
use Rattle.doll_erb.specs.declared.node.Local.{Local}
use Rattle.doll_schema.specs.Models.{ModelList}
use Rattle.doll_table.specs.Tables.{TableMap}
use Rattle.doll_eval.specs.Values.{looks_of, value_of}
use Rattle.doll_plain.specs.Direct.{Variables}
use Rattle.doll_types.specs.declared.types.TypeKind.{TypeKind}
use Rattle.doll_types.specs.Findings.{locals_typing}
use Rattle.doll_types.specs.Types.{Typing}
use Rattle.doll_frames.specs.declared.scope.Scope.{Scope}

-- each local with its value
abbrev pub locals_values : ModelList → TableMap → List Local → Variables → Variables
locals_values schema table locals vars = map (λ (l : Local). (l.name, value_of l.value vars schema table)) locals

-- the looks that these values may take
abbrev pub locals_looks : ModelList → TableMap → List Local → Variables → ℕ
locals_looks schema table locals vars = sum_by (λ (l : Local). looks_of l.value vars schema table) locals

-- what a partial is rendered with where its locals have types, nothing where one has none
abbrev pub locals_by : Result Typing TypeKind → Variables → Option Scope
locals_by (Ok typing) vars = Some (record { typing = typing; vars = vars })
locals_by (Err kind) vars = None

-- these are the types and values of locals
abbrev pub AreLocals : ModelList → TableMap → List Local → Scope → Option Scope → Type 0
AreLocals schema table locals scope own = own ≡ locals_by (locals_typing schema scope.typing locals) (locals_values schema table locals scope.vars)
