-- Records that are gone through one after another (this project's own).
use Rattle.std.specs.Prelude.{◌≡◌, List, [], drop, map, Option, None, Some, Result, Ok, Err}
use Rattle.doll_expr.specs.declared.expr.Expr.{Expr}
use Rattle.doll_schema.specs.Models.{ModelList}
use Rattle.doll_schema.specs.declared.value.Val.{Val}
use Rattle.doll_schema.specs.declared.value.Val.TheVariants as val
use Rattle.doll_table.specs.Tables.{TableMap}
use Rattle.doll_eval.specs.Living.{IsLiving}
use Rattle.doll_eval.specs.Values.{value_of}
use Rattle.doll_types.specs.declared.types.TypeKind.{TypeKind}
use Rattle.doll_types.specs.declared.types.ValueType.{ValueType}
use Rattle.doll_types.specs.Findings.{items_type}
use Rattle.doll_frames.specs.declared.scope.Scope.{Scope}
use Rattle.doll_frames.specs.declared.walk.Walk.{Walk}

-- the records of a walk, and those that weren't passed
abbrev pub items_in : Walk → List Val
items_in walk = map (λ id. val.Record walk.model id) walk.ids

abbrev pub items_left : Walk → List Val
items_left walk = drop walk.at (items_in walk)

-- its records are in a table
abbrev pub Lives : TableMap → Walk → Type 0
Lives table walk = IsLiving table (val.List walk.model walk.ids)

-- the items of a value with their type; what is no list has none
abbrev pub walk_of : ValueType → Val → Walk
walk_of of (val.List model ids) = record { of = of; model = model; ids = ids; at = 0 }
walk_of of other = record { of = of; model = 0; ids = []; at = 0 }

abbrev pub walk_by : Result ValueType TypeKind → Val → Option Walk
walk_by (Ok of) v = Some (walk_of of v)
walk_by (Err kind) v = None

-- this walk begins at a list
abbrev pub Begins : ModelList → TableMap → Expr → Scope → Option Walk → Type 0
Begins schema table list scope walk = walk ≡ walk_by (items_type schema scope.typing list) (value_of list scope.vars schema table)
