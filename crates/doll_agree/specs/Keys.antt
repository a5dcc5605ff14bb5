-- What two pages have in common that ask for a cached block under one key (this project's own). A page is a table and variables over it.
use Rattle.std.specs.Prelude.{◌≡◌, List, ⊤}
use Rattle.std.specs.List.{Contains}
use Rattle.doll_expr.specs.declared.expr.Expr.{Expr}
use Rattle.doll_schema.specs.Models.{ModelList}
use Rattle.doll_schema.specs.declared.value.Val.{Val}
use Rattle.doll_schema.specs.declared.value.Val.TheVariants as val
use Rattle.doll_erb.specs.declared.node.KeyPart.{KeyPart}
use Rattle.doll_erb.specs.declared.node.KeyPart.TheVariants as part
use Rattle.doll_table.specs.Tables.{TableMap, row_of}
use Rattle.doll_eval.specs.Values.{value_of}
use Rattle.doll_plain.specs.Direct.{Variables}

-- where a value is a record, it has the same row in two tables
abbrev pub HasSameRow : TableMap → TableMap → Val → Type 0
HasSameRow one other (val.Record model id) = row_of one model id ≡ row_of other model id
HasSameRow one other v = ⊤

-- A part of a key has the same value on two pages, and where this is a record, also the same row: its version tells this.
pub record PartAgrees (schema : ModelList) (one other : TableMap) (here there : Variables) (expr : Expr) : Type 0 where
  pub value : value_of expr here schema one ≡ value_of expr there schema other
  pub row : HasSameRow one other (value_of expr here schema one)

-- all parts of a key do
abbrev pub KeysAgree : ModelList → TableMap → TableMap → Variables → Variables → List KeyPart → Type 0
KeysAgree schema one other here there key = (expr : Expr) → Contains key (part.Path expr) → PartAgrees schema one other here there expr
