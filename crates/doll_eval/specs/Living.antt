-- Which values name only records that are in a table (this project's own).
use Rattle.std.specs.Prelude.{ℕ, List, All, IsSome, ⊤}
use Rattle.doll_schema.specs.declared.value.Val.{Val}
use Rattle.doll_schema.specs.declared.value.Val.TheVariants as val
use Rattle.doll_table.specs.Tables.{TableMap, row_of}

-- the record that a value is, or each record of the list that it is, is in the table
abbrev pub IsLiving : TableMap → Val → Type 0
IsLiving table (val.Plain v) = ⊤
IsLiving table (val.Record model id) = IsSome (row_of table model id)
IsLiving table (val.List model ids) = All (λ id. IsSome (row_of table model id)) ids

-- the same of each variable
abbrev pub AreLiving : TableMap → List (List ℕ × Val) → Type 0
AreLiving table vars = All (λ (binding : List ℕ × Val). IsLiving table binding.1) vars
