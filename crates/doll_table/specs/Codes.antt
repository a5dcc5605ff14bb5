-- By what a proof tells two tables apart.
use Rattle.std.specs.Prelude.{ℕ, List, refl}
use Rattle.std.specs.Ordering.{nat_cmp}
use Rattle.std.specs.FinMap as finite
use Rattle.std.specs.Coded.{Coded, code_by, coded×, coded_ℕ, coded_list}
use Rattle.doll_schema.specs.declared.value.Row.{Row}
use Rattle.doll_schema.specs.declared.model.Schema.{Schema}
use Rattle.doll_schema.specs.contracts.value.Row as row
use Rattle.doll_schema.specs.contracts.model.Schema as schema
use Rattle.doll_table.specs.Tables.{Extent, TableMap}

-- an extent is told by its map and its next id
abbrev pub extent_code : Coded Extent
extent_code =
    code_by (finite.FinMap nat_cmp Row × ℕ) (coded× (finite.code coded_ℕ row.the_row.coded) coded_ℕ) (λ e. (e.rows, e.next)) (λ p. record { rows = p.0; next = p.1 }) (λ _. refl)

-- a table is told by its schema and its extents
abbrev pub table_code : Coded TableMap
table_code =
    code_by (Schema × List Extent) (coded× schema.the_row.coded (coded_list extent_code)) (λ t. (t.schema, t.extents)) (λ p. record { schema = p.0; extents = p.1 }) (λ _. refl)
