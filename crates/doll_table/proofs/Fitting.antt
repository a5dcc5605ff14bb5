-- A table without rows fits its schema.
use Rattle.std.proofs.Common.{◌≡◌, ℕ, ◌<◌, ◌≤◌, zero, suc, length, arith, List, [], ◌∷◌, map, None, refl, sym, ◌∙◌, ap, subst}
use Rattle.std.specs.Prelude.{slice_get}
use Rattle.std.specs.Option.{option_map_or}
use Rattle.std.specs.Ordering.{nat_cmp}
use Rattle.std.specs.FinMap as finite
use Rattle.std.proofs.lemmas.List.{length-map}
use Rattle.doll_schema.specs.declared.model.Model.{Model}
use Rattle.doll_schema.specs.declared.model.Schema.{Schema}
use Rattle.doll_table.specs.Tables.{Extent, TableMap, empty_table, row_of}
use Rattle.doll_table.specs.Fits.{Fits}

empty_extents : (models : List Model) (at : ℕ) → option_map_or (λ (e : Extent). e.rows) (slice_get (map (λ (m : Model). record { rows = finite.empty; next = 1 }) models) at) finite.empty ≡ finite.empty
empty_extents [] at = refl
empty_extents (m ∷ models) zero = refl
empty_extents (m ∷ models) (suc at) = empty_extents models at

pub no_row : (schema : Schema) (model id : ℕ) → row_of (empty_table schema) model id ≡ None
no_row schema model id = ap (λ m. finite.get m id) (empty_extents schema.models model) ∙ finite.get-empty nat_cmp id

-- the extent of a model without rows
abbrev fresh : Model → Extent
fresh model = record { rows = finite.empty; next = 1 }

first_next : (models : List Model) (at : ℕ) → at < length (map fresh models) → 1 ≤ option_map_or (λ (e : Extent). e.next) (slice_get (map fresh models) at) 0
first_next [] at within = absurd (omega arith)
first_next (m ∷ models) zero within = omega arith
first_next (m ∷ models) (suc at) within = first_next models at (omega arith)

pub empty_fits : (schema : Schema) → Fits schema (empty_table schema)
empty_fits schema = record {
  same = refl;
  extents = length-map schema.models (λ (m : Model). record { rows = finite.empty; next = 1 });
  nexts = λ model within. first_next schema.models model within;
  ids = λ model id lives. let none = no_row schema model id in absurd (cc (none, lives));
  rows = λ model id m row at lives. let none = no_row schema model id in absurd (cc (none, lives));
}

pub equal_fits : (schema : Schema) (table : TableMap) → table ≡ empty_table schema → Fits schema table
equal_fits schema table e = subst (λ t. Fits schema t) (sym e) (empty_fits schema)
