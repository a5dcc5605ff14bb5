-- Sites whose fragments may be kept (this project's own).
use Rattle.std.specs.Prelude.{◌≡◌, ℕ, List, slice_get, Some, Ok}
use Rattle.serde_json.specs.Data.{Data}
use Rattle.doll_route.specs.declared.route.Route.{Route}
use Rattle.doll_schema.specs.declared.model.Model.{Model}
use Rattle.doll_schema.specs.Models.{ModelList}
use Rattle.doll_schema.specs.Schemas.{schema_of}
use Rattle.doll_set.specs.Sets.{IsSet, ReadSet}
use Rattle.doll_types.specs.Faults.{IsTyped}
use Rattle.doll_lint.specs.Faults.{IsClean}

-- no two models have one plural
abbrev pub HasDistinctPlurals : ModelList → Type 0
HasDistinctPlurals schema =
    (m n : ℕ) (one other : Model) → slice_get schema.models m ≡ Some one → slice_get schema.models n ≡ Some other
    → one.plural ≡ other.plural → m ≡ n

-- A set that was read, is typed and clean for a schema and routes, where a plural names one model.
pub record IsSite (set : ReadSet) (schema : ModelList) (routes : List Route) : Type 0 where
  pub read : IsSet set.templates set.graph set.digests
  pub typed : IsTyped set schema routes
  pub clean : IsClean set schema routes
  pub plurals : HasDistinctPlurals schema

-- ---- what was read

-- in a schema that was read a plural names one model
abbrev pub SchemasHavePlurals : Type 0
SchemasHavePlurals = (json : Data) (schema : ModelList) → schema_of json ≡ Ok schema → HasDistinctPlurals schema
