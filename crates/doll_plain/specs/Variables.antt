-- The variables that a route binds (this project's own).
use Rattle.std.specs.Prelude.{ℕ, Bool, true, false, List, [], ◌∷◌, ◌++◌, map, Option, None, Some, is_some, option_map}
use Rattle.std.specs.List.{zip}
use Rattle.std.specs.Option.{option_map_or}
use Rattle.doll_schema.specs.Models.{ModelList}
use Rattle.doll_schema.specs.declared.value.Val.{Val}
use Rattle.doll_schema.specs.declared.value.Val.TheVariants as val
use Rattle.doll_schema.specs.declared.value.Value.{Value}
use Rattle.doll_table.specs.Tables.{TableMap, ids_of, row_of}
use Rattle.doll_route.specs.declared.route.Route.{Route}
use Rattle.doll_route.specs.declared.route.Subject.{Subject}
use Rattle.doll_route.specs.declared.route.Subject.TheVariants as subject
use Rattle.doll_route.specs.Routes.{variable_of}
use Rattle.doll_plain.specs.Direct.{Variables}

-- whether what a route is about is there: a record must be in the table
abbrev pub is_there : TableMap → Subject → Option ℕ → Bool
is_there table (subject.Record model) id = option_map_or (λ id. is_some (row_of table model id)) id false
is_there table (subject.List model) id = true
is_there table subject.Nothing id = true

-- what a route is about: the record that its path names, or all records of a model that are in the table, ascending by id
abbrev pub subject_value : TableMap → Subject → Option ℕ → Option Val
subject_value table (subject.Record model) id = option_map (val.Record model) id
subject_value table (subject.List model) id = Some (val.List model (ids_of table model))
subject_value table subject.Nothing id = None

-- a variable, where there is both a name and a value
abbrev pub variable_with : Option (List ℕ) → Option Val → Variables
variable_with None value = []
variable_with (Some name) None = []
variable_with (Some name) (Some value) = (name, value) ∷ []

-- the parameters of a route under their names
abbrev pub parameters : List (List ℕ) → List Value → Variables
parameters names values = map (λ (one : List ℕ × Value). (one.0, val.Plain one.1)) (zip names values)

-- the variables that a route binds: what it is about under that one's name, then its parameters
abbrev pub route_variables : ModelList → Route → Option ℕ → List Value → TableMap → Variables
route_variables schema route id params table =
    variable_with (variable_of schema route.subject) (subject_value table route.subject id) ++ parameters route.params params
