-- Opening the page of a route (this project's own).
use Rattle.std.specs.Prelude.{ℕ, List, Option, None, Some, if◌then◌else◌}
use Rattle.doll_schema.specs.Models.{ModelList}
use Rattle.doll_schema.specs.declared.value.Value.{Value}
use Rattle.doll_table.specs.Tables.{TableMap}
use Rattle.doll_route.specs.declared.route.Route.{Route}
use Rattle.doll_route.specs.declared.route.Subject.{Subject}
use Rattle.doll_plain.specs.Variables.{is_there, route_variables, subject_value, variable_with}
use Rattle.doll_route.specs.Routes.{variable_of}
use Rattle.doll_types.specs.Reached.{route_typing, subject_typing}
use Rattle.doll_frames.specs.declared.scope.Scope.{Scope}

-- what a route is about, with its type
abbrev pub subject_scope : ModelList → Subject → Option ℕ → TableMap → Scope
subject_scope schema about id table = record { typing = subject_typing schema about; vars = variable_with (variable_of schema about) (subject_value table about id) }

abbrev pub opened_subject : ModelList → Subject → Option ℕ → TableMap → Option Scope
opened_subject schema about id table = if is_there table about id then Some (subject_scope schema about id table) else None

-- the variables that a route binds, with their types; none exactly where its record isn't in the table
abbrev pub opened_scope : ModelList → Route → Option ℕ → List Value → TableMap → Option Scope
opened_scope schema route id params table =
    if is_there table route.subject id then Some (record { typing = route_typing schema route; vars = route_variables schema route id params table }) else None
