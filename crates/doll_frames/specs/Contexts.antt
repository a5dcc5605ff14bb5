-- What the parts of a template are rendered in (this project's own).
use Rattle.std.specs.Prelude.{◌<◌, ◌≤◌, ◌^◌, length}
use Rattle.doll_table.specs.Tables.{TableMap}
use Rattle.doll_run.specs.Pages.{Ground}
use Rattle.doll_run.specs.Keys.{keyed_over}
use Rattle.doll_frames.specs.declared.context.Context.{Context}

-- what a context stands for over a table
abbrev pub over_of : Context → TableMap → Ground
over_of context table = record {
  schema = context.schema.now;
  table = table;
  moment = context.moment;
  tree = context.tree;
  templates = context.set.now.templates;
  keyed = keyed_over context.set.now context.schema.now table;
}

-- its template is one of the set's, which has at most as many as have a number of two bytes
pub record Known (context : Context) : Type 0 where
  pub there : context.number < length context.set.now.templates
  pub few : length context.set.now.templates ≤ 2 ^ 16
