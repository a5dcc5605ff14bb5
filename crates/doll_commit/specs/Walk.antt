-- Where a walk over records goes (this project's own).
use Rattle.std.specs.Prelude.{List}
use Rattle.doll_schema.specs.declared.model.Schema.{Schema}
use Rattle.doll_table.specs.Tables.{TableMap}
use Rattle.doll_commit.specs.declared.walk.Step.{Step}
use Rattle.doll_commit.specs.declared.walk.Step.TheVariants as step
use Rattle.doll_commit.specs.Refs.{Ref}
use Rattle.doll_commit.specs.Removed.{dependents}
use Rattle.doll_commit.specs.Commits.{touch_parents}

-- the records that a step leads to from one
abbrev pub steps_from : Step → TableMap → Schema → Ref → List Ref
steps_from step.Dependents table schema = dependents table schema
steps_from step.TouchParents table schema = touch_parents table schema
