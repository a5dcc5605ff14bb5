-- What contracts see of a schema.
use Rattle.std.specs.Prelude.{List}
use Rattle.doll_schema.specs.declared.model.Model.{Model}

-- the models of a site, each named by its number in this list
pub record ModelList : Type 0 where
  pub models : List Model
