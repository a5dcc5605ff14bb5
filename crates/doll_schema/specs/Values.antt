-- Of which kind a value is (this project's own).
use Rattle.std.specs.Prelude.{Bool, true, false}
use Rattle.doll_schema.specs.declared.model.Kind.{Kind}
use Rattle.doll_schema.specs.declared.model.Kind.TheVariants as kind
use Rattle.doll_schema.specs.declared.value.Value.{Value}
use Rattle.doll_schema.specs.declared.value.Value.TheVariants as value

-- whether a value is of a kind; nil is of each
abbrev pub has_kind : Kind → Value → Bool
has_kind k value.Nil = true
has_kind kind.Boolean (value.Bool b) = true
has_kind kind.Integer (value.Int n) = true
has_kind kind.Text (value.Text t) = true
has_kind k v = false
