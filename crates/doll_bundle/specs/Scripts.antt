-- The lines of a bundle's script (this project's own).
use Rattle.std.specs.Prelude.{ℕ, List, [], Option, Some, option_and_then, Result}
use Rattle.std.specs.Option.{ok_or}
use Rattle.serde_json.specs.Data.{Data, Items, no_items, item}
use Rattle.serde_json.specs.Find.{as_str}
use Rattle.doll_schema.specs.Json.{list_if_given}
use Rattle.doll_journal.specs.Forms.{with_first}
use Rattle.doll_views.specs.declared.refusal.BundlePart.TheVariants as part
use Rattle.doll_views.specs.declared.refusal.Kind.TheVariants as kind
use Rattle.doll_views.specs.declared.refusal.Refusal.{Refusal}
use Rattle.doll_views.specs.declared.refusal.Refusal.TheVariants.{Refused}

-- items that are texts
abbrev pub texts_in : Items → Option (List (List ℕ))
texts_in no_items = Some []
texts_in (item d items) = with_first (as_str d) (texts_in items)

-- the texts of an array, none where it is left out; null isn't left out
abbrev pub lines_of : Option Data → Option (List (List ℕ))
lines_of script = option_and_then texts_in (list_if_given script)

-- a script that is no array of texts
abbrev pub script_refusal : Refusal
script_refusal = Refused part.Script 0 kind.BadForm

-- the lines of a bundle's script; whether they are orders isn't asked
abbrev pub script_in : Option Data → Result (List (List ℕ)) Refusal
script_in script = ok_or (lines_of script) script_refusal
