-- The line that tells why a bundle is refused (this project's own).
use Rattle.std.specs.Prelude.{ℕ, List, ◌++◌, codes}
use Rattle.std.specs.Fmt.{decimal}
use Rattle.doll_views.specs.declared.refusal.BundlePart.{BundlePart}
use Rattle.doll_views.specs.declared.refusal.BundlePart.TheVariants as part
use Rattle.doll_views.specs.declared.refusal.Kind.{Kind}
use Rattle.doll_views.specs.declared.refusal.Kind.TheVariants as kind

abbrev pub part_name : BundlePart → List ℕ
part_name part.Json = codes "json"
part_name part.Schema = codes "schema"
part_name part.Routes = codes "routes"
part_name part.Settings = codes "settings"
part_name part.Views = codes "views"
part_name part.Commits = codes "commits"
part_name part.Script = codes "script"

abbrev pub kind_name : Kind → List ℕ
kind_name kind.BadForm = codes "BadForm"
kind_name kind.TooMany = codes "TooMany"
kind_name kind.UnknownKind = codes "UnknownKind"
kind_name kind.DuplicateName = codes "DuplicateName"
kind_name kind.UnknownModel = codes "UnknownModel"
kind_name kind.BadInverse = codes "BadInverse"
kind_name kind.BadPath = codes "BadPath"
kind_name kind.Reserved = codes "Reserved"
kind_name kind.Duplicate = codes "Duplicate"
kind_name kind.Missing = codes "Missing"
kind_name kind.BadName = codes "BadName"
kind_name kind.TooLong = codes "TooLong"
kind_name kind.BadTemplate = codes "BadTemplate"
kind_name kind.MissingPartial = codes "MissingPartial"
kind_name kind.Cycle = codes "Cycle"
kind_name kind.DepthOver = codes "DepthOver"
kind_name kind.TooWide = codes "TooWide"
kind_name kind.Clash = codes "Clash"
kind_name kind.UnknownAttribute = codes "UnknownAttribute"
kind_name kind.WrongKind = codes "WrongKind"
kind_name kind.NullRefused = codes "NullRefused"
kind_name kind.MissingRow = codes "MissingRow"
kind_name kind.BadParent = codes "BadParent"
kind_name kind.Restricted = codes "Restricted"
kind_name kind.IdsEnded = codes "IdsEnded"
kind_name kind.TooManyChanges = codes "TooManyChanges"
kind_name kind.MomentsEnded = codes "MomentsEnded"
kind_name kind.HistoryFull = codes "HistoryFull"

-- `bundle`, the part, the number, a colon and the kind
abbrev pub refusal_line : BundlePart → ℕ → Kind → List ℕ
refusal_line part number what = codes "bundle " ++ part_name part ++ codes " " ++ decimal number ++ codes ": " ++ kind_name what
