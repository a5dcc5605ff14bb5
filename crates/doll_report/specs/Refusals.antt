-- The words that tell a refused commit (this project's own).
use Rattle.std.specs.Prelude.{ℕ, List, ◌++◌, codes, Option, Some, None}
use Rattle.std.specs.Fmt.{decimal}
use Rattle.doll_commit.specs.declared.fault.Why.{Why}
use Rattle.doll_commit.specs.declared.fault.Why.TheVariants as reasons
use Rattle.doll_records.specs.declared.fault.RecordFault.{RecordFault}
use Rattle.doll_records.specs.declared.fault.RecordFault.TheVariants as faults

-- the name of what is wrong with a change
abbrev pub why_name : Why → List ℕ
why_name reasons.UnknownModel = codes "UnknownModel"
why_name reasons.UnknownAttribute = codes "UnknownAttribute"
why_name reasons.WrongKind = codes "WrongKind"
why_name reasons.NullRefused = codes "NullRefused"
why_name reasons.MissingRow = codes "MissingRow"
why_name reasons.BadParent = codes "BadParent"
why_name reasons.Restricted = codes "Restricted"
why_name reasons.IdsEnded = codes "IdsEnded"
why_name reasons.TooManyChanges = codes "TooManyChanges"

-- the index of the refused change and the name of what is wrong with it, or the name of another fault; want of memory has none
abbrev pub refusal_words : RecordFault → Option (List ℕ)
refusal_words (faults.Refused index why) = Some (decimal index ++ codes " " ++ why_name why)
refusal_words (faults.HistoryFull count) = Some (codes "HistoryFull")
refusal_words (faults.MomentsEnded last) = Some (codes "MomentsEnded")
refusal_words faults.Kept = Some (codes "Kept")
refusal_words faults.Memory = None
