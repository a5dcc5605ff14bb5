-- The faults of a keeper and of a commit as those of a history (this project's own).
use Rattle.std.specs.Prelude.{◌≡◌, Result, Ok, Err, MatchResult}
use Rattle.doll_keep.specs.declared.keeper.KeepFault.{KeepFault}
use Rattle.doll_keep.specs.declared.keeper.KeepFault.TheVariants as keep
use Rattle.doll_commit.specs.declared.fault.CommitFault.{CommitFault}
use Rattle.doll_commit.specs.declared.fault.CommitFault.TheVariants as commit
use Rattle.doll_records.specs.declared.fault.OpenFault.{OpenFault}
use Rattle.doll_records.specs.declared.fault.OpenFault.TheVariants as opens
use Rattle.doll_records.specs.declared.fault.RecordFault.{RecordFault}
use Rattle.doll_records.specs.declared.fault.RecordFault.TheVariants as records

abbrev pub open_keep_fault : KeepFault → OpenFault
open_keep_fault keep.Failed = opens.Kept
open_keep_fault keep.Memory = opens.Memory

abbrev pub record_keep_fault : KeepFault → RecordFault
record_keep_fault keep.Failed = records.Kept
record_keep_fault keep.Memory = records.Memory

abbrev pub record_commit_fault : CommitFault → RecordFault
record_commit_fault (commit.Refused index why) = records.Refused index why
record_commit_fault commit.Memory = records.Memory

-- The call gave, seen by a view, what is expected of it, unless the keeper failed or no memory was found.
abbrev pub GivesKept : {X Y F : Type 0} → (X → Y) → F → F → Result Y F → Result X F → Type 0
GivesKept view kept memory expected result = MatchResult result (λ x. expected ≡ Ok (view x)) (λ e. (e ≡ kept → ⊥) → (e ≡ memory → ⊥) → expected ≡ Err e)
