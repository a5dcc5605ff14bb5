-- How the program ends (this project's own).
use Rattle.std.specs.Prelude.{ℕ, ◌≡◌, ◌≢◌, ◌⊎◌}
use Rattle.doll_base.specs.Faults.{Rose}
use Rattle.doll.specs.declared.status.Status.{Status}
use Rattle.doll.specs.declared.status.Status.TheVariants as status

-- the status that the process ends with
abbrev pub status_code : Status → ℕ
status_code status.Done = 0
status_code status.WrongWords = 2
status_code status.BundleRefused = 3
status_code status.Untyped = 4
status_code status.Unclean = 4
status_code status.UnknownPath = 5
status_code (status.ScriptRefused line) = 6
status_code status.ReadFailed = 7
status_code status.WriteFailed = 8
status_code status.NoMemory = 9
status_code status.TooLong = 12

-- Other ends than a failed read, a failed write and want of memory answer the words and the input.
abbrev pub IsAnswer : Status → Type 0
IsAnswer end = (end ≢ status.ReadFailed) × (end ≢ status.WriteFailed) × (end ≢ status.NoMemory)

-- A failed read and want of memory answer nothing.
abbrev pub IsSilent : Status → Type 0
IsSilent end = (end ≡ status.ReadFailed) ⊎ (end ≡ status.NoMemory)

-- The first count rose, or the second.
abbrev pub OneRose : ℕ → ℕ → ℕ → ℕ → Type 0
OneRose before after other_before other_after = Rose before after ⊎ Rose other_before other_after
