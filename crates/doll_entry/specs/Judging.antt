-- What becomes of an entry that is asked for (this project's own; only the names and the purpose of an expiry and of the time
-- in which it is moved are those of Rails' cache stores).
use Rattle.std.specs.Prelude.{ℕ, ◌-◌, ◌&&◌, nat_eq, nat_le, nat_lt, min, List, Option, Some, None, if◌then◌else◌}
use Rattle.std.specs.Cmp.Lexicographic.{pointwise}
use Rattle.doll_entry.specs.declared.entry.Entry.{Entry}
use Rattle.doll_entry.specs.declared.judging.Judged.{Judged}
use Rattle.doll_entry.specs.declared.judging.Judged.TheVariants.{Live, Mismatch, Bump, Dead}
use Rattle.doll_entry.specs.declared.judging.TheConstants.{LATEST_TIME}

-- the time as it counts
abbrev pub counted_time : ℕ → ℕ
counted_time now = min now LATEST_TIME

-- of an entry that hasn't expired: its versions must be those that are asked for
abbrev pub judged_unexpired : List ℕ → List ℕ → Judged
judged_unexpired kept versions = if pointwise nat_eq kept versions then Live else Mismatch

-- of an entry that has expired so long ago, whatever its versions
abbrev pub judged_expired : ℕ → ℕ → Judged
judged_expired since ttl = if nat_lt 0 ttl && nat_le since ttl then Bump else Dead

-- of an entry by its versions and its expiry, which has come where it isn't later than the time
abbrev pub judged_by : List ℕ → Option ℕ → List ℕ → ℕ → ℕ → Judged
judged_by kept None versions time ttl = judged_unexpired kept versions
judged_by kept (Some expiry) versions time ttl =
    if nat_le expiry time then judged_expired (time - expiry) ttl else judged_unexpired kept versions

-- of an entry
abbrev pub judged : Entry → List ℕ → ℕ → ℕ → Judged
judged entry versions now ttl = judged_by entry.fresh.versions entry.expires_at versions (counted_time now) ttl
