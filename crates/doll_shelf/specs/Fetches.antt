-- What a question is answered, and what becomes of the entries that are asked (this project's own).
use Rattle.std.specs.Prelude.{◌≡◌, ℕ, ◌+◌, Bool, true, false, List, [], ◌∷◌, slice_get, slice_set, remove, Option, Some, None, ⊤}
use Rattle.std.specs.List.{list_any}
use Rattle.doll_entry.specs.Judging.{counted_time, judged}
use Rattle.doll_entry.specs.declared.asks.Ask.{Ask}
use Rattle.doll_entry.specs.declared.asks.Fetched.{Fetched}
use Rattle.doll_entry.specs.declared.asks.Fetched.TheVariants.{Hit, Miss}
use Rattle.doll_entry.specs.declared.asks.Miss.TheVariants as miss
use Rattle.doll_entry.specs.declared.entry.Entry.{Entry}
use Rattle.doll_entry.specs.declared.judging.Judged.{Judged}
use Rattle.doll_entry.specs.declared.judging.Judged.TheVariants as becomes
use Rattle.doll_shelf.specs.Entries.{place_of}

-- an entry whose expiry is moved
abbrev pub with_expiry : ℕ → Entry → Entry
with_expiry expiry entry = record { fresh = entry.fresh; written_at = entry.written_at; expires_at = Some expiry }

-- the answer at an entry that was judged, and the entries after it
abbrev pub fetched_by : Judged → ℕ → ℕ → Entry → List Entry → Fetched × List Entry
fetched_by becomes.Live expiry place entry entries = (Hit entry.fresh.value, entries)
fetched_by becomes.Mismatch expiry place entry entries = (Miss miss.Mismatch, entries)
fetched_by becomes.Bump expiry place entry entries = (Miss miss.Bumped, slice_set entries place (with_expiry expiry entry))
fetched_by becomes.Dead expiry place entry entries = (Miss miss.Dead, remove entries place)

-- the same of what stands at a place
abbrev pub fetched_at : Option Entry → ℕ → List ℕ → ℕ → ℕ → List Entry → Fetched × List Entry
fetched_at None place versions now ttl entries = (Miss miss.Absent, entries)
fetched_at (Some entry) place versions now ttl entries =
    fetched_by (judged entry versions now ttl) (counted_time now + ttl) place entry entries

-- the same of the place of a key, if it has one
abbrev pub fetched_from : Option ℕ → List ℕ → ℕ → ℕ → List Entry → Fetched × List Entry
fetched_from None versions now ttl entries = (Miss miss.Absent, entries)
fetched_from (Some place) versions now ttl entries = fetched_at (slice_get entries place) place versions now ttl entries

-- what is answered of a key with these versions, and the entries after it; one that has expired may stay for `ttl`
abbrev pub fetched : List ℕ → List ℕ → ℕ → ℕ → List Entry → Fetched × List Entry
fetched key versions now ttl entries = fetched_from (place_of key entries) versions now ttl entries

-- A call answers what is expected and leaves the entries that are expected. After want of memory or a failure all is as before.
abbrev pub Fetches : Fetched × List Entry → Fetched → List Entry → List Entry → Type 0
Fetches expected (Miss miss.Memory) old new = new ≡ old
Fetches expected (Miss miss.Failed) old new = new ≡ old
Fetches expected found old new = (found ≡ expected.0) × (new ≡ expected.1)

-- a hit
abbrev pub IsHit : Fetched → Type 0
IsHit (Hit value) = ⊤
IsHit (Miss why) = ⊥

-- Want of memory stands only in place of a hit, and there is no failure.
abbrev pub HitsOrTells : Fetched → Fetched → Type 0
HitsOrTells expected (Miss miss.Memory) = IsHit expected
HitsOrTells expected (Miss miss.Failed) = ⊥
HitsOrTells expected found = ⊤

-- whether the answer is that the shelf failed
abbrev pub is_failed : Fetched → Bool
is_failed (Miss miss.Failed) = true
is_failed found = false

-- whether one of the answers is so
abbrev pub any_failed : List Fetched → Bool
any_failed found = list_any is_failed found

-- Each question is answered in turn, with no time in which an entry that has expired may stay.
abbrev pub ReadsAll : List Ask → ℕ → List Fetched → List Entry → List Entry → Type 0
ReadsAll [] now [] old new = new ≡ old
ReadsAll (ask ∷ asks) now (found ∷ more) old new =
    (between : List Entry) × Fetches (fetched ask.key ask.versions now 0 old) found old between × ReadsAll asks now more between new
ReadsAll asks now found old new = ⊥
