-- What a shelf that never fails answers.
use Rattle.std.proofs.Common.{◌≡◌, ◌<◌, ◌+◌, ℕ, Bool, true, false, ◌||◌, List, [], ◌∷◌, Option, Some, None, slice_get, refl, ap, ◌∙◌, arith}
use Rattle.doll_entry.specs.declared.asks.Ask.{Ask}
use Rattle.doll_entry.specs.declared.asks.Fetched.{Fetched}
use Rattle.doll_entry.specs.declared.asks.Fetched.TheVariants.{Hit, Miss}
use Rattle.doll_entry.specs.declared.asks.Miss.TheVariants as miss
use Rattle.doll_entry.specs.declared.entry.Entry.{Entry}
use Rattle.doll_entry.specs.declared.judging.Judged.{Judged}
use Rattle.doll_entry.specs.declared.judging.Judged.TheVariants as becomes
use Rattle.doll_entry.specs.Judging.{counted_time, judged}
use Rattle.doll_shelf.specs.Entries.{place_of}
use Rattle.doll_shelf.specs.Fetches.{Fetches, IsHit, ReadsAll, any_failed, fetched, fetched_at, fetched_by, fetched_from, is_failed}
use Rattle.doll_core.specs.Turning.{any_lost, is_lost}
use Rattle.doll_core.specs.Turns.{found_all}

-- ---- one question

-- an answer that isn't lost is the one that is expected
pub fetched_exactly : (expected : Fetched × List Entry) (found : Fetched) (old new : List Entry) → Fetches expected found old new → is_lost found ≡ false → is_failed found ≡ false
    → (found ≡ expected.0) × (new ≡ expected.1)
fetched_exactly expected (Hit value) old new is kept served = is
fetched_exactly expected (Miss miss.Absent) old new is kept served = is
fetched_exactly expected (Miss miss.Mismatch) old new is kept served = is
fetched_exactly expected (Miss miss.Bumped) old new is kept served = is
fetched_exactly expected (Miss miss.Dead) old new is kept served = is
fetched_exactly expected (Miss miss.Memory) old new is kept served = absurd (cc kept)
fetched_exactly expected (Miss miss.Failed) old new is kept served = absurd (cc served)

-- where it is lost, all is as before
pub lost_keeps : (expected : Fetched × List Entry) (found : Fetched) (old new : List Entry) → Fetches expected found old new → is_lost found ≡ true → new ≡ old
lost_keeps expected (Hit value) old new is lost = absurd (cc lost)
lost_keeps expected (Miss miss.Absent) old new is lost = absurd (cc lost)
lost_keeps expected (Miss miss.Mismatch) old new is lost = absurd (cc lost)
lost_keeps expected (Miss miss.Bumped) old new is lost = absurd (cc lost)
lost_keeps expected (Miss miss.Dead) old new is lost = absurd (cc lost)
lost_keeps expected (Miss miss.Memory) old new is lost = is
lost_keeps expected (Miss miss.Failed) old new is lost = absurd (cc lost)

judged_keeps : (what : Judged) (expiry place : ℕ) (entry : Entry) (entries : List Entry) (value : List ℕ) → Hit value ≡ (fetched_by what expiry place entry entries).0
    → (fetched_by what expiry place entry entries).1 ≡ entries
judged_keeps becomes.Live expiry place entry entries value is = refl
judged_keeps becomes.Mismatch expiry place entry entries value is = absurd (cc is)
judged_keeps becomes.Bump expiry place entry entries value is = absurd (cc is)
judged_keeps becomes.Dead expiry place entry entries value is = absurd (cc is)

at_keeps : (o : Option Entry) (place : ℕ) (versions : List ℕ) (now ttl : ℕ) (entries : List Entry) (value : List ℕ) → Hit value ≡ (fetched_at o place versions now ttl entries).0
    → (fetched_at o place versions now ttl entries).1 ≡ entries
at_keeps None place versions now ttl entries value is = absurd (cc is)
at_keeps (Some entry) place versions now ttl entries value is =
    judged_keeps (judged entry versions now ttl) (counted_time now + ttl) place entry entries value is

from_keeps : (o : Option ℕ) (versions : List ℕ) (now ttl : ℕ) (entries : List Entry) (value : List ℕ) → Hit value ≡ (fetched_from o versions now ttl entries).0
    → (fetched_from o versions now ttl entries).1 ≡ entries
from_keeps None versions now ttl entries value is = absurd (cc is)
from_keeps (Some place) versions now ttl entries value is = at_keeps (slice_get entries place) place versions now ttl entries value is

-- a hit changes nothing
pub hit_keeps : (key versions : List ℕ) (now ttl : ℕ) (found : Fetched) (old new : List Entry) → Fetches (fetched key versions now ttl old) found old new → IsHit found → new ≡ old
hit_keeps key versions now ttl (Hit value) old new is hit = is.1 ∙ from_keeps (place_of key old) versions now ttl old value is.0
hit_keeps key versions now ttl (Miss why) old new is hit = absurd hit

-- ---- several questions

neither : (a b : Bool) → a || b ≡ false → (a ≡ false) × (b ≡ false)
neither true b none = absurd (cc none)
neither false b none = (refl, none)

pub all_exactly : (now : ℕ) (asks : List Ask) (found : List Fetched) (old new : List Entry) → ReadsAll asks now found old new → any_lost found ≡ false → any_failed found ≡ false
    → (found ≡ (found_all now asks old).0) × (new ≡ (found_all now asks old).1)
all_exactly now [] [] old new reads kept served = (refl, reads)
all_exactly now [] (one ∷ more) old new reads kept served = absurd reads
all_exactly now (ask ∷ asks) [] old new reads kept served = absurd reads
all_exactly now (ask ∷ asks) (one ∷ more) old new reads kept served =
    let own = neither (is_lost one) (any_lost more) kept in
    let up = neither (is_failed one) (any_failed more) served in
    let first = fetched_exactly (fetched ask.key ask.versions now 0 old) one old reads.0 reads.1 own.0 up.0 in
    let rest = all_exactly now asks more reads.0 new reads.2 own.1 up.1 in
    ((λ i. first.0 i ∷ (rest.0 ∙ ap (λ entries. (found_all now asks entries).0) first.1) i), rest.1 ∙ ap (λ entries. (found_all now asks entries).1) first.1)

-- no count of faults rises where none is kept
pub never : (b : Bool) → (b ≡ true → 0 < 0) → b ≡ false
never true rose = absurd (omega (arith, rose refl))
never false rose = refl
