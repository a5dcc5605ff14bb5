-- A hit is the fragment of an entry with the key and the versions that are asked for.
use Rattle.std.proofs.Common.{◌≡◌, ℕ, ◌+◌, ◌-◌, suc, Bool, true, false, cond, not, nat_lt, List, [], ◌∷◌, length, position, Option, Some, None, slice_get, if◌then◌else◌, refl, sym, ap, subst, ◌∙◌, arith}
use Rattle.std.specs.Prelude.{nat_le}
use Rattle.std.specs.List.{position_or_len}
use Rattle.std.specs.Str.{bytes_eq}
use Rattle.std.proofs.lemmas.Slice.Eq.{bytes_eq-Decides}
use Rattle.doll_entry.specs.declared.asks.Ask.{Ask}
use Rattle.doll_entry.specs.declared.asks.Fetched.{Fetched}
use Rattle.doll_entry.specs.declared.asks.Fetched.TheVariants.{Hit, Miss}
use Rattle.doll_entry.specs.declared.entry.Entry.{Entry}
use Rattle.doll_entry.specs.declared.judging.Judged.{Judged}
use Rattle.doll_entry.specs.declared.judging.Judged.TheVariants as becomes
use Rattle.doll_entry.specs.Judging.{counted_time, judged, judged_by, judged_expired, judged_unexpired}
use Rattle.doll_shelf.specs.Entries.{place_of}
use Rattle.doll_shelf.specs.Fetches.{Fetches, ReadsAll, fetched, fetched_at, fetched_by, fetched_from}
use Rattle.doll_journal.specs.declared.change.Commit.{Commit}
use Rattle.doll_records.specs.Histories.{IsHistory}
use Rattle.doll_types.specs.Sets.{TypedSet}
use Rattle.doll_sound.specs.Fragments.{AsksFor}
use Rattle.doll_sound.specs.Sites.{IsSite}
use Rattle.doll_sound.proofs.Entries.{sound_is_shown}
use Rattle.doll_world.specs.Worlds.{AreSoundFor, HitIsShown, HitsAreShown, IsSoundFor}
use Rattle.doll_world.proofs.Entries.{all_kept, one_of_all}

-- an entry that is given
pub record IsGiven (entries : List Entry) (key versions value : List ℕ) : Type 0 where
  pub place : ℕ
  pub entry : Entry
  pub stands : slice_get entries place ≡ Some entry
  pub key_is : key ≡ entry.fresh.key
  pub versions_are : entry.fresh.versions ≡ versions
  pub value_is : value ≡ entry.fresh.value

-- ---- the place of a key

-- where the first that passes stands, it passes
passes_there : {X : Type 0} (test : X → Bool) (xs : List X) (x : X) → slice_get xs (position_or_len test xs) ≡ Some x → test x ≡ true
passes_there test [] x stands = absurd (cc stands)
passes_there {X} test (y ∷ ys) x stands = by (test y) refl stands (passes_there test ys x)
  where
    is : Some y ≡ Some x → y ≡ x
    is e = cc e

    by : (b : Bool) → test y ≡ b → slice_get (y ∷ ys) (cond (not b) (1 + position_or_len test ys) 0) ≡ Some x
        → (slice_get ys (position_or_len test ys) ≡ Some x → test x ≡ true) → test x ≡ true
    by true passes stands rest = ap test (sym (is stands)) ∙ passes
    by false fails stands rest =
        let one : 1 + position_or_len test ys ≡ suc (position_or_len test ys) = omega arith in
        rest (subst (λ n. slice_get (y ∷ ys) n ≡ Some x) one stands)

place_passes : {X : Type 0} (test : X → Bool) (xs : List X) (place : ℕ) (x : X) → position test xs ≡ Some place → slice_get xs place ≡ Some x → test x ≡ true
place_passes test xs place x found stands =
    passes_there test xs x (subst (λ p. slice_get xs p ≡ Some x) (sym (is (nat_lt (position_or_len test xs) (length xs)) found)) stands)
  where
    is : (b : Bool) → cond b (Some (position_or_len test xs)) None ≡ Some place → position_or_len test xs ≡ place
    is true e = cc e
    is false e = absurd (cc e)

-- ---- judging

unexpired_live : (kept versions : List ℕ) → judged_unexpired kept versions ≡ becomes.Live → kept ≡ versions
unexpired_live kept versions live = by (bytes_eq kept versions) refl live
  where
    by : (b : Bool) → bytes_eq kept versions ≡ b → (if b then becomes.Live else becomes.Mismatch) ≡ becomes.Live → kept ≡ versions
    by true same live = (bytes_eq-Decides kept versions).0 same
    by false other live = absurd (cc live)

expired_dead : (since ttl : ℕ) → judged_expired since ttl ≡ becomes.Live → ⊥
expired_dead since ttl live = by _ live
  where
    by : (b : Bool) → (if b then becomes.Bump else becomes.Dead) ≡ becomes.Live → ⊥
    by true live = cc live
    by false live = cc live

-- an entry that is given has the versions that are asked for
judged_live : (kept : List ℕ) (expires : Option ℕ) (versions : List ℕ) (time ttl : ℕ) → judged_by kept expires versions time ttl ≡ becomes.Live → kept ≡ versions
judged_live kept None versions time ttl live = unexpired_live kept versions live
judged_live kept (Some expiry) versions time ttl live = by (nat_le expiry time) live
  where
    by : (b : Bool) → (if b then judged_expired (time - expiry) ttl else judged_unexpired kept versions) ≡ becomes.Live → kept ≡ versions
    by true live = absurd (expired_dead (time - expiry) ttl live)
    by false live = unexpired_live kept versions live

-- ---- hits

judged_hit : (what : Judged) (expiry place : ℕ) (entry : Entry) (entries : List Entry) (value : List ℕ)
    → Hit value ≡ (fetched_by what expiry place entry entries).0 → (what ≡ becomes.Live) × (value ≡ entry.fresh.value)
judged_hit becomes.Live expiry place entry entries value e = (refl, cc e)
judged_hit becomes.Mismatch expiry place entry entries value e = absurd (cc e)
judged_hit becomes.Bump expiry place entry entries value e = absurd (cc e)
judged_hit becomes.Dead expiry place entry entries value e = absurd (cc e)

-- what is hit is an entry with the key and the versions
given : (key versions : List ℕ) (now ttl : ℕ) (entries : List Entry) (value : List ℕ) → Hit value ≡ (fetched key versions now ttl entries).0 → IsGiven entries key versions value
given key versions now ttl entries value hit = from (place_of key entries) refl hit
  where
    at : (o : Option Entry) (place : ℕ) → place_of key entries ≡ Some place → slice_get entries place ≡ o → Hit value ≡ (fetched_at o place versions now ttl entries).0
        → IsGiven entries key versions value
    at None place found stands e = absurd (cc e)
    at (Some entry) place found stands e =
        let h = judged_hit (judged entry versions now ttl) (counted_time now + ttl) place entry entries value e in
        record {
          place = place;
          entry = entry;
          stands = stands;
          key_is = (bytes_eq-Decides key entry.fresh.key).0 (place_passes (λ (e : Entry). bytes_eq key e.fresh.key) entries place entry found stands);
          versions_are = judged_live entry.fresh.versions entry.expires_at versions (counted_time now) ttl h.0;
          value_is = h.1;
        }

    from : (o : Option ℕ) → place_of key entries ≡ o → Hit value ≡ (fetched_from o versions now ttl entries).0 → IsGiven entries key versions value
    from None found e = absurd (cc e)
    from (Some place) found e = at (slice_get entries place) place found refl e

module _ (checked : TypedSet) (history : List Commit) (site : IsSite checked.set checked.schema checked.routes) (is : IsHistory checked.schema history) where
  -- a sound entry that is given is what is shown
  given_shown : (ask : Ask) (value : List ℕ) (entries : List Entry) → IsGiven entries ask.key ask.versions value → AreSoundFor checked history entries
      → HitIsShown checked history ask (Hit value)
  given_shown ask value entries known all place table block vars asks =
      let keyed = subst (λ k. AsksFor checked.set checked.schema checked.routes history place table block vars k ask.versions) known.key_is asks in
      let versioned = subst (λ v. AsksFor checked.set checked.schema checked.routes history place table block vars known.entry.fresh.key v) (sym known.versions_are) keyed in
      let sound = one_of_all (IsSoundFor checked history) entries known.place known.entry known.stands all in
      known.value_is ∙ sym (sound_is_shown checked.set checked.schema checked.routes history known.entry.fresh site is sound place table block vars versioned)

  pub hit_shown : (ask : Ask) (now ttl : ℕ) (found : Fetched) (old new : List Entry) → Fetches (fetched ask.key ask.versions now ttl old) found old new
      → AreSoundFor checked history old → HitIsShown checked history ask found
  hit_shown ask now ttl (Hit value) old new fetches all = given_shown ask value old (given ask.key ask.versions now ttl old value fetches.0) all
  hit_shown ask now ttl (Miss why) old new fetches all = tt

  pub hits_shown : (asks : List Ask) (now : ℕ) (found : List Fetched) (old new : List Entry) → ReadsAll asks now found old new
      → AreSoundFor checked history old → HitsAreShown checked history asks found
  hits_shown [] now [] old new reads all = tt
  hits_shown [] now (one ∷ more) old new reads all = reads
  hits_shown (ask ∷ asks) now [] old new reads all = reads
  hits_shown (ask ∷ asks) now (one ∷ more) old new reads all = (
    hit_shown ask now 0 one old reads.0 reads.1 all,
    hits_shown asks now more reads.0 new reads.2 (all_kept (IsSoundFor checked history) ask.key ask.versions now 0 one old reads.0 reads.1 all),
  )
