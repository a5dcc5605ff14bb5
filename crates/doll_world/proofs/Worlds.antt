-- What is true of a world stays true of it in each call.
use Rattle.std.proofs.Common.{◌≡◌, ℕ, List, [], ◌∷◌, ◌++◌, Option, Some, None, Result, Ok, Err, IfOk, IfSome, OnOk, OnErr, sym, subst, ◌∙◌}
use Rattle.doll_journal.specs.declared.change.Commit.{Commit}
use Rattle.doll_records.specs.Histories.{IsHistory, Recorded}
use Rattle.doll_types.specs.Sets.{TypedSet}
use Rattle.doll_entry.specs.declared.asks.Ask.{Ask}
use Rattle.doll_entry.specs.declared.asks.Fetched.{Fetched}
use Rattle.doll_entry.specs.declared.entry.Entry.{Entry}
use Rattle.doll_entry.specs.declared.entry.Fresh.{Fresh}
use Rattle.doll_shelf.specs.Batches.{after_write}
use Rattle.doll_shelf.specs.Calls.{BatchAtMost, WhereTold}
use Rattle.doll_shelf.specs.Fetches.{Fetches, ReadsAll, fetched}
use Rattle.doll_shelf.specs.declared.settings.ShelfSettings.{ShelfSettings}
use Rattle.doll_sound.proofs.Entries.{sound_stays}
use Rattle.doll_world.specs.Worlds.{AreSoundFor, HitIsShown, HitsAreShown, IsSoundFor, IsWorld, WhereTheyAreTold}
use Rattle.doll_world.proofs.Entries.{all_after_write, all_kept, all_read, all_refused, all_same, all_told}
use Rattle.doll_world.proofs.Hits.{hit_shown, hits_shown}

-- the history, under the models of the set
history_of : {checked : TypedSet} {K : Type 0} {records : Recorded K} {entries : Option (List Entry)} → IsWorld checked records entries → IsHistory checked.schema records.history
history_of {checked} {K} {records} world = subst (λ s. IsHistory s records.history) world.schema world.history

-- ---- the shelf

module _ (checked : TypedSet) {K : Type 0} (records : Recorded K) (old new : Option (List Entry)) (world : IsWorld checked records old) where
  -- other entries that are sound
  with_entries : IfSome new (AreSoundFor checked records.history) → IsWorld checked records new
  with_entries sound = record { site = world.site; names = world.names; schema = world.schema; history = world.history; sound = sound }

  pub after_read : (ask : Ask) (now ttl : ℕ) (found : Fetched) → WhereTold (λ o n. Fetches (fetched ask.key ask.versions now ttl o) found o n) old new → IsWorld checked records new
  after_read ask now ttl found told =
      with_entries (all_told (IsSoundFor checked records.history) (λ o n. Fetches (fetched ask.key ask.versions now ttl o) found o n) old new
      (all_kept (IsSoundFor checked records.history) ask.key ask.versions now ttl found) told world.sound)

  after_reads : (asks : List Ask) (now : ℕ) (found : List Fetched) → WhereTold (ReadsAll asks now found) old new → IsWorld checked records new
  after_reads asks now found told =
      with_entries (all_told (IsSoundFor checked records.history) (ReadsAll asks now found) old new (all_read (IsSoundFor checked records.history) asks now found) told world.sound)

  after_same : new ≡ old → IsWorld checked records new
  after_same is = with_entries (all_same (IsSoundFor checked records.history) old new is world.sound)

  pub after_read_many : {X E : Type 0} (items : X → List Fetched) (asks : List Ask) (now : ℕ) (result : Result X E)
      → IfOk result (λ found. WhereTold (ReadsAll asks now (items found)) old new) → OnErr result (new ≡ old) → IsWorld checked records new
  after_read_many items asks now (Ok found) ok err = after_reads asks now (items found) ok
  after_read_many items asks now (Err fault) ok err = after_same err

  after_put : (settings : ShelfSettings) (writes : ℕ) (fresh : Fresh) (now : ℕ) → WhereTheyAreTold old (IsSoundFor checked records.history fresh)
      → WhereTold (λ o n. n ≡ after_write settings writes fresh now o) old new → IsWorld checked records new
  after_put settings writes fresh now is told = with_entries (written old new is told world.sound)
    where
      written : (before after : Option (List Entry)) → WhereTheyAreTold before (IsSoundFor checked records.history fresh)
          → WhereTold (λ o n. n ≡ after_write settings writes fresh now o) before after → IfSome before (AreSoundFor checked records.history)
          → IfSome after (AreSoundFor checked records.history)
      written None None is told all = tt
      written None (Some after) is told all = absurd told
      written (Some before) None is told all = absurd told
      written (Some before) (Some after) is told all =
          subst (AreSoundFor checked records.history) (sym told) (all_after_write (IsSoundFor checked records.history) settings writes fresh now before is all)

  after_refusal : (settings : ShelfSettings) (now old_writes new_writes : ℕ) → BatchAtMost settings now old_writes new_writes old new → IsWorld checked records new
  after_refusal settings now old_writes new_writes refused =
      with_entries (all_refused (IsSoundFor checked records.history) settings now old_writes new_writes old new refused world.sound)

  pub after_write_call : {X E : Type 0} (settings : ShelfSettings) (old_writes new_writes : ℕ) (fresh : Fresh) (now : ℕ) (result : Result X E)
      → WhereTheyAreTold old (IsSoundFor checked records.history fresh)
      → OnOk result (WhereTold (λ o n. n ≡ after_write settings old_writes fresh now o) old new)
      → OnErr result (BatchAtMost settings now old_writes new_writes old new) → IsWorld checked records new
  after_write_call settings old_writes new_writes fresh now (Ok x) is ok err = after_put settings old_writes fresh now is ok
  after_write_call settings old_writes new_writes fresh now (Err fault) is ok err = after_refusal settings now old_writes new_writes err

  -- ---- what is answered

  pub read_shown : (ask : Ask) (now ttl : ℕ) (found : Fetched) → WhereTold (λ o n. Fetches (fetched ask.key ask.versions now ttl o) found o n) old new
      → WhereTheyAreTold old (HitIsShown checked records.history ask found)
  read_shown ask now ttl found told = by old new told world.sound
    where
      by : (before after : Option (List Entry)) → WhereTold (λ o n. Fetches (fetched ask.key ask.versions now ttl o) found o n) before after
          → IfSome before (AreSoundFor checked records.history) → WhereTheyAreTold before (HitIsShown checked records.history ask found)
      by None after told all = tt
      by (Some before) None told all = absurd told
      by (Some before) (Some after) told all = hit_shown checked records.history world.site (history_of world) ask now ttl found before after told all

  reads_shown : (asks : List Ask) (now : ℕ) (found : List Fetched) → WhereTold (ReadsAll asks now found) old new
      → WhereTheyAreTold old (HitsAreShown checked records.history asks found)
  reads_shown asks now found told = by old new told world.sound
    where
      by : (before after : Option (List Entry)) → WhereTold (ReadsAll asks now found) before after
          → IfSome before (AreSoundFor checked records.history) → WhereTheyAreTold before (HitsAreShown checked records.history asks found)
      by None after told all = tt
      by (Some before) None told all = absurd told
      by (Some before) (Some after) told all = hits_shown checked records.history world.site (history_of world) asks now found before after told all

  pub read_many_shown : {X E : Type 0} (items : X → List Fetched) (asks : List Ask) (now : ℕ) (result : Result X E)
      → IfOk result (λ found. WhereTold (ReadsAll asks now (items found)) old new)
      → IfOk result (λ found. WhereTheyAreTold old (HitsAreShown checked records.history asks (items found)))
  read_many_shown items asks now (Ok found) told = reads_shown asks now (items found) told
  read_many_shown items asks now (Err fault) told = tt

-- ---- the records

-- entries stay sound when the history goes on
entries_stay : (checked : TypedSet) (history more : List Commit) → IsHistory checked.schema history → IsHistory checked.schema (history ++ more)
    → (entries : List Entry) → AreSoundFor checked history entries → AreSoundFor checked (history ++ more) entries
entries_stay checked history more is longer [] all = all
entries_stay checked history more is longer (entry ∷ entries) all = (
  sound_stays checked.set checked.schema checked.routes history more entry.fresh is longer all.0,
  entries_stay checked history more is longer entries all.1,
)

told_stay : (checked : TypedSet) (history more : List Commit) → IsHistory checked.schema history → IsHistory checked.schema (history ++ more)
    → (entries : Option (List Entry)) → IfSome entries (AreSoundFor checked history) → IfSome entries (AreSoundFor checked (history ++ more))
told_stay checked history more is longer None all = tt
told_stay checked history more is longer (Some entries) all = entries_stay checked history more is longer entries all

pub after_commit : {T E : Type 0} (checked : TypedSet) {K : Type 0} (old new : Recorded K) (more : List Commit) (result : Result T E) (entries : Option (List Entry))
    → IsWorld checked old entries → new.schema ≡ old.schema → IsHistory new.schema new.history
    → OnOk result (new.history ≡ old.history ++ more) → OnErr result (new.history ≡ old.history) → IsWorld checked new entries
after_commit {T} {E} checked old new more result entries world schema is ok err = record {
  site = world.site;
  names = world.names;
  schema = schema ∙ world.schema;
  history = is;
  sound = by result ok err;
}
  where
    was : IsHistory checked.schema old.history
    was = history_of world

    now : IsHistory checked.schema new.history
    now = subst (λ s. IsHistory s new.history) (schema ∙ world.schema) is

    by : (result : Result T E) → OnOk result (new.history ≡ old.history ++ more) → OnErr result (new.history ≡ old.history)
        → IfSome entries (AreSoundFor checked new.history)
    by (Ok x) ok err =
        subst (λ h. IfSome entries (AreSoundFor checked h)) (sym ok)
        (told_stay checked old.history more was (subst (λ h. IsHistory checked.schema h) ok now) entries world.sound)
    by (Err e) ok err = subst (λ h. IfSome entries (AreSoundFor checked h)) (sym err) world.sound
