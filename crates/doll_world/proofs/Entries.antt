-- What a call of a shelf leaves: each entry is one from before, but for its expiry, or the fresh one. So what holds of all fragments from
-- before, and of the fresh one, holds of all after.
use Rattle.std.proofs.Common.{◌≡◌, ℕ, ◌+◌, suc, zero, Bool, true, false, List, [], ◌∷◌, drop, Option, Some, None, slice_get, if◌then◌else◌, refl, sym, subst, inl, inr}
use Rattle.std.specs.List.{AllByRecursion, remove, slice_set}
use Rattle.std.specs.Prelude.{IfSome}
use Rattle.std.specs.Str.{bytes_eq}
use Rattle.doll_entry.specs.declared.asks.Ask.{Ask}
use Rattle.doll_entry.specs.declared.asks.Fetched.{Fetched}
use Rattle.doll_entry.specs.declared.asks.Fetched.TheVariants.{Hit, Miss}
use Rattle.doll_entry.specs.declared.asks.Miss.TheVariants as miss
use Rattle.doll_entry.specs.declared.entry.Entry.{Entry}
use Rattle.doll_entry.specs.declared.entry.Fresh.{Fresh}
use Rattle.doll_entry.specs.declared.judging.Judged.{Judged}
use Rattle.doll_entry.specs.declared.judging.Judged.TheVariants as becomes
use Rattle.doll_entry.specs.Judging.{counted_time, judged}
use Rattle.doll_shelf.specs.Batches.{after_batch, after_write, entry_of, is_full, ready_entries, removed_count}
use Rattle.doll_shelf.specs.Calls.{BatchAtMost, WhereTold}
use Rattle.doll_shelf.specs.Entries.{place_of, put}
use Rattle.doll_shelf.specs.Fetches.{Fetches, ReadsAll, fetched, fetched_at, fetched_by, fetched_from, with_expiry}
use Rattle.doll_shelf.specs.declared.settings.ShelfSettings.{ShelfSettings}

module _ (P : Fresh → Type 0) where
  -- each entry's fragment is so
  abbrev pub Are : List Entry → Type 0
  Are entries = AllByRecursion (λ entry. P entry.fresh) entries

  -- ---- lists

  pub all_dropped : (n : ℕ) (entries : List Entry) → Are entries → Are (drop n entries)
  all_dropped zero entries all = all
  all_dropped (suc n) [] all = all
  all_dropped (suc n) (first ∷ more) all = all_dropped n more all.1

  pub all_removed : (entries : List Entry) (place : ℕ) → Are entries → Are (remove entries place)
  all_removed [] zero all = all
  all_removed [] (suc place) all = all
  all_removed (first ∷ more) zero all = all.1
  all_removed (first ∷ more) (suc place) all = (all.0, all_removed more place all.1)

  pub all_set : (entries : List Entry) (place : ℕ) (entry : Entry) → P entry.fresh → Are entries → Are (slice_set entries place entry)
  all_set [] place entry is all = all
  all_set (first ∷ more) zero entry is all = (is, all.1)
  all_set (first ∷ more) (suc place) entry is all = (all.0, all_set more place entry is all.1)

  pub one_of_all : (entries : List Entry) (place : ℕ) (entry : Entry) → slice_get entries place ≡ Some entry → Are entries → P entry.fresh
  one_of_all [] place entry stands all = absurd (cc stands)
  one_of_all (first ∷ more) zero entry stands all = subst (λ (e : Entry). P e.fresh) (is first entry stands) all.0
    where
      is : (a b : Entry) → Some a ≡ Some b → a ≡ b
      is a b e = cc e
  one_of_all (first ∷ more) (suc place) entry stands all = one_of_all more place entry stands all.1

  pub all_put : (entry : Entry) (entries : List Entry) → P entry.fresh → Are entries → Are (put entry entries)
  all_put entry [] is all = (is, all)
  all_put entry (first ∷ more) is all = by (bytes_eq entry.fresh.key first.fresh.key) (all_put entry more is all.1)
    where
      by : (b : Bool) → Are (put entry more) → Are (if b then entry ∷ more else first ∷ put entry more)
      by true rest = (is, all.1)
      by false rest = (all.0, rest)

  -- ---- a question

  judged_all : (what : Judged) (expiry place : ℕ) (entry : Entry) (entries : List Entry) → slice_get entries place ≡ Some entry → Are entries
      → Are (fetched_by what expiry place entry entries).1
  judged_all becomes.Live expiry place entry entries stands all = all
  judged_all becomes.Mismatch expiry place entry entries stands all = all
  judged_all becomes.Bump expiry place entry entries stands all = all_set entries place (with_expiry expiry entry) (one_of_all entries place entry stands all) all
  judged_all becomes.Dead expiry place entry entries stands all = all_removed entries place all

  fetched_all : (key versions : List ℕ) (now ttl : ℕ) (entries : List Entry) → Are entries → Are (fetched key versions now ttl entries).1
  fetched_all key versions now ttl entries all = from (place_of key entries)
    where
      at : (o : Option Entry) (place : ℕ) → slice_get entries place ≡ o → Are (fetched_at o place versions now ttl entries).1
      at None place stands = all
      at (Some entry) place stands = judged_all (judged entry versions now ttl) (counted_time now + ttl) place entry entries stands all

      from : (o : Option ℕ) → Are (fetched_from o versions now ttl entries).1
      from None = all
      from (Some place) = at (slice_get entries place) place refl

  pub all_fetched : (expected : Fetched × List Entry) (found : Fetched) (old new : List Entry) → Fetches expected found old new → Are expected.1 → Are old → Are new
  all_fetched expected (Hit value) old new is after all = subst Are (sym is.1) after
  all_fetched expected (Miss miss.Absent) old new is after all = subst Are (sym is.1) after
  all_fetched expected (Miss miss.Mismatch) old new is after all = subst Are (sym is.1) after
  all_fetched expected (Miss miss.Bumped) old new is after all = subst Are (sym is.1) after
  all_fetched expected (Miss miss.Dead) old new is after all = subst Are (sym is.1) after
  all_fetched expected (Miss miss.Memory) old new is after all = subst Are (sym is) all
  all_fetched expected (Miss miss.Failed) old new is after all = subst Are (sym is) all

  pub all_kept : (key versions : List ℕ) (now ttl : ℕ) (found : Fetched) (old new : List Entry) → Fetches (fetched key versions now ttl old) found old new → Are old → Are new
  all_kept key versions now ttl found old new is all =
      all_fetched (fetched key versions now ttl old) found old new is (fetched_all key versions now ttl old all) all

  pub all_read : (asks : List Ask) (now : ℕ) (found : List Fetched) (old new : List Entry) → ReadsAll asks now found old new → Are old → Are new
  all_read [] now [] old new is all = subst Are (sym is) all
  all_read [] now (one ∷ more) old new is all = absurd is
  all_read (ask ∷ asks) now [] old new is all = absurd is
  all_read (ask ∷ asks) now (one ∷ more) old new is all =
      all_read asks now more is.0 new is.2 (all_kept ask.key ask.versions now 0 one old is.0 is.1 all)

  -- ---- batches and writes

  pub all_after_batch : (settings : ShelfSettings) (now : ℕ) (entries : List Entry) → Are entries → Are (after_batch settings now entries)
  all_after_batch settings now entries all = all_dropped (removed_count settings now entries) entries all

  pub all_after_write : (settings : ShelfSettings) (writes : ℕ) (fresh : Fresh) (now : ℕ) (entries : List Entry) → P fresh → Are entries
      → Are (after_write settings writes fresh now entries)
  all_after_write settings writes fresh now entries is all =
      all_put (entry_of settings fresh now) (ready_entries settings writes now entries) is (ready (is_full settings writes))
    where
      ready : (b : Bool) → Are (if b then after_batch settings now entries else entries)
      ready true = all_after_batch settings now entries all
      ready false = all

  -- ---- where entries are told

  -- A call that keeps what holds of all entries keeps it where they are told.
  pub all_told : (Q : List Entry → List Entry → Type 0) (old new : Option (List Entry))
      → ((before after : List Entry) → Q before after → Are before → Are after) → WhereTold Q old new → IfSome old Are → IfSome new Are
  all_told Q None None keeps told all = tt
  all_told Q None (Some new) keeps told all = absurd told
  all_told Q (Some old) None keeps told all = absurd told
  all_told Q (Some old) (Some new) keeps told all = keeps old new told all

  pub all_same : (old new : Option (List Entry)) → new ≡ old → IfSome old Are → IfSome new Are
  all_same old new is all = subst (λ o. IfSome o Are) (sym is) all

  pub all_refused : (settings : ShelfSettings) (now old_writes new_writes : ℕ) (old new : Option (List Entry))
      → BatchAtMost settings now old_writes new_writes old new → IfSome old Are → IfSome new Are
  all_refused settings now old_writes new_writes old new (inl same) all = all_same old new same.1 all
  all_refused settings now old_writes new_writes old new (inr batch) all =
      all_told (λ o n. n ≡ after_batch settings now o) old new (λ before after is all. subst Are (sym is) (all_after_batch settings now before all)) batch.2 all
