-- One turn of a page that is being rendered, and all its turns (this project's own).
use Rattle.std.specs.Prelude.{ℕ, ◌+◌, List, [], ◌∷◌, Option, None, Some}
use Rattle.doll_entry.specs.declared.asks.Ask.{Ask}
use Rattle.doll_entry.specs.declared.asks.Fetched.{Fetched}
use Rattle.doll_entry.specs.declared.entry.Entry.{Entry}
use Rattle.doll_entry.specs.declared.entry.Fresh.{Fresh}
use Rattle.doll_frames.specs.Stacks.{fragment, fragments}
use Rattle.doll_report.specs.declared.outcome.Outcome.{Outcome}
use Rattle.doll_report.specs.declared.outcome.Outcome.TheVariants as outcome
use Rattle.doll_run.specs.Runs.{Ends, Reads, ReadsMany, Run, Writes}
use Rattle.doll_shelf.specs.Batches.{after_batch, after_write, ready_writes}
use Rattle.doll_shelf.specs.Calls.{Shelved}
use Rattle.doll_shelf.specs.Fetches.{fetched}
use Rattle.doll_core.specs.States.{with_entries}

-- ---- the calls of a shelf at a time, in microseconds

-- what is found of a block, and the entries after it
abbrev pub found_one : ℕ → Shelved → Ask → Fetched × List Entry
found_one now shelf ask = fetched ask.key ask.versions now shelf.settings.race_ttl shelf.entries

abbrev pub before_others : Fetched → List Fetched × List Entry → List Fetched × List Entry
before_others found others = (found ∷ others.0, others.1)

-- what is found of several blocks, one after another, with no time in which an entry that has expired stays
abbrev pub found_all : ℕ → List Ask → List Entry → List Fetched × List Entry
found_all now [] entries = ([], entries)
found_all now (ask ∷ asks) entries =
    before_others (fetched ask.key ask.versions now 0 entries).0 (found_all now asks (fetched ask.key ask.versions now 0 entries).1)

-- a shelf that keeps a fragment more
abbrev pub shelf_with : ℕ → Fresh → Shelved → Shelved
shelf_with now fresh shelf = record {
  settings = shelf.settings;
  entries = after_write shelf.settings shelf.writes fresh now shelf.entries;
  writes = ready_writes shelf.settings shelf.writes + 1;
}

-- a shelf after a batch
abbrev pub shelf_after_batch : ℕ → Shelved → Shelved
shelf_after_batch now shelf = record { settings = shelf.settings; entries = after_batch shelf.settings now shelf.entries; writes = 0 }

-- ---- turns

-- what a turn comes to: its outcome, the shelf after it, and what is left of the page
pub record Turned : Type 0 where
  pub outcome : Outcome
  pub shelf : Shelved
  pub left : Option Run

-- the next call of what a page has to do, or the page, at a time
abbrev pub turned : ℕ → Shelved → Run → Turned
turned now shelf (Ends looks bytes) = record { outcome = outcome.Page bytes; shelf = shelf; left = None }
turned now shelf (Reads looks ask rest) = record {
  outcome = outcome.Read (found_one now shelf ask).0;
  shelf = with_entries shelf (found_one now shelf ask).1;
  left = Some (rest (fragment (found_one now shelf ask).0));
}
turned now shelf (ReadsMany looks asks rest) = record {
  outcome = outcome.Many (found_all now asks shelf.entries).0;
  shelf = with_entries shelf (found_all now asks shelf.entries).1;
  left = Some (rest (fragments (found_all now asks shelf.entries).0));
}
turned now shelf (Writes looks fresh rest) = record { outcome = outcome.Wrote; shelf = shelf_with now fresh shelf; left = Some rest }

-- an outcome before those of other turns
abbrev pub then_others : Outcome → List Outcome × Shelved → List Outcome × Shelved
then_others one others = (one ∷ others.0, others.1)

-- all turns of a page at one time, to its end, and the shelf after them
abbrev pub all_turns : ℕ → Run → Shelved → List Outcome × Shelved
all_turns now (Ends looks bytes) shelf = (outcome.Page bytes ∷ [], shelf)
all_turns now (Reads looks ask rest) shelf =
    then_others (outcome.Read (found_one now shelf ask).0)
    (all_turns now (rest (fragment (found_one now shelf ask).0)) (with_entries shelf (found_one now shelf ask).1))
all_turns now (ReadsMany looks asks rest) shelf =
    then_others (outcome.Many (found_all now asks shelf.entries).0)
    (all_turns now (rest (fragments (found_all now asks shelf.entries).0)) (with_entries shelf (found_all now asks shelf.entries).1))
all_turns now (Writes looks fresh rest) shelf = then_others outcome.Wrote (all_turns now rest (shelf_with now fresh shelf))
