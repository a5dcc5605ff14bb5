-- Worlds: a history, a shelf, and the checked set for which what the shelf keeps is sound (this project's own).
use Rattle.std.specs.Prelude.{◌≡◌, ℕ, List, [], ◌∷◌, Option, IfSome, ⊤}
use Rattle.std.specs.List.{AllByRecursion}
use Rattle.doll_journal.specs.declared.change.Commit.{Commit}
use Rattle.doll_records.specs.Histories.{IsHistory, Recorded}
use Rattle.doll_table.specs.Tables.{TableMap}
use Rattle.doll_plain.specs.Direct.{Variables}
use Rattle.doll_types.specs.Sets.{TypedSet}
use Rattle.doll_lint.specs.Blocks.{Block}
use Rattle.doll_entry.specs.declared.asks.Ask.{Ask}
use Rattle.doll_entry.specs.declared.asks.Fetched.{Fetched}
use Rattle.doll_entry.specs.declared.asks.Fetched.TheVariants.{Hit, Miss}
use Rattle.doll_entry.specs.declared.entry.Entry.{Entry}
use Rattle.doll_entry.specs.declared.entry.Fresh.{Fresh}
use Rattle.doll_sound.specs.Entries.{IsSound}
use Rattle.doll_sound.specs.Fragments.{AsksFor, fragment}
use Rattle.doll_sound.specs.Names.{HasNames}
use Rattle.doll_sound.specs.Sites.{IsSite}

-- ---- what is kept

-- a fragment is sound for a history, by the pages of a set
abbrev pub IsSoundFor : TypedSet → List Commit → Fresh → Type 0
IsSoundFor checked history fresh = IsSound checked.set checked.schema checked.routes history fresh

-- so is each of these entries
abbrev pub AreSoundFor : TypedSet → List Commit → List Entry → Type 0
AreSoundFor checked history entries = AllByRecursion (λ entry. IsSoundFor checked history entry.fresh) entries

-- what is known of a world: its records, its shelf and its set
pub record WorldParts (K H : Type 0) : Type 0 where
  pub records : Recorded K
  pub shelf : H
  pub checked : TypedSet

-- What is true of every world: its fragments may be kept, its set and its models have what keys are made of, its records are a history of the set's models, and
-- each entry is sound for this history, where the shelf tells its entries.
pub record IsWorld (checked : TypedSet) {K : Type 0} (records : Recorded K) (entries : Option (List Entry)) : Type 0 where
  pub site : IsSite checked.set checked.schema checked.routes
  pub names : HasNames checked.set checked.schema
  pub schema : records.schema ≡ checked.schema
  pub history : IsHistory records.schema records.history
  pub sound : IfSome entries (AreSoundFor checked records.history)

-- ---- what is answered

-- A hit is what direct rendering shows, with no cache, of each block that a page asks for by this key and these versions, at whichever place
-- of a history.
abbrev pub HitIsShown : TypedSet → List Commit → Ask → Fetched → Type 0
HitIsShown checked history ask (Hit value) =
    (place : ℕ) (table : TableMap) (block : Block) (vars : Variables)
    → AsksFor checked.set checked.schema checked.routes history place table block vars ask.key ask.versions
    → value ≡ fragment checked.set checked.schema block table vars
HitIsShown checked history ask (Miss why) = ⊤

-- so is each hit, of as many answers as questions
abbrev pub HitsAreShown : TypedSet → List Commit → List Ask → List Fetched → Type 0
HitsAreShown checked history [] [] = ⊤
HitsAreShown checked history (ask ∷ asks) (found ∷ more) = HitIsShown checked history ask found × HitsAreShown checked history asks more
HitsAreShown checked history asks found = ⊥

-- where entries are told
abbrev pub WhereTheyAreTold : Option (List Entry) → Type 0 → Type 0
WhereTheyAreTold entries P = IfSome entries (λ _. P)
