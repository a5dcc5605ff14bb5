-- What a renderer that goes through a cache may ask of a world and hand in (this project's own).
use Rattle.std.specs.Prelude.{◌≡◌, ◌≤◌, ℕ, List, length, Some}
use Rattle.doll_journal.specs.declared.change.Commit.{Commit}
use Rattle.doll_records.specs.Histories.{IsHistory, moment_at, table_at}
use Rattle.doll_table.specs.Tables.{TableMap}
use Rattle.doll_types.specs.Sets.{TypedSet}
use Rattle.doll_entry.specs.declared.asks.Ask.{Ask}
use Rattle.doll_entry.specs.declared.asks.Fetched.TheVariants.{Hit}
use Rattle.doll_entry.specs.declared.entry.Fresh.{Fresh}
use Rattle.doll_sound.specs.Names.{HasNames}
use Rattle.doll_run.specs.Comes.{IsHandedIn, IsShown}
use Rattle.doll_run.specs.Keys.{keyed_over}
use Rattle.doll_run.specs.Pages.{Ground, ground_of}
use Rattle.doll_world.specs.Worlds.{HitIsShown, IsSoundFor}

-- what the pages of a checked set are rendered over: a table with the moment of the last commit before it, and the number of the set; the keys of blocks are those
-- over the table
abbrev pub rendered_over : TypedSet → TableMap → ℕ → ℕ → Ground
rendered_over checked table moment tree = ground_of checked.set checked.schema table moment tree (keyed_over checked.set checked.schema table)

-- What a world hits may be found by a renderer at whichever place of the history.
abbrev pub HitsAreFound : Type 0
HitsAreFound =
    (checked : TypedSet) (history : List Commit) (place : ℕ) (table : TableMap) (moment tree : ℕ) (ask : Ask) (bytes : List ℕ)
    → HasNames checked.set checked.schema → place ≤ length history → table_at checked.schema history place ≡ Some table
    → HitIsShown checked history ask (Hit bytes)
    → IsShown checked.set checked.routes (rendered_over checked table moment tree) ask bytes

-- What a renderer at whichever place of the history hands in is sound for it, by the set with the number 0 and the moment of the place.
abbrev pub HandedInIsSound : Type 0
HandedInIsSound =
    (checked : TypedSet) (history : List Commit) (place : ℕ) (table : TableMap) (handed : Fresh)
    → HasNames checked.set checked.schema → IsHistory checked.schema history → place ≤ length history → table_at checked.schema history place ≡ Some table
    → IsHandedIn checked.set checked.routes (rendered_over checked table (moment_at history place) 0) handed
    → IsSoundFor checked history handed
