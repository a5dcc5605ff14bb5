-- Entries of a cache that are true for a history (this project's own).
use Rattle.std.specs.Prelude.{◌≡◌, ◌⊎◌, ◌≤◌, ℕ, List, ◌++◌, length, map, Some}
use Rattle.std.specs.List.{Contains}
use Rattle.doll_journal.specs.declared.change.Commit.{Commit}
use Rattle.doll_records.specs.Histories.{IsHistory, moment_at, table_at, table_up_to}
use Rattle.doll_route.specs.declared.route.Route.{Route}
use Rattle.doll_schema.specs.Models.{ModelList}
use Rattle.doll_set.specs.Sets.{ReadSet}
use Rattle.doll_table.specs.Tables.{TableMap}
use Rattle.doll_plain.specs.Direct.{Variables}
use Rattle.doll_lint.specs.Blocks.{Block}
use Rattle.doll_lint.specs.Faults.{IsBlock}
use Rattle.doll_entry.specs.declared.entry.Fresh.{Fresh}
use Rattle.doll_sound.specs.Fragments.{AsksFor, fragment}
use Rattle.doll_sound.specs.Keys.{HasKey}
use Rattle.doll_sound.specs.Sites.{IsSite}

-- 0, or the moment of a commit of a history
abbrev pub IsOrigin : List Commit → ℕ → Type 0
IsOrigin history origin = (origin ≡ 0) ⊎ Contains (map (λ (c : Commit). c.moment) history) origin

-- A fragment is what a block that a page reaches shows over a table: it has the block's number, the key and the versions of the block with its
-- variables, and its value is what the block shows. The set is the one with the number 0.
pub record IsShown (set : ReadSet) (schema : ModelList) (routes : List Route) (table : TableMap) (block : Block) (fresh : Fresh) : Type 0 where
  pub reached : IsBlock set schema routes block
  pub tree : fresh.block.tree ≡ 0
  pub template : fresh.block.template ≡ block.template
  pub number : fresh.block.block ≡ block.number
  pub key : HasKey set schema block table fresh.vars fresh.key fresh.versions
  pub value : fragment set schema block table fresh.vars ≡ fresh.value

-- A fragment is sound for a history: it is what a block shows over the table up to its origin.
pub record IsSound (set : ReadSet) (schema : ModelList) (routes : List Route) (history : List Commit) (fresh : Fresh) : Type 0 where
  pub origin : IsOrigin history fresh.origin
  pub table : TableMap
  pub table_is : table_up_to schema history fresh.origin ≡ Some table
  pub block : Block
  pub shown : IsShown set schema routes table block fresh

-- what a block shows over the table at a place of a history is sound for it, with the moment of the place as its origin
abbrev pub ShownIsSound : Type 0
ShownIsSound =
    (set : ReadSet) (schema : ModelList) (routes : List Route) (history : List Commit) (place : ℕ) (table : TableMap) (block : Block) (fresh : Fresh)
    → IsHistory schema history → place ≤ length history → table_at schema history place ≡ Some table
    → IsShown set schema routes table block fresh → fresh.origin ≡ moment_at history place → IsSound set schema routes history fresh

-- what is sound for a history stays sound when commits follow
abbrev pub SoundStays : Type 0
SoundStays =
    (set : ReadSet) (schema : ModelList) (routes : List Route) (history more : List Commit) (fresh : Fresh)
    → IsHistory schema history → IsHistory schema (history ++ more) → IsSound set schema routes history fresh
    → IsSound set schema routes (history ++ more) fresh

-- What is sound is just what any page is shown that asks by its key and its versions, at whichever place of the history, before the origin or
-- behind it.
abbrev pub SoundIsShown : Type 0
SoundIsShown =
    (set : ReadSet) (schema : ModelList) (routes : List Route) (history : List Commit) (fresh : Fresh)
    → IsSite set schema routes → IsHistory schema history → IsSound set schema routes history fresh
    → (place : ℕ) (table : TableMap) (block : Block) (vars : Variables)
    → AsksFor set schema routes history place table block vars fresh.key fresh.versions
    → fragment set schema block table vars ≡ fresh.value
