-- Fragments with one key are one fragment (this project's own, after the rule of Rails' caching guide that a key must change with what is kept
-- under it).
use Rattle.std.specs.Prelude.{◌≡◌, ℕ, ◌≤◌, List, length, Some}
use Rattle.doll_journal.specs.declared.change.Commit.{Commit}
use Rattle.doll_records.specs.Histories.{IsHistory, table_at}
use Rattle.doll_route.specs.declared.route.Route.{Route}
use Rattle.doll_schema.specs.Models.{ModelList}
use Rattle.doll_set.specs.Sets.{ReadSet}
use Rattle.doll_table.specs.Tables.{TableMap}
use Rattle.doll_plain.specs.Direct.{Variables}
use Rattle.doll_lint.specs.Blocks.{Block}
use Rattle.doll_lint.specs.Faults.{IsBlock}
use Rattle.doll_agree.specs.Bodies.{body_writes}
use Rattle.doll_sound.specs.Keys.{HasKey}
use Rattle.doll_sound.specs.Sites.{IsSite}

-- what a block shows over a table with these variables: direct rendering of its body, with no cache
abbrev pub fragment : ReadSet → ModelList → Block → TableMap → Variables → List ℕ
fragment set schema block table vars = body_writes schema table set.templates block vars

-- At a place of a history, a page that reaches a block asks for its fragment with these variables, by this key and these versions.
pub record AsksFor (set : ReadSet) (schema : ModelList) (routes : List Route) (history : List Commit) (place : ℕ) (table : TableMap) (block : Block)
    (vars : Variables) (text versions : List ℕ) : Type 0 where
  pub within : place ≤ length history
  pub table_is : table_at schema history place ≡ Some table
  pub reached : IsBlock set schema routes block
  pub key : HasKey set schema block table vars text versions

-- Two pages that ask by one key and the same versions, at whichever places of one history and for whichever blocks, are shown the same bytes.
abbrev pub SameBytes : Type 0
SameBytes =
    (set : ReadSet) (schema : ModelList) (routes : List Route) (history : List Commit) → IsSite set schema routes → IsHistory schema history
    → (i j : ℕ) (table later : TableMap) (block twin : Block) (vars more : Variables) (text versions : List ℕ)
    → AsksFor set schema routes history i table block vars text versions
    → AsksFor set schema routes history j later twin more text versions
    → fragment set schema block table vars ≡ fragment set schema twin later more
