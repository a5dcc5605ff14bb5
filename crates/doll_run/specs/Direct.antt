-- Rendering through a cache that answers with what direct rendering writes (this project's own).
use Rattle.std.specs.Prelude.{◌≡◌, ◌++◌, ℕ, true, List, [], ◌∷◌, Option, IfSome, ⊤}
use Rattle.doll_entry.specs.declared.asks.Ask.{Ask}
use Rattle.doll_entry.specs.declared.entry.Fresh.{Fresh}
use Rattle.doll_plain.specs.Direct.{Variables, direct}
use Rattle.doll_plain.specs.Pages.{scene_in, template_writes}
use Rattle.doll_types.specs.Sound.{HaveTypes}
use Rattle.doll_lint.specs.Blocks.{Block}
use Rattle.doll_run.specs.Pages.{Ground}
use Rattle.doll_run.specs.Rendering.{Keyed, asked, fresh}
use Rattle.doll_run.specs.Runs.{Ends, Reads, ReadsMany, Rest, Run, Writes}

-- each answer that is there is one that its question may have
abbrev pub AreFound : (Ask → List ℕ → Type 0) → List Ask → List (Option (List ℕ)) → Type 0
AreFound Found [] found = ⊤
AreFound Found (ask ∷ asks) [] = ⊤
AreFound Found (ask ∷ asks) (one ∷ found) = IfSome one (Found ask) × AreFound Found asks found

-- Whatever is found, as long as each question is answered by what it may be answered: each block that is handed in is as it must be, and at the end these bytes
-- are written.
abbrev pub Comes : (Ask → List ℕ → Type 0) → (Fresh → Type 0) → List ℕ → Run → Type 0
Comes Found Made page (Ends looks bytes) = bytes ≡ page
Comes Found Made page (Reads looks ask rest) = (found : Option (List ℕ)) → IfSome found (Found ask) → Comes Found Made page (rest found)
Comes Found Made page (ReadsMany looks asks rest) = (found : List (Option (List ℕ))) → AreFound Found asks found → Comes Found Made page (rest found)
Comes Found Made page (Writes looks fresh rest) = Made fresh × Comes Found Made page rest

-- what follows these bytes comes to the page, after any number of looks
abbrev pub Follows : (Ask → List ℕ → Type 0) → (Fresh → Type 0) → List ℕ → List ℕ → Rest → Type 0
Follows Found Made page out rest = (looks : ℕ) → Comes Found Made page (rest looks out)

-- A part of a rendering writes these bytes: what follows it may come to a page from behind them.
abbrev pub WritesOnly : (Ask → List ℕ → Type 0) → (Fresh → Type 0) → List ℕ → (Rest → Rest) → Type 0
WritesOnly Found Made text run = (page out : List ℕ) (rest : Rest) → Follows Found Made page (out ++ text) rest → Follows Found Made page out (run rest)

-- ---- blocks

-- what a block shows with no cache
abbrev pub shows : Ground → Block → Variables → List ℕ
shows over block vars =
    direct (scene_in over.schema over.table over.templates (template_writes over.schema over.table over.templates) block.template) block.body vars

-- its key
abbrev pub block_keyed : Ground → Block → Variables → Keyed
block_keyed over block vars = over.keyed block.template block.typing block.key vars

-- Under any variables that have its types and of which it has a key, a block is answered by what it shows, and is handed in as it must be.
pub record IsRight (over : Ground) (Found : Ask → List ℕ → Type 0) (Made : Fresh → Type 0) (block : Block) : Type 0 where
  pub found : (vars : Variables) → HaveTypes over.table block.typing vars → (block_keyed over block vars).is_key ≡ true → (bytes : List ℕ)
      → Found (asked over.tree block.template block.number (block_keyed over block vars) vars) bytes → bytes ≡ shows over block vars
  pub made : (vars : Variables) → HaveTypes over.table block.typing vars → (block_keyed over block vars).is_key ≡ true
      → Made (fresh over.tree over.moment block.template block.number (block_keyed over block vars) vars (shows over block vars))
