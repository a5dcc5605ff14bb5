-- What a cached block shows is told by its key (this project's own, after the rule of Rails' caching guide that a key must change with what is
-- shown).
use Rattle.std.specs.Prelude.{◌≡◌, ◌⊎◌, ℕ, List}
use Rattle.doll_schema.specs.Models.{ModelList}
use Rattle.doll_table.specs.Fits.{Fits}
use Rattle.doll_table.specs.Tables.{TableMap}
use Rattle.doll_route.specs.declared.route.Route.{Route}
use Rattle.doll_set.specs.Sets.{ReadSet}
use Rattle.doll_set.specs.declared.template.Template.{Template}
use Rattle.doll_plain.specs.Direct.{Scene, Variables, Writes, direct}
use Rattle.doll_plain.specs.Pages.{scene_in, template_writes}
use Rattle.doll_types.specs.Faults.{IsTyped}
use Rattle.doll_types.specs.Sound.{HaveTypes}
use Rattle.doll_lint.specs.Blocks.{Block}
use Rattle.doll_lint.specs.Faults.{IsBlock, IsClean}
use Rattle.doll_past.specs.Facts.{IsLater}
use Rattle.doll_agree.specs.Keys.{KeysAgree}

-- what the template with a number is rendered over in a table
abbrev pub scene_over : ModelList → TableMap → List Template → ℕ → Scene
scene_over schema table templates number = scene_in schema table templates (template_writes schema table templates) number

-- what the body of a block writes over a table
abbrev pub body_writes : ModelList → TableMap → List Template → Block → Writes
body_writes schema table templates block = direct (scene_over schema table templates block.template) block.body

-- of two tables one is later than the other, whichever
abbrev pub AreOfOneHistory : ModelList → TableMap → TableMap → Type 0
AreOfOneHistory schema one other = IsLater schema one other ⊎ IsLater schema other one

-- In a typed and clean set, a block that pages reach shows the same bytes on two pages over tables of one history, where its key tells the same.
-- On one of the pages its variables have the types with which it is reached. Of the other no more than this is known: there they may have others.
abbrev pub BodiesAgree : Type 0
BodiesAgree =
    (set : ReadSet) (schema : ModelList) (routes : List Route) (block : Block) (one other : TableMap) (here there : Variables)
    → IsTyped set schema routes → IsClean set schema routes → IsBlock set schema routes block
    → Fits schema one → Fits schema other → AreOfOneHistory schema one other
    → HaveTypes one block.typing here → KeysAgree schema one other here there block.key
    → body_writes schema one set.templates block here ≡ body_writes schema other set.templates block there
