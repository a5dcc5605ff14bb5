-- What a script is played on (this project's own).
use Rattle.std.specs.Prelude.{◌≡◌, ◌≤◌, ◌^◌, List, length, Ok}
use Rattle.std.specs.List.{AllByRecursion}
use Rattle.std.specs.Str.{IsUtf8}
use Rattle.doll_base.specs.declared.in_memory.ViewFile.{ViewFile}
use Rattle.doll_bundle.specs.Sites.{Site}
use Rattle.doll_keep.specs.Calls.{IsFaultless}
use Rattle.doll_set.specs.Sets.{ReadSet}
use Rattle.doll_shelf.specs.Settings.{AreValid}
use Rattle.doll_sound.specs.Names.{HasNames}
use Rattle.doll_sound.specs.Sites.{HasDistinctPlurals}
use Rattle.doll_types.specs.Sets.{TypedSet}
use Rattle.doll_views.specs.Sets.{set_in}
use Rattle.doll.specs.declared.replaying.Stage.{Stage}

-- the set is that of some files
abbrev pub WasMade : ReadSet → Type 0
WasMade set = (files : List ViewFile) × (set_in files ≡ Ok set)

-- the site that a typed set and what it is played on stand for
abbrev pub staged : TypedSet → Stage → Site
staged typed stage = record {
  schema = typed.schema;
  routes = stage.routes;
  set = typed.set;
  history = stage.records.history;
  settings = stage.settings;
  script = stage.script;
}

-- A world can be opened over the records, and pages of the set can be rendered from it.
pub record IsReady (typed : TypedSet) (stage : Stage) : Type 0 where
  pub routes : stage.routes ≡ typed.routes
  pub schema : stage.records.schema ≡ typed.schema
  pub keeper : IsFaultless stage.records.keeper.plan
  pub settings : AreValid stage.settings.shelf
  pub lines : AllByRecursion IsUtf8 stage.script
  pub few : length typed.set.templates ≤ 2 ^ 16
  pub plurals : HasDistinctPlurals typed.schema
  pub names : HasNames typed.set typed.schema
