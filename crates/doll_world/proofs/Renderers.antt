-- Hits are what a renderer may find, and what it hands in is sound.
use Rattle.std.proofs.Common.{◌≡◌, ℕ, true, List, sym, ap, subst}
use Rattle.doll_table.specs.Tables.{TableMap}
use Rattle.doll_plain.specs.Direct.{Variables}
use Rattle.doll_types.specs.Sets.{TypedSet}
use Rattle.doll_types.specs.Sound.{HaveTypes}
use Rattle.doll_lint.specs.Blocks.{Block}
use Rattle.doll_lint.specs.Faults.{IsBlock}
use Rattle.doll_entry.specs.declared.asks.Ask.{Ask}
use Rattle.doll_entry.specs.declared.entry.Fresh.{Fresh}
use Rattle.doll_run.specs.Rendering.{Keyed}
use Rattle.doll_sound.specs.Keys.{HasKey, keyed_of}
use Rattle.doll_sound.specs.Names.{HasNames}
use Rattle.doll_sound.proofs.Entries.{shown_is_sound}
use Rattle.doll_sound.proofs.Having.{keys_are_keys}
use Rattle.doll_world.specs.Renderers.{HandedInIsSound, HitsAreFound}

-- what is asked for or handed in under a renderer's key has the key of its block
has_key : (checked : TypedSet) (block : Block) (table : TableMap) (vars : Variables) (text versions : List ℕ) → HasNames checked.set checked.schema → IsBlock checked.set checked.schema checked.routes block → HaveTypes table block.typing vars
    → (keyed_of checked.set checked.schema block table vars).is_key ≡ true → text ≡ (keyed_of checked.set checked.schema block table vars).text → versions ≡ (keyed_of checked.set checked.schema block table vars).versions
    → HasKey checked.set checked.schema block table vars text versions
has_key checked block table vars text versions names is have key texts are =
    let keyed : Keyed = keyed_of checked.set checked.schema block table vars in
    subst (λ t. HasKey checked.set checked.schema block table vars t versions) (sym texts)
    (subst (λ v. HasKey checked.set checked.schema block table vars keyed.text v) (sym are) (keys_are_keys checked.set checked.schema checked.routes block table vars names is have key))

pub hits_are_found : HitsAreFound
hits_are_found checked history place table moment tree ask bytes names within at shown block reached types key is =
    shown place table block ask.vars
    (record {
      within = within;
      table_is = at;
      reached = reached;
      key = has_key checked block table ask.vars ask.key ask.versions names reached types key (ap (λ (a : Ask). a.key) is) (ap (λ (a : Ask). a.versions) is);
    })

pub handed_in_is_sound : HandedInIsSound
handed_in_is_sound checked history place table handed names history_is within at made =
    shown_is_sound checked.set checked.schema checked.routes history place table made.block handed history_is within at
    (record {
      reached = made.is_block;
      tree = ap (λ (f : Fresh). f.block.tree) made.is;
      template = ap (λ (f : Fresh). f.block.template) made.is;
      number = ap (λ (f : Fresh). f.block.block) made.is;
      key = has_key checked made.block table handed.vars handed.key handed.versions names made.is_block made.types made.is_key (ap (λ (f : Fresh). f.key) made.is) (ap (λ (f : Fresh). f.versions) made.is);
      value = sym (ap (λ (f : Fresh). f.value) made.is);
    })
    (ap (λ (f : Fresh). f.origin) made.is)
