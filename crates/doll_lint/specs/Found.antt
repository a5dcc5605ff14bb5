-- What a lint finds at cached blocks: the faults of each, and what it notes of each to compare it with others (this project's own).
use Rattle.std.specs.Prelude.{◌≡◌, ℕ, List, [], ◌∷◌, ◌++◌, map, if◌then◌else◌}
use Rattle.std.specs.List.{flat_map}
use Rattle.doll_schema.specs.Models.{ModelList}
use Rattle.doll_set.specs.Digests.{name_at}
use Rattle.doll_set.specs.Sets.{ReadSet}
use Rattle.doll_types.specs.declared.reached.Reached.{Reached}
use Rattle.doll_lint.specs.declared.fault.LintFault.{LintFault}
use Rattle.doll_lint.specs.declared.found.CachedBlock.{CachedBlock}
use Rattle.doll_lint.specs.declared.found.Found.{Found}
use Rattle.doll_lint.specs.declared.found.Note.{Note}
use Rattle.doll_lint.specs.declared.needs.Need.{Need}
use Rattle.doll_lint.specs.declared.path.Path.{Path}
use Rattle.doll_lint.specs.Blocks.{Block, blocks_of, key_paths, shape_of}
use Rattle.doll_lint.specs.Faults.{block_needs, is_met, kind_of}

-- the block that the code's stands for
abbrev pub block_at : CachedBlock → Block
block_at code = record { template = code.template; number = code.number; at = code.at; typing = code.typing.now; key = code.key.now; body = code.body.now }

-- the fault of a need of a block of the template with a name, where its key doesn't tell what is needed
abbrev pub unmet : ModelList → List ℕ → List Path → Need → List LintFault
unmet schema template key need =
    if is_met schema key need then [] else record { template = template; at = need.at; kind = kind_of schema key need.path.root need.path.steps } ∷ []

-- those of a block
unfoldable pub block_faults : ReadSet → ModelList → Block → List LintFault
block_faults set schema block = flat_map (unmet schema (name_at set.templates block.template) (key_paths schema block)) (block_needs schema set.templates block)

-- what is noted of a block
abbrev pub note_of : ModelList → Block → Note
note_of schema block = record { template = block.template; number = block.number; at = block.at; shape = shape_of schema block }

-- what is found after these blocks too
pub record Grows (set : ReadSet) (schema : ModelList) (blocks : List Block) (before after : Found) : Type 0 where
  pub faults : after.faults.items ≡ before.faults.items ++ flat_map (block_faults set schema) blocks
  pub notes : after.notes.items ≡ before.notes.items ++ map (note_of schema) blocks

-- the blocks of what pages reach
abbrev pub reached_blocks : ReadSet → ModelList → Reached → List Block
reached_blocks set schema one = blocks_of schema set.templates one.template one.typing

abbrev pub all_blocks : ReadSet → ModelList → List Reached → List Block
all_blocks set schema reached = flat_map (reached_blocks set schema) reached

-- what is found at the blocks of all that pages reach
pub record AreFound (set : ReadSet) (schema : ModelList) (reached : List Reached) (found : Found) : Type 0 where
  pub faults : found.faults.items ≡ flat_map (block_faults set schema) (all_blocks set schema reached)
  pub notes : found.notes.items ≡ map (note_of schema) (all_blocks set schema reached)
