-- What is kept of a rendering that stopped (this project's own).
use Rattle.std.specs.Prelude.{◌≡◌, ◌<◌, ◌^◌, ℕ, Bool, true, false, List, [], ◌∷◌, map, Option, None, Some, All, IsSome, ⊤}
use Rattle.std.specs.List.{AllByRecursion}
use Rattle.doll_table.specs.Tables.{TableMap, row_of}
use Rattle.doll_eval.specs.Living.{AreLiving}
use Rattle.doll_entry.specs.declared.asks.Fetched.{Fetched}
use Rattle.doll_entry.specs.declared.asks.Fetched.TheVariants as fetched
use Rattle.doll_frames.specs.Walks.{Lives}
use Rattle.doll_frames.specs.declared.frame.Frame.{Frame}
use Rattle.doll_frames.specs.declared.frame.Frame.TheVariants as frame
use Rattle.doll_frames.specs.declared.frame.Kept.{Kept}
use Rattle.doll_frames.specs.declared.frame.KeptItem.{KeptItem}
use Rattle.doll_frames.specs.declared.stack.Answer.{Answer}
use Rattle.doll_frames.specs.declared.stack.Answer.TheVariants as answer
use Rattle.doll_frames.specs.declared.stack.AtBlock.{AtBlock}
use Rattle.doll_frames.specs.declared.stack.AtBlock.TheVariants as block
use Rattle.doll_frames.specs.declared.stack.AtCollection.{AtCollection}
use Rattle.doll_frames.specs.declared.stack.AtCollection.TheVariants as collection

-- frames, outermost first, and what was answered since
pub record Stopped : Type 0 where
  pub frames : List Frame
  pub answer : Answer

-- ---- answers

-- what was found of one block, and of several
pub record Given : Type 0 where
  pub one : Option (List ℕ)
  pub many : List (Option (List ℕ))

-- the bytes that were found, if any
abbrev pub fragment : Fetched → Option (List ℕ)
fragment (fetched.Hit bytes) = Some bytes
fragment (fetched.Miss why) = None

abbrev pub fragments : List Fetched → List (Option (List ℕ))
fragments found = map fragment found

abbrev pub given : Answer → Given
given answer.Nothing = record { one = None; many = [] }
given (answer.One found) = record { one = fragment found; many = [] }
given (answer.Many found) = record { one = None; many = fragments found }

-- ---- which frames belong to which parts

abbrev pub is_node : Frame → Bool
is_node (frame.Node number) = true
is_node other = false

abbrev pub is_arm : Frame → Bool
is_arm (frame.Arm place) = true
is_arm other = false

abbrev pub is_item : Frame → Bool
is_item (frame.Item walk) = true
is_item other = false

abbrev pub is_block : Frame → Bool
is_block (frame.Asked key) = true
is_block (frame.Body key written) = true
is_block frame.Behind = true
is_block other = false

abbrev pub is_partial : Frame → Bool
is_partial (frame.Partial number scope) = true
is_partial other = false

abbrev pub is_collection : Frame → Bool
is_collection (frame.Member partial walk) = true
is_collection (frame.AskedMany kept) = true
is_collection (frame.Missed kept written) = true
is_collection (frame.HandedIn kept) = true
is_collection other = false

-- whether the outermost frame is of a kind
abbrev pub first_is : (Frame → Bool) → List Frame → Bool
first_is of [] = false
first_is of (one ∷ frames) = of one

-- it begins anew where the outermost frame isn't of the kind
abbrev pub Begins : (Frame → Bool) → List Frame → List Frame → Type 0
Begins of frames left = (first_is of frames ≡ false) × (left ≡ [])

abbrev pub IsAtBlock : List Frame → List Frame → AtBlock → Type 0
IsAtBlock frames left block.Start = Begins is_block frames left
IsAtBlock frames left (block.Asked key) = frames ≡ frame.Asked key ∷ left
IsAtBlock frames left (block.Body key written) = frames ≡ frame.Body key written ∷ left
IsAtBlock frames left block.Behind = frames ≡ frame.Behind ∷ left

abbrev pub IsAtCollection : List Frame → List Frame → AtCollection → Type 0
IsAtCollection frames left collection.Start = Begins is_collection frames left
IsAtCollection frames left (collection.Member partial walk) = frames ≡ frame.Member partial walk ∷ left
IsAtCollection frames left (collection.Asked kept) = frames ≡ frame.AskedMany kept ∷ left
IsAtCollection frames left (collection.Missed kept written) = frames ≡ frame.Missed kept written ∷ left
IsAtCollection frames left (collection.HandedIn kept) = frames ≡ frame.HandedIn kept ∷ left

-- ---- frames over a table

-- the items of a cached collection are in a table, and its partial is one of the set's
abbrev pub KeptLives : TableMap → Kept → Type 0
KeptLives table kept = (kept.partial < 2 ^ 16) × All (λ (item : KeptItem). IsSome (row_of table kept.model item.id)) kept.items

-- the records that a frame keeps, and those of its variables, are in a table
abbrev pub FrameLives : TableMap → Frame → Type 0
FrameLives table (frame.Item walk) = Lives table walk
FrameLives table (frame.Partial number scope) = AreLiving table scope.vars
FrameLives table (frame.Member partial walk) = Lives table walk
FrameLives table (frame.AskedMany kept) = KeptLives table kept
FrameLives table (frame.Missed kept written) = KeptLives table kept
FrameLives table (frame.HandedIn kept) = KeptLives table kept
FrameLives table other = ⊤

unfoldable pub FramesLive : TableMap → List Frame → Type 0
FramesLive table frames = AllByRecursion (FrameLives table) frames
