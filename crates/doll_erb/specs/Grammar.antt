-- The grammar of blocks: which pieces of a template make which tree (this project's own, after ERB).
use Rattle.std.specs.Prelude.{ℕ, suc, ◌+◌, ◌≡◌, List, [], ◌∷◌, ◌++◌, Result, Ok}
use Rattle.doll_text.specs.Gives.{Gives}
use Rattle.doll_expr.specs.declared.expr.Expr.{Expr}
use Rattle.doll_erb.specs.declared.node.ErbFault.{ErbFault}
use Rattle.doll_erb.specs.declared.node.ErbFault.TheVariants.{Memory}
use Rattle.doll_erb.specs.declared.node.Node.{Node, roll-Node}
use Rattle.doll_erb.specs.declared.node.Node.TheOpen.{Node-F}
use Rattle.doll_erb.specs.declared.node.Arm.{Arm}
use Rattle.doll_erb.specs.declared.node.KeyPart.{KeyPart}
use Rattle.doll_erb.specs.declared.role.Role.{Role}
use Rattle.doll_erb.specs.declared.role.Role.TheVariants as role
use Rattle.doll_erb.specs.declared.role.Opening.{Opening}
use Rattle.doll_erb.specs.declared.role.Opening.TheVariants as opening
use Rattle.doll_erb.specs.declared.role.Closing.{Closing}
use Rattle.doll_erb.specs.declared.role.Closing.TheVariants as closing
use Rattle.doll_erb.specs.declared.piece.Tag.{Tag}
use Rattle.doll_erb.specs.Cuts.{cut_of}
use Rattle.doll_erb.specs.Trees.{text_of, with_text, role_in, arm}

-- a piece that does this
abbrev pub Does : List ℕ → Tag → Role → Type 0
Does text piece what = role_in text piece ≡ Ok what

-- a tag that opens this block
abbrev pub IsOpening : List ℕ → Tag → Opening → Type 0
IsOpening text piece what = Does text piece (role.Opens what)

-- a tag that ends a part of a block in this way
abbrev pub IsClosing : List ℕ → Tag → Closing → Type 0
IsClosing text piece what = Does text piece (role.Closes what)

-- What pieces make: nodes and the text behind them, as they stand in a block; or, up to the tag that begins an arm of an
-- `if` at a place, the arms before it, with the arm's own place and test.
pub data Made : Type 0 where
  nodes : List Node → List ℕ → Made
  arms : ℕ → List Arm → ℕ → Expr → Made

-- Which pieces make what, where so many blocks may be open in one another. Cache tags are numbered in the order of the
-- text: the first number is that of the next such tag, the last that of the one behind these pieces.
pub data Makes (text : List ℕ) : ℕ → ℕ → List Tag → Made → ℕ → Type 0 where
  -- nothing
  nothing : (left number : ℕ) → Makes text left number [] (Made.nodes [] []) number
  -- nodes text; texts that follow one another, also round comments that give nothing, are one
  texts : (left number after : ℕ) (pieces : List Tag) (piece : Tag) (before : List Node) (bytes : List ℕ)
      → Makes text left number pieces (Made.nodes before bytes) after → Does text piece role.Nothing
      → Makes text left number (pieces ++ piece ∷ []) (Made.nodes before (bytes ++ text_of text piece)) after
  -- nodes and a tag that is a node by itself
  leaf : (left number after : ℕ) (pieces : List Tag) (piece : Tag) (before : List Node) (bytes : List ℕ) (node : Node)
      → Makes text left number pieces (Made.nodes before bytes) after → Does text piece (role.Leaf node)
      → Makes text left number (pieces ++ piece ∷ []) (Made.nodes (with_text before bytes ++ node ∷ []) []) after
  -- nodes "each" nodes "end"
  each : (left number inner after : ℕ) (pieces inside : List Tag) (piece closes : Tag) (before body : List Node) (bytes last : List ℕ) (list : Expr) (name : List ℕ)
      → Makes text (suc left) number pieces (Made.nodes before bytes) inner → IsOpening text piece (opening.Each list name)
      → Makes text left inner inside (Made.nodes body last) after → IsClosing text closes closing.End
      → Makes text (suc left) number (pieces ++ piece ∷ (inside ++ closes ∷ []))
      (Made.nodes (with_text before bytes ++ roll-Node (Node-F.Each piece.span.from list name (with_text body last)) ∷ []) []) after
  -- nodes "cache" nodes "end"
  cache : (left number inner after : ℕ) (pieces inside : List Tag) (piece closes : Tag) (before body : List Node) (bytes last : List ℕ) (key : List KeyPart)
      → Makes text (suc left) number pieces (Made.nodes before bytes) inner → IsOpening text piece (opening.Cache key)
      → Makes text left (inner + 1) inside (Made.nodes body last) after → IsClosing text closes closing.End
      → Makes text (suc left) number (pieces ++ piece ∷ (inside ++ closes ∷ []))
      (Made.nodes (with_text before bytes ++ roll-Node (Node-F.Cache piece.span.from inner key (with_text body last)) ∷ []) []) after
  -- arms = "if" | arms nodes "elsif", each with the tag's test
  if_arm : (left number : ℕ) (piece : Tag) (test : Expr) → IsOpening text piece (opening.If test)
      → Makes text left number (piece ∷ []) (Made.arms piece.span.from [] piece.span.from test) number
  elsif_arm : (left number inner after opens at : ℕ) (pieces inside : List Tag) (parts : Tag) (before : List Arm) (test next : Expr) (body : List Node) (last : List ℕ)
      → Makes text left number pieces (Made.arms opens before at test) inner → Makes text left inner inside (Made.nodes body last) after
      → IsClosing text parts (closing.Elsif next)
      → Makes text left number (pieces ++ (inside ++ parts ∷ [])) (Made.arms opens (before ++ arm at test (with_text body last) ∷ []) parts.span.from next) after
  -- nodes arms nodes "end"
  if_end : (left number inner middle after opens at : ℕ) (pieces header inside : List Tag) (closes : Tag) (before body : List Node) (bytes last : List ℕ) (first : List Arm) (test : Expr)
      → Makes text (suc left) number pieces (Made.nodes before bytes) inner → Makes text left inner header (Made.arms opens first at test) middle
      → Makes text left middle inside (Made.nodes body last) after → IsClosing text closes closing.End
      → Makes text (suc left) number (pieces ++ (header ++ (inside ++ closes ∷ [])))
      (Made.nodes (with_text before bytes ++ roll-Node (Node-F.If opens (first ++ arm at test (with_text body last) ∷ []) []) ∷ []) []) after
  -- nodes arms nodes "else" nodes "end"
  if_else : (left number inner middle third after opens at : ℕ) (pieces header inside rest : List Tag) (parts closes : Tag) (before body otherwise : List Node) (bytes last others : List ℕ)
      (first : List Arm) (test : Expr)
      → Makes text (suc left) number pieces (Made.nodes before bytes) inner → Makes text left inner header (Made.arms opens first at test) middle
      → Makes text left middle inside (Made.nodes body last) third → IsClosing text parts closing.Else
      → Makes text left third rest (Made.nodes otherwise others) after → IsClosing text closes closing.End
      → Makes text (suc left) number (pieces ++ (header ++ (inside ++ parts ∷ (rest ++ closes ∷ []))))
      (Made.nodes (with_text before bytes ++ roll-Node (Node-F.If opens (first ++ arm at test (with_text body last) ∷ []) (with_text otherwise others)) ∷ []) []) after

-- A text is a template with this tree: its pieces are, with 64 blocks open at once at most, numbered from 0.
pub record IsTemplate (text : List ℕ) (tree : List Node) : Type 0 where
  pub pieces : List Tag
  pub before : List Node
  pub bytes : List ℕ
  pub after : ℕ
  pub is_cut : cut_of text ≡ Ok pieces
  pub makes : Makes text 64 0 pieces (Made.nodes before bytes) after
  pub is : tree ≡ with_text before bytes

-- each tree of the text is the answer, unless memory runs out
abbrev pub GivesEachTree : List ℕ → Result (List Node) ErbFault → Type 0
GivesEachTree text result = (tree : List Node) → IsTemplate text tree → Gives Memory (Ok tree) result

-- no text has two trees
abbrev pub OneTree : Type 0
OneTree = (text : List ℕ) (one other : List Node) → IsTemplate text one → IsTemplate text other → one ≡ other
