-- The tree of a template: a fold over its pieces, with the blocks that are open (this project's own, after ERB).
use Rattle.std.specs.Prelude.{ℕ, ◌+◌, ◌-◌, nat_lt, List, [], ◌∷◌, ◌++◌, length, take, drop, Result, Ok, Err, if◌then◌else◌}
use Rattle.doll_expr.specs.declared.expr.Expr.{Expr}
use Rattle.doll_expr.specs.declared.expr.ExprFault.{ExprFault}
use Rattle.doll_erb.specs.declared.node.Node.{Node, roll-Node}
use Rattle.doll_erb.specs.declared.node.Node.TheOpen.{Node-F}
use Rattle.doll_erb.specs.declared.node.Arm.{Arm}
use Rattle.doll_erb.specs.declared.node.ErbFault.{ErbFault}
use Rattle.doll_erb.specs.declared.node.ErbFault.TheVariants.{StrayEnd, MissingEnd, BadExpr, TooDeep}
use Rattle.doll_erb.specs.declared.role.Role.{Role}
use Rattle.doll_erb.specs.declared.role.Role.TheVariants as role
use Rattle.doll_erb.specs.declared.role.Opening.{Opening}
use Rattle.doll_erb.specs.declared.role.Opening.TheVariants as opening
use Rattle.doll_erb.specs.declared.role.Closing.{Closing}
use Rattle.doll_erb.specs.declared.role.Closing.TheVariants as closing
use Rattle.doll_erb.specs.declared.frame.Frame.{Frame}
use Rattle.doll_erb.specs.declared.frame.Frame.TheVariants as frame
use Rattle.doll_erb.specs.declared.piece.Tag.{Tag}
use Rattle.doll_erb.specs.declared.piece.TagKind.{TagKind}
use Rattle.doll_erb.specs.declared.piece.TagKind.TheVariants as tag
use Rattle.doll_erb.specs.Cuts.{cut_of}
use Rattle.doll_erb.specs.Tags.{role_of}

-- ---- pieces

-- the bytes of a template between two places
abbrev pub between : List ℕ → ℕ → ℕ → List ℕ
between text from to = take (to - from) (drop from text)

-- the content of a piece
abbrev pub content_of : List ℕ → Tag → List ℕ
content_of text piece = between text piece.content.from piece.content.to

abbrev pub text_of_kind : TagKind → List ℕ → List ℕ
text_of_kind tag.Text content = content
text_of_kind other content = []

-- what a piece writes as it stands
unfoldable pub text_of : List ℕ → Tag → List ℕ
text_of text piece = text_of_kind piece.kind (content_of text piece)

-- what comes next, if there is no fault so far
abbrev pub and_then : {A B : Type 0} → Result A ErbFault → (A → Result B ErbFault) → Result B ErbFault
and_then (Ok x) f = f x
and_then (Err fault) f = Err fault

-- a fault within a tag is that of the tag
abbrev pub in_tag : ℕ → Result Role ExprFault → Result Role ErbFault
in_tag at (Ok what) = Ok what
in_tag at (Err fault) = Err (BadExpr at fault)

-- what a piece does
unfoldable pub role_in : List ℕ → Tag → Result Role ErbFault
role_in text piece = in_tag piece.span.from (role_of piece.span.from piece.kind (content_of text piece))

-- ---- nodes

-- nodes, and the text that stands behind them; an empty text is no node
abbrev pub with_text : List Node → List ℕ → List Node
with_text nodes [] = nodes
with_text nodes (b ∷ bytes) = nodes ++ roll-Node (Node-F.Text (b ∷ bytes)) ∷ []

abbrev pub arm : ℕ → Expr → List Node → Arm
arm at test body = record { at = at; test = test; body = body }

-- ---- blocks

-- What was read so far: the open blocks, the innermost first, the nodes and the text in that, and the number of the next cache tag.
pub record State : Type 0 where
  pub frames : List Frame
  pub nodes : List Node
  pub bytes : List ℕ
  pub number : ℕ

abbrev pub state : List Frame → List Node → List ℕ → ℕ → State
state frames nodes bytes number = record { frames = frames; nodes = nodes; bytes = bytes; number = number }

-- what stands in the innermost block
abbrev pub body_of : State → List Node
body_of s = with_text s.nodes s.bytes

-- a text more
abbrev pub with_bytes : State → List ℕ → State
with_bytes s more = state s.frames s.nodes (s.bytes ++ more) s.number

-- a node more
abbrev pub with_node : State → Node → State
with_node s node = state s.frames (body_of s ++ node ∷ []) [] s.number

-- a block that a tag opens behind these nodes
abbrev pub frame_of : ℕ → ℕ → Opening → List Node → Frame
frame_of at number (opening.If test) outer = frame.If at [] at test outer
frame_of at number (opening.Each list name) outer = frame.Each at list name outer
frame_of at number (opening.Cache key) outer = frame.Cache at number key outer

-- the number of the next cache tag behind the tag
abbrev pub number_in : ℕ → Opening → ℕ
number_in number (opening.If test) = number
number_in number (opening.Each list name) = number
number_in number (opening.Cache key) = number + 1

-- `end`: the nodes before a block and the block, by its last part
abbrev pub nodes_with : Frame → List Node → List Node
nodes_with (frame.If at arms arm_at test outer) body = outer ++ roll-Node (Node-F.If at (arms ++ arm arm_at test body ∷ []) []) ∷ []
nodes_with (frame.Else at arms outer) body = outer ++ roll-Node (Node-F.If at arms body) ∷ []
nodes_with (frame.Each at list name outer) body = outer ++ roll-Node (Node-F.Each at list name body) ∷ []
nodes_with (frame.Cache at number key outer) body = outer ++ roll-Node (Node-F.Cache at number key body) ∷ []

-- `elsif`, at a place: an `if` without `else` so far has a further arm
abbrev pub at_elsif : Frame → ℕ → Expr → List Node → Result Frame ErbFault
at_elsif (frame.If at arms arm_at test outer) place next body = Ok (frame.If at (arms ++ arm arm_at test body ∷ []) place next outer)
at_elsif other place next body = Err (StrayEnd place)

-- `else`, at a place: the last part of an `if` without one so far
abbrev pub at_else : Frame → ℕ → List Node → Result Frame ErbFault
at_else (frame.If at arms arm_at test outer) place body = Ok (frame.Else at (arms ++ arm arm_at test body ∷ []) outer)
at_else other place body = Err (StrayEnd place)

-- ---- a piece more

-- a block more, unless it would be the 65th that is open at once
abbrev pub opened : State → ℕ → Opening → Result State ErbFault
opened s at what = if nat_lt (length s.frames) 64 then Ok (state (frame_of at s.number what (body_of s) ∷ s.frames) [] [] (number_in s.number what)) else Err (TooDeep at)

-- the end of a part of the innermost block
abbrev pub part_ended : Frame → List Frame → List Node → ℕ → ℕ → Closing → Result State ErbFault
part_ended innermost others body number at (closing.Elsif test) = and_then (at_elsif innermost at test body) (λ next. Ok (state (next ∷ others) [] [] number))
part_ended innermost others body number at closing.Else = and_then (at_else innermost at body) (λ next. Ok (state (next ∷ others) [] [] number))
part_ended innermost others body number at closing.End = Ok (state others (nodes_with innermost body) [] number)

abbrev pub closed_in : List Frame → State → ℕ → Closing → Result State ErbFault
closed_in [] s at what = Err (StrayEnd at)
closed_in (innermost ∷ others) s at what = part_ended innermost others (body_of s) s.number at what

-- the end of a part of the innermost block, if one is open
abbrev pub closed : State → ℕ → Closing → Result State ErbFault
closed s at what = closed_in s.frames s at what

-- what was read with a piece more, by what it does
abbrev pub with_role : List ℕ → State → Tag → Role → Result State ErbFault
with_role text s piece role.Nothing = Ok (with_bytes s (text_of text piece))
with_role text s piece (role.Leaf node) = Ok (with_node s node)
with_role text s piece (role.Opens what) = opened s piece.span.from what
with_role text s piece (role.Closes what) = closed s piece.span.from what

-- what was read with a piece more
unfoldable pub with_piece : List ℕ → State → Tag → Result State ErbFault
with_piece text s piece = and_then (role_in text piece) (with_role text s piece)

-- what was read with these pieces more
unfoldable pub with_pieces : List ℕ → State → List Tag → Result State ErbFault
with_pieces text s [] = Ok s
with_pieces text s (piece ∷ pieces) = and_then (with_piece text s piece) (λ next. with_pieces text next pieces)

-- ---- the whole

-- the place of an open block's tag
abbrev pub place_of : Frame → ℕ
place_of (frame.If at arms arm_at test outer) = at
place_of (frame.Else at arms outer) = at
place_of (frame.Each at list name outer) = at
place_of (frame.Cache at number key outer) = at

-- at the text's end no block may be open
abbrev pub at_end : List Frame → State → Result (List Node) ErbFault
at_end [] s = Ok (body_of s)
at_end (innermost ∷ others) s = Err (MissingEnd (place_of innermost))

-- the tree, where all is read
abbrev pub tree_at_end : State → Result (List Node) ErbFault
tree_at_end s = at_end s.frames s

-- what pieces come to
unfoldable pub whole : List ℕ → List Tag → Result (List Node) ErbFault
whole text pieces = and_then (with_pieces text (state [] [] [] 0) pieces) tree_at_end

-- The tree of a template, or its first fault: that of the cut, else the first in the text, of which a block that isn't closed is the last.
unfoldable pub tree_of : List ℕ → Result (List Node) ErbFault
tree_of text = and_then (cut_of text) (whole text)
