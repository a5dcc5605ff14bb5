-- The fold with the nodes kept and that without have one fault.
use Rattle.std.proofs.Common.{◌≡◌, ℕ, suc, Bool, true, false, cond, nat_lt, List, [], ◌∷◌, length, map, Option, None, Some, Result, Ok, Err, refl, sym, ap, subst, ◌∙◌}
use Rattle.doll_text.specs.Gives.{Gives}
use Rattle.doll_erb.specs.declared.node.Node.{Node}
use Rattle.doll_erb.specs.declared.node.ErbFault.{ErbFault}
use Rattle.doll_erb.specs.declared.node.ErbFault.TheVariants.{Memory, TooDeep}
use Rattle.doll_erb.specs.declared.role.Role.{Role}
use Rattle.doll_erb.specs.declared.role.Role.TheVariants as role
use Rattle.doll_erb.specs.declared.role.Opening.{Opening}
use Rattle.doll_erb.specs.declared.role.Opening.TheVariants as opening
use Rattle.doll_erb.specs.declared.role.Closing.{Closing}
use Rattle.doll_erb.specs.declared.role.Closing.TheVariants as closing
use Rattle.doll_erb.specs.declared.frame.Frame.{Frame}
use Rattle.doll_erb.specs.declared.frame.Frame.TheVariants as frame
use Rattle.doll_erb.specs.declared.piece.Tag.{Tag}
use Rattle.doll_erb.specs.Cuts.{cut_of}
use Rattle.doll_erb.specs.Trees.{and_then, role_in, State, state, body_of, frame_of, number_in, part_ended, closed_in, with_role, with_piece, with_pieces, place_of, at_end, whole, tree_of}
use Rattle.doll_erb.specs.Faults.{OpenBlock, open_block, Blocks, is_if, after_closing, after_role, after_piece, after_pieces, fault_at_end, fault_in, first_fault, Faults}
use Rattle.doll_erb.proofs.TagFaults.{by_grammar}

-- an open block without its nodes
abbrev block_of : Frame → OpenBlock
block_of (frame.If at first arm_at test outer) = open_block at true
block_of (frame.Else at all outer) = open_block at false
block_of (frame.Each at list name outer) = open_block at false
block_of (frame.Cache at number key outer) = open_block at false

abbrev blocks_of : List Frame → List OpenBlock
blocks_of [] = []
blocks_of (f ∷ fs) = block_of f ∷ blocks_of fs

-- what was read, without the nodes
abbrev blocks_in : Result State ErbFault → Blocks
blocks_in (Ok s) = Ok (blocks_of s.frames)
blocks_in (Err fault) = Err fault

same_length : (fs : List Frame) → length (blocks_of fs) ≡ length fs
same_length [] = refl
same_length (f ∷ fs) = ap suc (same_length fs)

opened_same : (fs : List Frame) (s : State) (at : ℕ) (what : Opening) (b : Bool)
    → blocks_in (cond b (Ok (state (frame_of at s.number what (body_of s) ∷ fs) [] [] (number_in s.number what))) (Err (TooDeep at))) ≡ cond b (Ok (open_block at (is_if what) ∷ blocks_of fs)) (Err (TooDeep at))
opened_same fs s at (opening.If test) true = refl
opened_same fs s at (opening.Each list name) true = refl
opened_same fs s at (opening.Cache key) true = refl
opened_same fs s at what false = refl

closed_same : (fs : List Frame) (s : State) (at : ℕ) (what : Closing) → blocks_in (closed_in fs s at what) ≡ after_closing (blocks_of fs) at what
closed_same [] s at (closing.Elsif test) = refl
closed_same [] s at closing.Else = refl
closed_same [] s at closing.End = refl
closed_same (f ∷ fs) s at closing.End = refl
closed_same (frame.If opens first arm_at test outer ∷ fs) s at (closing.Elsif next) = refl
closed_same (frame.If opens first arm_at test outer ∷ fs) s at closing.Else = refl
closed_same (frame.Else opens all outer ∷ fs) s at (closing.Elsif next) = refl
closed_same (frame.Else opens all outer ∷ fs) s at closing.Else = refl
closed_same (frame.Each opens list name outer ∷ fs) s at (closing.Elsif next) = refl
closed_same (frame.Each opens list name outer ∷ fs) s at closing.Else = refl
closed_same (frame.Cache opens number key outer ∷ fs) s at (closing.Elsif next) = refl
closed_same (frame.Cache opens number key outer ∷ fs) s at closing.Else = refl

role_same : (text : List ℕ) (s : State) (piece : Tag) (what : Role) → blocks_in (with_role text s piece what) ≡ after_role (blocks_of s.frames) piece.span.from what
role_same text s piece role.Nothing = refl
role_same text s piece (role.Leaf node) = refl
role_same text s piece (role.Opens what) =
    opened_same s.frames s piece.span.from what (nat_lt (length s.frames) 64)
    ∙ ap (λ (n : ℕ). cond (nat_lt n 64) (Ok (open_block piece.span.from (is_if what) ∷ blocks_of s.frames)) (Err (TooDeep piece.span.from))) (sym (same_length s.frames))
role_same text s piece (role.Closes what) = closed_same s.frames s piece.span.from what

piece_same : (text : List ℕ) (s : State) (piece : Tag) → blocks_in (with_piece text s piece) ≡ after_piece text (blocks_of s.frames) piece
unfolding with_piece
piece_same text s piece = by_role (role_in text piece)
  where
    by_role : (r : Result Role ErbFault) → blocks_in (and_then r (with_role text s piece)) ≡ and_then r (after_role (blocks_of s.frames) piece.span.from)
    by_role (Ok what) = role_same text s piece what
    by_role (Err fault) = refl

pieces_same : (text : List ℕ) (s : State) (pieces : List Tag) → blocks_in (with_pieces text s pieces) ≡ after_pieces text (blocks_of s.frames) pieces
unfolding with_pieces after_pieces
pieces_same text s [] = refl
pieces_same text s (piece ∷ pieces) =
    by_piece (λ n. pieces_same text n pieces) (with_piece text s piece) ∙ ap (λ (r : Blocks). and_then r (λ next. after_pieces text next pieces)) (piece_same text s piece)
  where
    by_piece : ((n : State) → blocks_in (with_pieces text n pieces) ≡ after_pieces text (blocks_of n.frames) pieces) → (r : Result State ErbFault)
        → blocks_in (and_then r (λ n. with_pieces text n pieces)) ≡ and_then (blocks_in r) (λ next. after_pieces text next pieces)
    by_piece more (Ok n) = more n
    by_piece more (Err fault) = refl

-- ---- the whole

-- a tree where there is no fault, and the fault where there is one
abbrev Agrees : Result (List Node) ErbFault → Option ErbFault → Type 0
Agrees (Ok tree) fault = fault ≡ None
Agrees (Err e) fault = fault ≡ Some e

ends_agree : (fs : List Frame) (s : State) → Agrees (at_end fs s) (fault_at_end (Ok (blocks_of fs)))
ends_agree [] s = refl
ends_agree (frame.If at first arm_at test outer ∷ fs) s = refl
ends_agree (frame.Else at all outer ∷ fs) s = refl
ends_agree (frame.Each at list name outer ∷ fs) s = refl
ends_agree (frame.Cache at number key outer ∷ fs) s = refl

state_agrees : (r : Result State ErbFault) → Agrees (and_then r (λ s. at_end s.frames s)) (fault_at_end (blocks_in r))
state_agrees (Ok s) = ends_agree s.frames s
state_agrees (Err fault) = refl

cut_agrees : (text : List ℕ) (r : Result (List Tag) ErbFault) → Agrees (and_then r (whole text)) (fault_in text r)
unfolding whole
cut_agrees text (Err fault) = refl
cut_agrees text (Ok pieces) =
    subst (λ (b : Blocks). Agrees (and_then (with_pieces text (state [] [] [] 0) pieces) (λ s. at_end s.frames s)) (fault_at_end b)) (pieces_same text (state [] [] [] 0) pieces) (state_agrees (with_pieces text (state [] [] [] 0) pieces))

text_agrees : (text : List ℕ) → Agrees (tree_of text) (first_fault text)
unfolding tree_of first_fault
text_agrees text = cut_agrees text (cut_of text)

-- what is answered, by what the text is
by_tree : (text : List ℕ) (tree r : Result (List Node) ErbFault) → Agrees tree (first_fault text) → Gives Memory tree r → Faults text r
by_tree text tree (Ok nodes) agrees given = subst (λ (t : Result (List Node) ErbFault). Agrees t (first_fault text)) given agrees
by_tree text tree (Err fault) agrees given = λ unlike.
    let is : first_fault text ≡ Some fault = subst (λ (t : Result (List Node) ErbFault). Agrees t (first_fault text)) (given unlike) agrees in
    (is, by_grammar text fault is)

pub template_faults : (text : List ℕ) (r : Result (List Node) ErbFault) → Gives Memory (tree_of text) r → Faults text r
template_faults text r given = by_tree text (tree_of text) r (text_agrees text) given
