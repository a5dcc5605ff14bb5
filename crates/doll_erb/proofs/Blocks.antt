-- The fold over pieces is the grammar of blocks, and its fault the first by the blocks that tags open and close.
use Rattle.std.proofs.Common.{◌≡◌, ◌<◌, ◌≤◌, ℕ, zero, suc, ◌+◌, Bool, true, false, cond, nat_lt, List, [], ◌∷◌, ◌++◌, length, map, Option, None, Some, Result, Ok, Err, refl, sym, ap, subst, ◌∙◌, append_assoc, arith}
use Rattle.std.specs.Prelude.{IfOk}
use Rattle.std.proofs.lemmas.Bool.{lt-ltb}
use Rattle.std.proofs.lemmas.Bool.Decides.{Decides-ltb}
use Rattle.std.proofs.lemmas.List.{append-nil}
use Rattle.doll_text.specs.Gives.{Gives}
use Rattle.doll_expr.specs.declared.expr.Expr.{Expr}
use Rattle.doll_erb.specs.declared.node.Node.{Node, roll-Node}
use Rattle.doll_erb.specs.declared.node.Node.TheOpen.{Node-F}
use Rattle.doll_erb.specs.declared.node.Arm.{Arm}
use Rattle.doll_erb.specs.declared.node.ErbFault.{ErbFault}
use Rattle.doll_erb.specs.declared.node.ErbFault.TheVariants.{Memory, StrayEnd, TooDeep}
use Rattle.doll_erb.specs.declared.node.KeyPart.{KeyPart}
use Rattle.doll_erb.specs.declared.role.Role.{Role}
use Rattle.doll_erb.specs.declared.role.Role.TheVariants as role
use Rattle.doll_erb.specs.declared.role.Opening.{Opening}
use Rattle.doll_erb.specs.declared.role.Opening.TheVariants as opening
use Rattle.doll_erb.specs.declared.role.Closing.{Closing}
use Rattle.doll_erb.specs.declared.role.Closing.TheVariants as closing
use Rattle.doll_erb.specs.declared.frame.Frame.{Frame}
use Rattle.doll_erb.specs.declared.frame.Frame.TheVariants as frame
use Rattle.doll_erb.specs.declared.piece.Tag.{Tag}
use Rattle.doll_erb.specs.Cuts.{cut_of}
use Rattle.doll_erb.specs.Trees.{and_then, text_of, with_text, arm, role_in, State, state, body_of, frame_of, number_in, nodes_with, opened, part_ended, closed_in, with_role, with_piece, with_pieces, place_of, at_end, whole, tree_of}
use Rattle.doll_erb.specs.Grammar.{Does, IsOpening, IsClosing, Made, Makes, nothing, texts, leaf, each, cache, if_arm, elsif_arm, if_end, if_else, IsTemplate, OneTree}

-- ---- a piece after another

does_step : (text : List ℕ) (s : State) (piece : Tag) (what : Role) → Does text piece what → with_piece text s piece ≡ with_role text s piece what
unfolding with_piece
does_step text s piece what does = ap (λ (r : Result Role ErbFault). and_then r (with_role text s piece)) does

step_ok : (text : List ℕ) (s next : State) (piece : Tag) (pieces : List Tag) → with_piece text s piece ≡ Ok next → with_pieces text s (piece ∷ pieces) ≡ with_pieces text next pieces
unfolding with_pieces
step_ok text s next piece pieces h = ap (λ (r : Result State ErbFault). and_then r (λ n. with_pieces text n pieces)) h

last_step : (text : List ℕ) (s next : State) (piece : Tag) → with_piece text s piece ≡ Ok next → with_pieces text s (piece ∷ []) ≡ Ok next
unfolding with_pieces
last_step text s next piece h = ap (λ (r : Result State ErbFault). and_then r (λ n. with_pieces text n [])) h

more_ok : (text : List ℕ) (s next : State) (ts us : List Tag) → with_pieces text s ts ≡ Ok next → with_pieces text s (ts ++ us) ≡ with_pieces text next us
unfolding with_pieces
more_ok text s next [] us h = let same : s ≡ next = cc h in ap (λ (n : State). with_pieces text n us) same
more_ok text s next (t ∷ ts) us h = by_piece (λ n. more_ok text n next ts us) (with_piece text s t) h
  where
    by_piece : ((n : State) → with_pieces text n ts ≡ Ok next → with_pieces text n (ts ++ us) ≡ with_pieces text next us) → (r : Result State ErbFault)
        → and_then r (λ n. with_pieces text n ts) ≡ Ok next → and_then r (λ n. with_pieces text n (ts ++ us)) ≡ with_pieces text next us
    by_piece more (Ok n) is = more n is
    by_piece more (Err fault) is = absurd (cc is)

-- ---- what the grammar makes is read

abbrev Claim : List ℕ → ℕ → ℕ → List Tag → Made → ℕ → Type 0
Claim text left number pieces (Made.nodes ns bs) after = (fs : List Frame) → length fs + left ≡ 64 → with_pieces text (state fs [] [] number) pieces ≡ Ok (state fs ns bs after)
Claim text left number pieces (Made.arms at first arm_at test) after = (fs : List Frame) (os : List Node) (obs : List ℕ) → suc (length fs + left) ≡ 64
    → with_pieces text (state fs os obs number) pieces ≡ Ok (state (frame.If at first arm_at test (with_text os obs) ∷ fs) [] [] after)

opens_step : (text : List ℕ) (fs : List Frame) (ns : List Node) (bs : List ℕ) (number : ℕ) (piece : Tag) (what : Opening) → IsOpening text piece what → length fs < 64
    → with_piece text (state fs ns bs number) piece ≡ Ok (state (frame_of piece.span.from number what (with_text ns bs) ∷ fs) [] [] (number_in number what))
opens_step text fs ns bs number piece what opens few =
    does_step text (state fs ns bs number) piece (role.Opens what) opens
    ∙ ap (λ (b : Bool). cond b (Ok (state (frame_of piece.span.from number what (with_text ns bs) ∷ fs) [] [] (number_in number what))) (Err (TooDeep piece.span.from))) (lt-ltb (length fs) 64 few)

-- a block that nothing but `end` parts
block_runs : (text : List ℕ) (fs : List Frame) (ns body : List Node) (bs last : List ℕ) (number after : ℕ) (piece closes : Tag) (inside : List Tag) (what : Opening) → IsOpening text piece what → length fs < 64
    → with_pieces text (state (frame_of piece.span.from number what (with_text ns bs) ∷ fs) [] [] (number_in number what)) inside ≡ Ok (state (frame_of piece.span.from number what (with_text ns bs) ∷ fs) body last after)
    → IsClosing text closes closing.End
    → with_pieces text (state fs ns bs number) (piece ∷ (inside ++ closes ∷ [])) ≡ Ok (state fs (nodes_with (frame_of piece.span.from number what (with_text ns bs)) (with_text body last)) [] after)
block_runs text fs ns body bs last number after piece closes inside what opens few runs ends =
    let inner : State = state (frame_of piece.span.from number what (with_text ns bs) ∷ fs) body last after in
    step_ok text (state fs ns bs number) (state (frame_of piece.span.from number what (with_text ns bs) ∷ fs) [] [] (number_in number what)) piece (inside ++ closes ∷ []) (opens_step text fs ns bs number piece what opens few)
    ∙ more_ok text (state (frame_of piece.span.from number what (with_text ns bs) ∷ fs) [] [] (number_in number what)) inner inside (closes ∷ []) runs
    ∙ last_step text inner (state fs (nodes_with (frame_of piece.span.from number what (with_text ns bs)) (with_text body last)) [] after) closes (does_step text inner closes (role.Closes closing.End) ends)

claims : (text : List ℕ) (left number : ℕ) (pieces : List Tag) (made : Made) (after : ℕ) → Makes text left number pieces made after → Claim text left number pieces made after
unfolding with_pieces
claims text _ _ _ _ _ (nothing left number) = λ fs room. refl
claims text _ _ _ _ _ (texts left number after pieces piece ns bs m does) = λ fs room.
    more_ok text (state fs [] [] number) (state fs ns bs after) pieces (piece ∷ []) (claims text left number pieces (Made.nodes ns bs) after m fs room)
    ∙ last_step text (state fs ns bs after) _ piece (does_step text (state fs ns bs after) piece role.Nothing does)
claims text _ _ _ _ _ (leaf left number after pieces piece ns bs node m does) = λ fs room.
    more_ok text (state fs [] [] number) (state fs ns bs after) pieces (piece ∷ []) (claims text left number pieces (Made.nodes ns bs) after m fs room)
    ∙ last_step text (state fs ns bs after) _ piece (does_step text (state fs ns bs after) piece (role.Leaf node) does)
claims text _ _ _ _ _ (each left number inner after pieces inside piece closes ns body bs last list name m opens n ends) = λ fs room.
    let here : length (frame.Each piece.span.from list name (with_text ns bs) ∷ fs) + left ≡ 64 = omega (arith, room) in
    more_ok text (state fs [] [] number) (state fs ns bs inner) pieces (piece ∷ (inside ++ closes ∷ [])) (claims text (suc left) number pieces (Made.nodes ns bs) inner m fs room)
    ∙ block_runs text fs ns body bs last inner after piece closes inside (opening.Each list name) opens (omega (arith, room)) (claims text left inner inside (Made.nodes body last) after n (frame.Each piece.span.from list name (with_text ns bs) ∷ fs) here) ends
claims text _ _ _ _ _ (cache left number inner after pieces inside piece closes ns body bs last key m opens n ends) = λ fs room.
    let here : length (frame.Cache piece.span.from inner key (with_text ns bs) ∷ fs) + left ≡ 64 = omega (arith, room) in
    more_ok text (state fs [] [] number) (state fs ns bs inner) pieces (piece ∷ (inside ++ closes ∷ [])) (claims text (suc left) number pieces (Made.nodes ns bs) inner m fs room)
    ∙ block_runs text fs ns body bs last inner after piece closes inside (opening.Cache key) opens (omega (arith, room)) (claims text left (inner + 1) inside (Made.nodes body last) after n (frame.Cache piece.span.from inner key (with_text ns bs) ∷ fs) here) ends
claims text _ _ _ _ _ (if_arm left number piece test opens) = λ fs os obs room.
    last_step text (state fs os obs number) _ piece (opens_step text fs os obs number piece (opening.If test) opens (omega (arith, room)))
claims text _ _ _ _ _ (elsif_arm left number inner after at arm_at pieces inside parts first test next body last m n ends) = λ fs os obs room.
    let f : Frame = frame.If at first arm_at test (with_text os obs) in
    let here : length (frame.If at first arm_at test (with_text os obs) ∷ fs) + left ≡ 64 = omega (arith, room) in
    more_ok text (state fs os obs number) (state (f ∷ fs) [] [] inner) pieces (inside ++ parts ∷ []) (claims text left number pieces (Made.arms at first arm_at test) inner m fs os obs room)
    ∙ more_ok text (state (f ∷ fs) [] [] inner) (state (f ∷ fs) body last after) inside (parts ∷ []) (claims text left inner inside (Made.nodes body last) after n (f ∷ fs) here)
    ∙ last_step text (state (f ∷ fs) body last after) _ parts (does_step text (state (f ∷ fs) body last after) parts (role.Closes (closing.Elsif next)) ends)
claims text _ _ _ _ _ (if_end left number inner middle after at arm_at pieces header inside closes ns body bs last first test m h n ends) = λ fs room.
    let f : Frame = frame.If at first arm_at test (with_text ns bs) in
    let here : length (frame.If at first arm_at test (with_text ns bs) ∷ fs) + left ≡ 64 = omega (arith, room) in
    more_ok text (state fs [] [] number) (state fs ns bs inner) pieces (header ++ (inside ++ closes ∷ [])) (claims text (suc left) number pieces (Made.nodes ns bs) inner m fs room)
    ∙ more_ok text (state fs ns bs inner) (state (f ∷ fs) [] [] middle) header (inside ++ closes ∷ []) (claims text left inner header (Made.arms at first arm_at test) middle h fs ns bs (omega (arith, room)))
    ∙ more_ok text (state (f ∷ fs) [] [] middle) (state (f ∷ fs) body last after) inside (closes ∷ []) (claims text left middle inside (Made.nodes body last) after n (f ∷ fs) here)
    ∙ last_step text (state (f ∷ fs) body last after) _ closes (does_step text (state (f ∷ fs) body last after) closes (role.Closes closing.End) ends)
claims text _ _ _ _ _ (if_else left number inner middle third after at arm_at pieces header inside rest parts closes ns body otherwise bs last others first test m h n parted o ends) = λ fs room.
    let f : Frame = frame.If at first arm_at test (with_text ns bs) in
    let g : Frame = frame.Else at (first ++ arm arm_at test (with_text body last) ∷ []) (with_text ns bs) in
    let here : length (frame.If at first arm_at test (with_text ns bs) ∷ fs) + left ≡ 64 = omega (arith, room) in
    more_ok text (state fs [] [] number) (state fs ns bs inner) pieces (header ++ (inside ++ parts ∷ (rest ++ closes ∷ []))) (claims text (suc left) number pieces (Made.nodes ns bs) inner m fs room)
    ∙ more_ok text (state fs ns bs inner) (state (f ∷ fs) [] [] middle) header (inside ++ parts ∷ (rest ++ closes ∷ [])) (claims text left inner header (Made.arms at first arm_at test) middle h fs ns bs (omega (arith, room)))
    ∙ more_ok text (state (f ∷ fs) [] [] middle) (state (f ∷ fs) body last third) inside (parts ∷ (rest ++ closes ∷ [])) (claims text left middle inside (Made.nodes body last) third n (f ∷ fs) here)
    ∙ step_ok text (state (f ∷ fs) body last third) (state (g ∷ fs) [] [] third) parts (rest ++ closes ∷ []) (does_step text (state (f ∷ fs) body last third) parts (role.Closes closing.Else) parted)
    ∙ more_ok text (state (g ∷ fs) [] [] third) (state (g ∷ fs) otherwise others after) rest (closes ∷ []) (claims text left third rest (Made.nodes otherwise others) after o (g ∷ fs) here)
    ∙ last_step text (state (g ∷ fs) otherwise others after) _ closes (does_step text (state (g ∷ fs) otherwise others after) closes (role.Closes closing.End) ends)

pub text_only : (text : List ℕ) (tree : List Node) → IsTemplate text tree → tree_of text ≡ Ok tree
unfolding tree_of whole
text_only text tree is =
    let runs = claims text 64 0 is.pieces (Made.nodes is.before is.bytes) is.after is.makes [] refl in
    ap (λ (r : Result (List Tag) ErbFault). and_then r (λ pieces. and_then (with_pieces text (state [] [] [] 0) pieces) (λ s. at_end s.frames s))) is.is_cut
    ∙ ap (λ (r : Result State ErbFault). and_then r (λ s. at_end s.frames s)) runs ∙ ap Ok (sym is.is)

-- ---- what is read is what the grammar makes

abbrev Nodes : List ℕ → ℕ → ℕ → List Tag → List Node → List ℕ → ℕ → Type 0
Nodes text left number pieces ns bs after = Makes text left number pieces (Made.nodes ns bs) after

-- What opens a block, up to the part that is read: with the number of the next cache tag before and behind it.
abbrev Header : List ℕ → Frame → ℕ → ℕ → List Tag → ℕ → Type 0
Header text (frame.If at first arm_at test outer) left inner header start = Makes text left inner header (Made.arms at first arm_at test) start
Header text (frame.Else at all outer) left inner header start =
    (front : List Tag) × (inside : List Tag) × (parts : Tag) × (first : List Arm) × (arm_at : ℕ) × (test : Expr) × (body : List Node) × (last : List ℕ) × (middle : ℕ)
    × (header ≡ front ++ (inside ++ parts ∷ [])) × (all ≡ first ++ arm arm_at test (with_text body last) ∷ []) × Makes text left inner front (Made.arms at first arm_at test) middle
    × Nodes text left middle inside body last start × IsClosing text parts closing.Else
Header text (frame.Each at list name outer) left inner header start = (piece : Tag) × (header ≡ piece ∷ []) × (at ≡ piece.span.from) × (start ≡ inner) × IsOpening text piece (opening.Each list name)
Header text (frame.Cache at number key outer) left inner header start =
    (piece : Tag) × (header ≡ piece ∷ []) × (at ≡ piece.span.from) × (start ≡ inner + 1) × (number ≡ inner) × IsOpening text piece (opening.Cache key)

abbrev outer_of : Frame → List Node
outer_of (frame.If at first arm_at test outer) = outer
outer_of (frame.Else at all outer) = outer
outer_of (frame.Each at list name outer) = outer
outer_of (frame.Cache at number key outer) = outer

-- The pieces before the part that is read: those round each open block, and what opens it.
abbrev Context : List ℕ → List Frame → List Tag → ℕ → ℕ → Type 0
Context text [] before left start = (before ≡ []) × (left ≡ 64) × (start ≡ 0)
Context text (f ∷ fs) before left start =
    (first : List Tag) × (pieces : List Tag) × (header : List Tag) × (ns : List Node) × (bs : List ℕ) × (number : ℕ) × (inner : ℕ)
    × (before ≡ first ++ (pieces ++ header)) × Context text fs first (suc left) number × Nodes text (suc left) number pieces ns bs inner × (outer_of f ≡ with_text ns bs) × Header text f left inner header start

record Holds (text : List ℕ) (s : State) (done : List Tag) : Type 0 where
  before : List Tag
  inside : List Tag
  left : ℕ
  start : ℕ
  parts : done ≡ before ++ inside
  context : Context text s.frames before left start
  nodes : Nodes text left start inside s.nodes s.bytes s.number

context_left : (text : List ℕ) (fs : List Frame) (before : List Tag) (left start : ℕ) → Context text fs before left start → length fs + left ≡ 64
context_left text [] before left start c = let all = c.1 in omega (arith, all)
context_left text (f ∷ fs) before left start c = let more = context_left text fs c.0 (suc left) c.5 c.8 in omega (arith, more)

snoc : (done before inside : List Tag) (piece : Tag) → done ≡ before ++ inside → done ++ piece ∷ [] ≡ before ++ (inside ++ piece ∷ [])
snoc done before inside piece h = ap (λ (ts : List Tag). ts ++ piece ∷ []) h ∙ append_assoc before inside (piece ∷ [])

-- the piece joins what stands in the innermost block
joins : (text : List ℕ) (s : State) (done : List Tag) (piece : Tag) (ns : List Node) (bs : List ℕ) → (h : Holds text s done) → Nodes text h.left h.start (h.inside ++ piece ∷ []) ns bs s.number → Holds text (state s.frames ns bs s.number) (done ++ piece ∷ [])
joins text s done piece ns bs h makes = record { before = h.before; inside = h.inside ++ piece ∷ []; left = h.left; start = h.start; parts = snoc done h.before h.inside piece h.parts; context = h.context; nodes = makes }

-- the piece begins a part
part_begins : (text : List ℕ) (s : State) (f : Frame) (fs : List Frame) (number left start : ℕ) (done before : List Tag) → done ≡ before → Context text (f ∷ fs) before left number → Holds text (state (f ∷ fs) [] [] number) done
part_begins text s f fs number left start done before same context = record {
  before = before;
  inside = [];
  left = left;
  start = number;
  parts = same ∙ sym (append-nil before);
  context = context;
  nodes = nothing left number;
}

frame_header : (text : List ℕ) (number left : ℕ) (piece : Tag) (what : Opening) (outer : List Node) → IsOpening text piece what → Header text (frame_of piece.span.from number what outer) left number (piece ∷ []) (number_in number what)
frame_header text number left piece (opening.If test) outer opens = if_arm left number piece test opens
frame_header text number left piece (opening.Each list name) outer opens = (piece, refl, refl, refl, opens)
frame_header text number left piece (opening.Cache key) outer opens = (piece, refl, refl, refl, refl, opens)

frame_outer : (at number : ℕ) (what : Opening) (outer : List Node) → outer_of (frame_of at number what outer) ≡ outer
frame_outer at number (opening.If test) outer = refl
frame_outer at number (opening.Each list name) outer = refl
frame_outer at number (opening.Cache key) outer = refl

opens_holds : (text : List ℕ) (s : State) (done : List Tag) (piece : Tag) (what : Opening) (before inside : List Tag) (left start : ℕ) → done ≡ before ++ inside → Context text s.frames before left start
    → Nodes text left start inside s.nodes s.bytes s.number → IsOpening text piece what → length s.frames < 64
    → Holds text (state (frame_of piece.span.from s.number what (body_of s) ∷ s.frames) [] [] (number_in s.number what)) (done ++ piece ∷ [])
opens_holds text s done piece what before inside zero start parts context nodes opens few = absurd (let room = context_left text s.frames before 0 start context in omega (arith, room, few))
opens_holds text s done piece what before inside (suc left) start parts context nodes opens few =
    part_begins text s (frame_of piece.span.from s.number what (body_of s)) s.frames (number_in s.number what) left start (done ++ piece ∷ []) (before ++ (inside ++ piece ∷ [])) (snoc done before inside piece parts)
    (before, inside, piece ∷ [], s.nodes, s.bytes, start, s.number, refl, context, nodes, frame_outer piece.span.from s.number what (body_of s), frame_header text s.number left piece what (body_of s) opens)

spread : (done before inside first pieces header : List Tag) (piece : Tag) → done ≡ before ++ inside → before ≡ first ++ (pieces ++ header) → done ++ piece ∷ [] ≡ first ++ (pieces ++ (header ++ (inside ++ piece ∷ [])))
spread done before inside first pieces header piece parts same =
    let rest : List Tag = inside ++ piece ∷ [] in
    snoc done before inside piece parts ∙ ap (λ (ts : List Tag). ts ++ rest) same ∙ append_assoc first (pieces ++ header) rest ∙ ap (λ (ts : List Tag). first ++ ts) (append_assoc pieces header rest)

-- the block with its last part
closed_block : (text : List ℕ) (f : Frame) (left number inner start after : ℕ) (pieces header inside : List Tag) (closes : Tag) (ns body : List Node) (bs last : List ℕ) → Nodes text (suc left) number pieces ns bs inner
    → outer_of f ≡ with_text ns bs → Header text f left inner header start → Nodes text left start inside body last after → IsClosing text closes closing.End
    → Nodes text (suc left) number (pieces ++ (header ++ (inside ++ closes ∷ []))) (nodes_with f (with_text body last)) [] after
closed_block text (frame.If at first arm_at test outer) left number inner start after pieces header inside closes ns body bs last before same h within ends =
    subst (λ (o : List Node). Nodes text (suc left) number (pieces ++ (header ++ (inside ++ closes ∷ []))) (o ++ roll-Node (Node-F.If at (first ++ arm arm_at test (with_text body last) ∷ []) []) ∷ []) [] after) (sym same)
    (if_end left number inner start after at arm_at pieces header inside closes ns body bs last first test before h within ends)
closed_block text (frame.Else at all outer) left number inner start after pieces header inside closes ns body bs last before same h within ends =
    let front : List Tag = h.0 in
    let tail : List Tag = inside ++ closes ∷ [] in
    let tags : header ++ (inside ++ closes ∷ []) ≡ h.0 ++ (h.1 ++ h.2 ∷ (inside ++ closes ∷ [])) =
    ap (λ (ts : List Tag). ts ++ tail) h.9 ∙ append_assoc h.0 (h.1 ++ h.2 ∷ []) tail ∙ ap (λ (ts : List Tag). front ++ ts) (append_assoc h.1 (h.2 ∷ []) tail) in
    let made = if_else left number inner h.8 start after at h.4 pieces h.0 h.1 inside h.2 closes ns h.6 body bs h.7 last h.3 h.5 before h.11 h.12 h.13 within ends in
    let with_outer = subst (λ (o : List Node). Nodes text (suc left) number (pieces ++ (h.0 ++ (h.1 ++ h.2 ∷ (inside ++ closes ∷ [])))) (o ++ roll-Node (Node-F.If at (h.3 ++ arm h.4 h.5 (with_text h.6 h.7) ∷ []) (with_text body last)) ∷ []) [] after) (sym same) made in
    let with_arms = subst (λ (a : List Arm). Nodes text (suc left) number (pieces ++ (h.0 ++ (h.1 ++ h.2 ∷ (inside ++ closes ∷ [])))) (outer ++ roll-Node (Node-F.If at a (with_text body last)) ∷ []) [] after) (sym h.10) with_outer in
    subst (λ (ts : List Tag). Nodes text (suc left) number (pieces ++ ts) (outer ++ roll-Node (Node-F.If at all (with_text body last)) ∷ []) [] after) (sym tags) with_arms
closed_block text (frame.Each at list name outer) left number inner start after pieces header inside closes ns body bs last before same h within ends =
    let here : Nodes text left inner inside body last after = subst (λ (n : ℕ). Nodes text left n inside body last after) h.3 within in
    let made = each left number inner after pieces inside h.0 closes ns body bs last list name before h.4 here ends in
    let with_outer = subst (λ (o : List Node). Nodes text (suc left) number (pieces ++ h.0 ∷ (inside ++ closes ∷ [])) (o ++ roll-Node (Node-F.Each h.0.span.from list name (with_text body last)) ∷ []) [] after) (sym same) made in
    let with_at = subst (λ (n : ℕ). Nodes text (suc left) number (pieces ++ h.0 ∷ (inside ++ closes ∷ [])) (outer ++ roll-Node (Node-F.Each n list name (with_text body last)) ∷ []) [] after) (sym h.2) with_outer in
    subst (λ (ts : List Tag). Nodes text (suc left) number (pieces ++ (ts ++ (inside ++ closes ∷ []))) (outer ++ roll-Node (Node-F.Each at list name (with_text body last)) ∷ []) [] after) (sym h.1) with_at
closed_block text (frame.Cache at block key outer) left number inner start after pieces header inside closes ns body bs last before same h within ends =
    let here : Nodes text left (inner + 1) inside body last after = subst (λ (n : ℕ). Nodes text left n inside body last after) h.3 within in
    let made = cache left number inner after pieces inside h.0 closes ns body bs last key before h.5 here ends in
    let with_outer = subst (λ (o : List Node). Nodes text (suc left) number (pieces ++ h.0 ∷ (inside ++ closes ∷ [])) (o ++ roll-Node (Node-F.Cache h.0.span.from inner key (with_text body last)) ∷ []) [] after) (sym same) made in
    let with_at = subst (λ (n : ℕ). Nodes text (suc left) number (pieces ++ h.0 ∷ (inside ++ closes ∷ [])) (outer ++ roll-Node (Node-F.Cache n inner key (with_text body last)) ∷ []) [] after) (sym h.2) with_outer in
    let with_block = subst (λ (n : ℕ). Nodes text (suc left) number (pieces ++ h.0 ∷ (inside ++ closes ∷ [])) (outer ++ roll-Node (Node-F.Cache at n key (with_text body last)) ∷ []) [] after) (sym h.4) with_at in
    subst (λ (ts : List Tag). Nodes text (suc left) number (pieces ++ (ts ++ (inside ++ closes ∷ []))) (outer ++ roll-Node (Node-F.Cache at block key (with_text body last)) ∷ []) [] after) (sym h.1) with_block

-- an `if` with an arm more
arm_holds : (text : List ℕ) (s : State) (done : List Tag) (piece : Tag) (at arm_at : ℕ) (first : List Arm) (test next : Expr) (outer : List Node) (fs : List Frame) (before inside : List Tag) (left start : ℕ) → done ≡ before ++ inside
    → Context text (frame.If at first arm_at test outer ∷ fs) before left start → Nodes text left start inside s.nodes s.bytes s.number → IsClosing text piece (closing.Elsif next)
    → Holds text (state (frame.If at (first ++ arm arm_at test (body_of s) ∷ []) piece.span.from next outer ∷ fs) [] [] s.number) (done ++ piece ∷ [])
arm_holds text s done piece at arm_at first test next outer fs before inside left start parts c nodes ends =
    part_begins text s (frame.If at (first ++ arm arm_at test (body_of s) ∷ []) piece.span.from next outer) fs s.number left start (done ++ piece ∷ []) (c.0 ++ (c.1 ++ (c.2 ++ (inside ++ piece ∷ []))))
    (spread done before inside c.0 c.1 c.2 piece parts c.7)
    (c.0, c.1, c.2 ++ (inside ++ piece ∷ []), c.3, c.4, c.5, c.6, refl, c.8, c.9, c.10, elsif_arm left c.6 start s.number at arm_at c.2 inside piece first test next s.nodes s.bytes c.11 nodes ends)

else_holds : (text : List ℕ) (s : State) (done : List Tag) (piece : Tag) (at arm_at : ℕ) (first : List Arm) (test : Expr) (outer : List Node) (fs : List Frame) (before inside : List Tag) (left start : ℕ) → done ≡ before ++ inside
    → Context text (frame.If at first arm_at test outer ∷ fs) before left start → Nodes text left start inside s.nodes s.bytes s.number → IsClosing text piece closing.Else
    → Holds text (state (frame.Else at (first ++ arm arm_at test (body_of s) ∷ []) outer ∷ fs) [] [] s.number) (done ++ piece ∷ [])
else_holds text s done piece at arm_at first test outer fs before inside left start parts c nodes ends =
    part_begins text s (frame.Else at (first ++ arm arm_at test (body_of s) ∷ []) outer) fs s.number left start (done ++ piece ∷ []) (c.0 ++ (c.1 ++ (c.2 ++ (inside ++ piece ∷ []))))
    (spread done before inside c.0 c.1 c.2 piece parts c.7)
    (c.0, c.1, c.2 ++ (inside ++ piece ∷ []), c.3, c.4, c.5, c.6, refl, c.8, c.9, c.10, (c.2, inside, piece, first, arm_at, test, s.nodes, s.bytes, start, refl, refl, c.11, nodes, ends))

abbrev fault_of : ErbFault → Result State ErbFault
fault_of fault = Err fault

closing_holds : (text : List ℕ) (s next : State) (done : List Tag) (piece : Tag) (what : Closing) (f : Frame) (fs : List Frame) (before inside : List Tag) (left start : ℕ) → done ≡ before ++ inside → Context text (f ∷ fs) before left start
    → Nodes text left start inside s.nodes s.bytes s.number → IsClosing text piece what → part_ended f fs (body_of s) s.number piece.span.from what ≡ Ok next → Holds text next (done ++ piece ∷ [])
closing_holds text s next done piece closing.End f fs before inside left start parts c nodes ends h =
    let same : state fs (nodes_with f (body_of s)) [] s.number ≡ next = cc h in
    subst (λ (n : State). Holds text n (done ++ piece ∷ [])) same (record {
      before = c.0;
      inside = c.1 ++ (c.2 ++ (inside ++ piece ∷ []));
      left = suc left;
      start = c.5;
      parts = spread done before inside c.0 c.1 c.2 piece parts c.7;
      context = c.8;
      nodes = closed_block text f left c.5 c.6 start s.number c.1 c.2 inside piece c.3 s.nodes c.4 s.bytes c.9 c.10 c.11 nodes ends;
    })
closing_holds text s next done piece (closing.Elsif test) (frame.If at first arm_at last outer) fs before inside left start parts c nodes ends h =
    let same : state (frame.If at (first ++ arm arm_at last (body_of s) ∷ []) piece.span.from test outer ∷ fs) [] [] s.number ≡ next = cc h in
    subst (λ (n : State). Holds text n (done ++ piece ∷ [])) same (arm_holds text s done piece at arm_at first last test outer fs before inside left start parts c nodes ends)
closing_holds text s next done piece closing.Else (frame.If at first arm_at last outer) fs before inside left start parts c nodes ends h =
    let same : state (frame.Else at (first ++ arm arm_at last (body_of s) ∷ []) outer ∷ fs) [] [] s.number ≡ next = cc h in
    subst (λ (n : State). Holds text n (done ++ piece ∷ [])) same (else_holds text s done piece at arm_at first last outer fs before inside left start parts c nodes ends)
closing_holds text s next done piece what f fs before inside left start parts c nodes ends h = absurd (cc h)

role_holds : (text : List ℕ) (s next : State) (done : List Tag) (piece : Tag) (what : Role) → Holds text s done → Does text piece what → with_role text s piece what ≡ Ok next → Holds text next (done ++ piece ∷ [])
role_holds text s next done piece role.Nothing holds does h =
    let same : state s.frames s.nodes (s.bytes ++ text_of text piece) s.number ≡ next = cc h in
    subst (λ (n : State). Holds text n (done ++ piece ∷ [])) same
    (joins text s done piece s.nodes (s.bytes ++ text_of text piece) holds (texts holds.left holds.start s.number holds.inside piece s.nodes s.bytes holds.nodes does))
role_holds text s next done piece (role.Leaf node) holds does h =
    let same : state s.frames (body_of s ++ node ∷ []) [] s.number ≡ next = cc h in
    subst (λ (n : State). Holds text n (done ++ piece ∷ [])) same
    (joins text s done piece (body_of s ++ node ∷ []) [] holds (leaf holds.left holds.start s.number holds.inside piece s.nodes s.bytes node holds.nodes does))
role_holds text s next done piece (role.Opens what) holds does h = by_room (nat_lt (length s.frames) 64) refl h
  where
    by_room : (b : Bool) → nat_lt (length s.frames) 64 ≡ b → cond b (Ok (state (frame_of piece.span.from s.number what (body_of s) ∷ s.frames) [] [] (number_in s.number what))) (Err (TooDeep piece.span.from)) ≡ Ok next → Holds text next (done ++ piece ∷ [])
    by_room true few is =
        let same : state (frame_of piece.span.from s.number what (body_of s) ∷ s.frames) [] [] (number_in s.number what) ≡ next = cc is in
        subst (λ (n : State). Holds text n (done ++ piece ∷ [])) same (opens_holds text s done piece what holds.before holds.inside holds.left holds.start holds.parts holds.context holds.nodes does ((Decides-ltb (length s.frames) 64).0 few))
    by_room false few is = absurd (cc is)
role_holds text s next done piece (role.Closes what) holds does h = by_frames s.frames holds.context h
  where
    by_frames : (fs : List Frame) → Context text fs holds.before holds.left holds.start → closed_in fs s piece.span.from what ≡ Ok next → Holds text next (done ++ piece ∷ [])
    by_frames [] context is = absurd (cc is)
    by_frames (f ∷ fs) context is = closing_holds text s next done piece what f fs holds.before holds.inside holds.left holds.start holds.parts context holds.nodes does is

piece_holds : (text : List ℕ) (s next : State) (done : List Tag) (piece : Tag) → Holds text s done → with_piece text s piece ≡ Ok next → Holds text next (done ++ piece ∷ [])
unfolding with_piece
piece_holds text s next done piece holds h = by_role (role_in text piece) refl h
  where
    by_role : (r : Result Role ErbFault) → role_in text piece ≡ r → and_then r (with_role text s piece) ≡ Ok next → Holds text next (done ++ piece ∷ [])
    by_role (Ok what) does is = role_holds text s next done piece what holds does is
    by_role (Err fault) does is = absurd (cc is)

pieces_hold : (text : List ℕ) (s next : State) (done pieces : List Tag) → Holds text s done → with_pieces text s pieces ≡ Ok next → Holds text next (done ++ pieces)
unfolding with_pieces
pieces_hold text s next done [] holds h = let same : s ≡ next = cc h in subst (Holds text next) (sym (append-nil done)) (subst (λ (n : State). Holds text n done) same holds)
pieces_hold text s next done (piece ∷ pieces) holds h = by_piece (λ n one is. pieces_hold text n next (done ++ piece ∷ []) pieces one is) (with_piece text s piece) refl h
  where
    by_piece : ((n : State) → Holds text n (done ++ piece ∷ []) → with_pieces text n pieces ≡ Ok next → Holds text next ((done ++ piece ∷ []) ++ pieces)) → (r : Result State ErbFault) → with_piece text s piece ≡ r
        → and_then r (λ n. with_pieces text n pieces) ≡ Ok next → Holds text next (done ++ piece ∷ pieces)
    by_piece more (Ok n) one is = subst (Holds text next) (append_assoc done (piece ∷ []) pieces) (more n (piece_holds text s n done piece holds one) is)
    by_piece more (Err fault) one is = absurd (cc is)

start_holds : (text : List ℕ) → Holds text (state [] [] [] 0) []
start_holds text = record { before = []; inside = []; left = 64; start = 0; parts = refl; context = (refl, refl, refl); nodes = nothing 64 0 }

ended_found : (text : List ℕ) (pieces : List Tag) (tree : List Node) (s : State) → cut_of text ≡ Ok pieces → Holds text s pieces → at_end s.frames s ≡ Ok tree → IsTemplate text tree
ended_found text pieces tree s is_cut holds h = by_frames s.frames holds.context h
  where
    by_frames : (fs : List Frame) → Context text fs holds.before holds.left holds.start → at_end fs s ≡ Ok tree → IsTemplate text tree
    by_frames [] c is =
        let all : pieces ≡ holds.inside = holds.parts ∙ ap (λ (ts : List Tag). ts ++ holds.inside) c.0 in
        let same : body_of s ≡ tree = cc is in
        record {
          pieces = holds.inside;
          before = s.nodes;
          bytes = s.bytes;
          after = s.number;
          is_cut = is_cut ∙ ap Ok all;
          makes = subst (λ (n : ℕ). Nodes text n 0 holds.inside s.nodes s.bytes s.number) c.1 (subst (λ (n : ℕ). Nodes text holds.left n holds.inside s.nodes s.bytes s.number) c.2 holds.nodes);
          is = sym same;
        }
    by_frames (f ∷ fs) c is = absurd (cc is)

pieces_found : (text : List ℕ) (pieces : List Tag) (tree : List Node) → cut_of text ≡ Ok pieces → whole text pieces ≡ Ok tree → IsTemplate text tree
unfolding whole
pieces_found text pieces tree is_cut h = by_state (with_pieces text (state [] [] [] 0) pieces) refl h
  where
    by_state : (r : Result State ErbFault) → with_pieces text (state [] [] [] 0) pieces ≡ r → and_then r (λ s. at_end s.frames s) ≡ Ok tree → IsTemplate text tree
    by_state (Ok s) is same = ended_found text pieces tree s is_cut (pieces_hold text (state [] [] [] 0) s [] pieces (start_holds text) is) same
    by_state (Err fault) is same = absurd (cc same)

pub text_found : (text : List ℕ) (tree : List Node) → tree_of text ≡ Ok tree → IsTemplate text tree
unfolding tree_of
text_found text tree h = by_cut (cut_of text) refl h
  where
    by_cut : (r : Result (List Tag) ErbFault) → cut_of text ≡ r → and_then r (whole text) ≡ Ok tree → IsTemplate text tree
    by_cut (Ok pieces) is same = pieces_found text pieces tree is same
    by_cut (Err fault) is same = absurd (cc same)

-- ---- the clauses

pub template_found : (text : List ℕ) (r : Result (List Node) ErbFault) → Gives Memory (tree_of text) r → IfOk r (λ tree. IsTemplate text tree)
template_found text (Ok tree) given = text_found text tree given
template_found text (Err fault) given = tt

pub template_only : (text : List ℕ) (r : Result (List Node) ErbFault) (tree : List Node) → Gives Memory (tree_of text) r → IsTemplate text tree → Gives Memory (Ok tree) r
template_only text r tree given is = subst (λ (o : Result (List Node) ErbFault). Gives Memory o r) (text_only text tree is) given

pub one_tree : OneTree
one_tree text one other is also = let same : Ok one ≡ Ok other = sym (text_only text one is) ∙ text_only text other also in cc same
