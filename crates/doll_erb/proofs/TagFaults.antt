-- A fault within a tag is one by the grammar of tags.
use Rattle.std.proofs.Common.{◌≡◌, ℕ, zero, suc, ◌+◌, Bool, true, false, cond, List, [], ◌∷◌, ◌++◌, take, drop, Option, None, Some, Result, Ok, Err, refl, sym, ap, subst, ◌∙◌, append_assoc, nat_lt, length, ◌==◌}
use Rattle.std.specs.Prelude.{slice_index}
use Rattle.doll_expr.specs.declared.expr.ExprFault.{ExprFault}
use Rattle.doll_erb.specs.declared.node.ErbFault.{ErbFault}
use Rattle.doll_erb.specs.declared.node.ErbFault.TheVariants.{BadExpr, UnknownTag, StrayEnd, TooDeep}
use Rattle.doll_erb.specs.declared.piece.Tag.{Tag}
use Rattle.doll_erb.specs.declared.role.Role.{Role}
use Rattle.doll_erb.specs.declared.role.Role.TheVariants as role
use Rattle.doll_erb.specs.declared.role.Closing.TheVariants as closing
use Rattle.doll_erb.specs.Pieces.{place_of, text_piece, tag_piece, closed_tag, opened_piece, piece_before, piece_at}
use Rattle.doll_erb.specs.Cuts as cuts
use Rattle.doll_erb.specs.Cuts.{pieces_after, end_of, cut_of}
use Rattle.doll_erb.specs.Tags.{role_of, IsTagFault}
use Rattle.doll_erb.specs.Trees.{and_then, content_of, in_tag, role_in}
use Rattle.doll_erb.specs.Faults.{OpenBlock, Blocks, open_block, is_if, after_role, after_piece, after_pieces, fault_at_end, fault_in, first_fault, IsWithinTag, IsByGrammar}
use Rattle.doll_erb.proofs.Tags.{tag_fault}

-- ---- the cut has no fault within a tag

abbrev NotWithin : ErbFault → Type 0
NotWithin (BadExpr at fault) = ⊥
NotWithin fault = Unit {0}

abbrev Outside : {A : Type 0} → Result A ErbFault → Type 0
Outside (Ok x) = Unit {0}
Outside (Err fault) = NotWithin fault

either_outside : {A : Type 0} (b : Bool) (one other : Result A ErbFault) → Outside one → Outside other → Outside (cond b one other)
either_outside true one other x y = x
either_outside false one other x y = y

closed_outside : (at : ℕ) (inner : List ℕ) (place : Option ℕ) → Outside (closed_tag at inner place)
closed_outside at inner None = tt
closed_outside at inner (Some n) = either_outside (slice_index inner 0 == 45) (Err (UnknownTag at)) (Ok (tag_piece at (take n inner) (drop (n + 2) inner))) tt tt

opened_outside : (at : ℕ) (bytes : List ℕ) → Outside (opened_piece at bytes)
opened_outside at bytes =
    either_outside (slice_index bytes 2 == 37) (Ok (text_piece at 2 1)) (closed_tag at (drop 2 bytes) (place_of 37 62 (drop 2 bytes))) tt (closed_outside at (drop 2 bytes) (place_of 37 62 (drop 2 bytes)))

piece_outside : (at : ℕ) (bytes : List ℕ) (place : Option ℕ) → Outside (piece_before at bytes place)
piece_outside at bytes None = tt
piece_outside at bytes (Some zero) = opened_outside at bytes
piece_outside at bytes (Some (suc n)) = tt

before_outside : (piece : Result Tag ErbFault) (rest : Result (List Tag) ErbFault) → Outside piece → Outside rest → Outside (cuts.before piece rest)
before_outside (Err fault) rest x y = x
before_outside (Ok piece) (Err fault) x y = y
before_outside (Ok piece) (Ok pieces) x y = tt

pieces_outside : (passed at : ℕ) (bytes : List ℕ) → Outside (pieces_after passed at bytes)
unfolding pieces_after
pieces_outside passed at [] = tt
pieces_outside zero at (byte ∷ bytes) = before_outside (piece_at at (byte ∷ bytes)) _ (piece_outside at (byte ∷ bytes) (place_of 60 37 (byte ∷ bytes))) (pieces_outside _ (at + 1) bytes)
pieces_outside (suc passed) at (byte ∷ bytes) = pieces_outside passed (at + 1) bytes

-- ---- a fault of the pieces

after_more : (text : List ℕ) (blocks : List OpenBlock) (ts us : List Tag) → after_pieces text blocks (ts ++ us) ≡ and_then (after_pieces text blocks ts) (λ next. after_pieces text next us)
unfolding after_pieces
after_more text blocks [] us = refl
after_more text blocks (t ∷ ts) us = by_first (λ next. after_more text next ts us) (after_piece text blocks t)
  where
    by_first : ((next : List OpenBlock) → after_pieces text next (ts ++ us) ≡ and_then (after_pieces text next ts) (λ last. after_pieces text last us)) → (r : Blocks) → and_then r (λ next. after_pieces text next (ts ++ us)) ≡ and_then (and_then r (λ next. after_pieces text next ts)) (λ next. after_pieces text next us)
    by_first more (Ok next) = more next
    by_first more (Err fault) = refl

role_outside : (blocks : List OpenBlock) (at : ℕ) (what : Role) → Outside (after_role blocks at what)
role_outside blocks at role.Nothing = tt
role_outside blocks at (role.Leaf node) = tt
role_outside blocks at (role.Opens what) = either_outside (nat_lt (length blocks) 64) (Ok (open_block at (is_if what) ∷ blocks)) (Err (TooDeep at)) tt tt
role_outside [] at (role.Closes (closing.Elsif test)) = tt
role_outside [] at (role.Closes closing.Else) = tt
role_outside [] at (role.Closes closing.End) = tt
role_outside (block ∷ others) at (role.Closes (closing.Elsif test)) = either_outside block.may_part (Ok (block ∷ others)) (Err (StrayEnd at)) tt tt
role_outside (block ∷ others) at (role.Closes closing.Else) = either_outside block.may_part (Ok (open_block block.at false ∷ others)) (Err (StrayEnd at)) tt tt
role_outside (block ∷ others) at (role.Closes closing.End) = tt

-- the fault of a piece is that of its content
piece_fault : (text : List ℕ) (blocks : List OpenBlock) (piece : Tag) (at : ℕ) (fault : ExprFault) → after_piece text blocks piece ≡ Err (BadExpr at fault)
    → (at ≡ piece.span.from) × IsTagFault piece.span.from piece.kind (content_of text piece) fault
unfolding role_in
piece_fault text blocks piece at fault h = by_role (role_of piece.span.from piece.kind (content_of text piece)) refl h
  where
    by_role : (r : Result Role ExprFault) → role_of piece.span.from piece.kind (content_of text piece) ≡ r → and_then (in_tag piece.span.from r) (after_role blocks piece.span.from) ≡ Err (BadExpr at fault)
        → (at ≡ piece.span.from) × IsTagFault piece.span.from piece.kind (content_of text piece) fault
    by_role (Ok what) is same = absurd (subst Outside same (role_outside blocks piece.span.from what))
    by_role (Err inner) is same =
        let place : piece.span.from ≡ at = cc same in
        let told : inner ≡ fault = cc same in
        (sym place, tag_fault piece.span.from piece.kind (content_of text piece) fault (is ∙ ap Err told))

within : (text : List ℕ) (at : ℕ) (fault : ExprFault) (passed rest : List Tag) (blocks : List OpenBlock) → cut_of text ≡ Ok (passed ++ rest) → after_pieces text [] passed ≡ Ok blocks
    → after_pieces text blocks rest ≡ Err (BadExpr at fault) → IsWithinTag text at fault
unfolding after_pieces
within text at fault passed [] blocks is_cut so_far h = absurd (cc h)
within text at fault passed (piece ∷ rest) blocks is_cut so_far h =
    by_piece (λ next is. within text at fault (passed ++ piece ∷ []) rest next (is_cut ∙ ap Ok (sym (append_assoc passed (piece ∷ []) rest)))
    (after_more text [] passed (piece ∷ []) ∙ ap (λ (r : Blocks). and_then r (λ later. after_pieces text later (piece ∷ []))) so_far ∙ ap (λ (r : Blocks). and_then r (λ later. after_pieces text later [])) is))
    (after_piece text blocks piece) refl h
  where
    by_piece : ((next : List OpenBlock) → after_piece text blocks piece ≡ Ok next → after_pieces text next rest ≡ Err (BadExpr at fault) → IsWithinTag text at fault)
        → (r : Blocks) → after_piece text blocks piece ≡ r → and_then r (λ next. after_pieces text next rest) ≡ Err (BadExpr at fault) → IsWithinTag text at fault
    by_piece more (Err inner) is same =
        let inner_is : inner ≡ BadExpr at fault = cc same in
        let found = piece_fault text blocks piece at fault (is ∙ ap Err inner_is) in
        record { before = passed; piece = piece; after = rest; blocks = blocks; is_cut = is_cut; passed = so_far; place = found.0; is = found.1 }
    by_piece more (Ok next) is same = more next is same

by_end : (text : List ℕ) (at : ℕ) (fault : ExprFault) (pieces : List Tag) → cut_of text ≡ Ok pieces → (r : Blocks) → after_pieces text [] pieces ≡ r → fault_at_end r ≡ Some (BadExpr at fault) → IsWithinTag text at fault
unfolding after_pieces
by_end text at fault pieces is_cut (Err inner) is h = let inner_is : inner ≡ BadExpr at fault = cc h in within text at fault [] pieces [] is_cut refl (is ∙ ap Err inner_is)
by_end text at fault pieces is_cut (Ok []) is h = absurd (cc h)
by_end text at fault pieces is_cut (Ok (innermost ∷ others)) is h = absurd (cc h)

by_cut : (text : List ℕ) (at : ℕ) (fault : ExprFault) (r : Result (List Tag) ErbFault) → cut_of text ≡ r → fault_in text r ≡ Some (BadExpr at fault) → IsWithinTag text at fault
by_cut text at fault (Ok pieces) is h = by_end text at fault pieces is (after_pieces text [] pieces) refl h
by_cut text at fault (Err inner) is h =
    let inner_is : inner ≡ BadExpr at fault = cc h in
    absurd (subst Outside (is ∙ ap Err inner_is) (pieces_outside 0 0 text))

pub by_grammar : (text : List ℕ) (fault : ErbFault) → first_fault text ≡ Some fault → IsByGrammar text fault
unfolding first_fault
by_grammar text (BadExpr at fault) h = by_cut text at fault (cut_of text) refl h
by_grammar text _ h = tt
