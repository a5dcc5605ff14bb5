-- The pieces of a template, one after the other.
use Rattle.std.proofs.lemmas.List.{append-nil}
use Rattle.std.proofs.Common.{◌≡◌, ◌≤◌, ◌<◌, ℕ, zero, suc, ◌+◌, ◌-◌, List, [], ◌∷◌, ◌++◌, length, drop, Result, Ok, Err, refl, ap, sym, ◌∙◌, arith, append_assoc}
use Rattle.doll_erb.specs.declared.node.ErbFault.{ErbFault}
use Rattle.doll_erb.specs.declared.piece.Tag.{Tag}
use Rattle.doll_erb.specs.Pieces.{piece_at, IsInside}
use Rattle.doll_erb.specs.Cuts.{pieces_after, before, end_of, Tiles}

-- bytes that are passed over are left out
pub pieces_dropped : (passed at : ℕ) (bytes : List ℕ) → passed ≤ length bytes → pieces_after passed at bytes ≡ pieces_after 0 (at + passed) (drop passed bytes)
unfolding pieces_after
pieces_dropped zero at bytes within = ap (λ place. pieces_after 0 place bytes) (omega arith)
pieces_dropped (suc passed) at [] within = absurd (omega arith)
pieces_dropped (suc passed) at (byte ∷ bytes) within =
    pieces_dropped passed (at + 1) bytes (omega arith) ∙ ap (λ place. pieces_after 0 place (drop passed bytes)) (omega arith)

-- pieces that are cut already, before those of the rest, or the rest's fault
abbrev pub with_front : List Tag → Result (List Tag) ErbFault → Result (List Tag) ErbFault
with_front front (Err fault) = Err fault
with_front front (Ok tags) = Ok (front ++ tags)

-- one piece more is cut
pub with_front-before : (front : List Tag) (tag : Tag) (rest : Result (List Tag) ErbFault) → with_front front (before (Ok tag) rest) ≡ with_front (front ++ tag ∷ []) rest
with_front-before front tag (Err fault) = refl
with_front-before front tag (Ok tags) = ap Ok (simp append_assoc)

-- one byte less to drop behind the first
pub drop_one : {A : Type 0} (n : ℕ) (x : A) (xs : List A) → 0 < n → drop n (x ∷ xs) ≡ drop (n - 1) xs
drop_one zero x xs some = absurd (omega arith)
drop_one (suc n) x xs some = ap (λ k. drop k xs) (omega arith)

-- the pieces of what is left are the one at its front and those behind it
pub pieces_more : (at : ℕ) (bytes : List ℕ) (tag : Tag) (front : List Tag) → 0 < length bytes → piece_at at bytes ≡ Ok tag → at < tag.span.to → tag.span.to ≤ at + length bytes
    → with_front front (pieces_after 0 at bytes) ≡ with_front (front ++ tag ∷ []) (pieces_after 0 tag.span.to (drop (tag.span.to - at) bytes))
unfolding pieces_after
pieces_more at [] tag front some is forward within = absurd (omega arith)
pieces_more at (byte ∷ bytes) tag front some is forward within =
    let end : ℕ = tag.span.to in
    ap (λ first. with_front front (before first (pieces_after (end_of at first - at - 1) (at + 1) bytes))) is
    ∙ with_front-before front tag _
    ∙ ap (with_front (front ++ tag ∷ [])) behind
  where
    behind : pieces_after (tag.span.to - at - 1) (at + 1) bytes ≡ pieces_after 0 tag.span.to (drop (tag.span.to - at) (byte ∷ bytes))
    behind =
        pieces_dropped (tag.span.to - at - 1) (at + 1) bytes (omega arith)
        ∙ ap (λ place. pieces_after 0 place (drop (tag.span.to - at - 1) bytes)) (omega arith)
        ∙ ap (pieces_after 0 tag.span.to) (sym (drop_one (tag.span.to - at) byte bytes (omega arith)))

-- a fault at the front is the fault of all
pub pieces_fault : (at : ℕ) (bytes : List ℕ) (fault : ErbFault) (front : List Tag) → 0 < length bytes → piece_at at bytes ≡ Err fault → with_front front (pieces_after 0 at bytes) ≡ Err fault
unfolding pieces_after
pieces_fault at [] fault front some is = absurd (omega arith)
pieces_fault at (byte ∷ bytes) fault front some is = ap (λ first. with_front front (before first (pieces_after (end_of at first - at - 1) (at + 1) bytes))) is

-- where nothing is left the pieces are those that were cut
pub pieces_end : (at : ℕ) (bytes : List ℕ) (front : List Tag) → length bytes ≡ 0 → with_front front (pieces_after 0 at bytes) ≡ Ok front
unfolding pieces_after
pieces_end at [] front none = ap Ok (append-nil front)
pieces_end at (byte ∷ bytes) front none = absurd (omega arith)

-- a piece behind those that tile a text tiles more of it
pub tiles_more : (from at len : ℕ) (tags : List Tag) (tag : Tag) → Tiles from tags at → IsInside at len tag → Tiles from (tags ++ tag ∷ []) tag.span.to
tiles_more from at len [] tag tiles inside =
    let same : from ≡ at = tiles in (
      record {
        from = inside.from ∙ sym same;
        forward = omega arith;
        within = omega arith;
        content_from = omega arith;
        content = inside.content;
        content_to = inside.content_to;
      },
      refl,
    )
tiles_more from at len (first ∷ tags) tag tiles inside = (tiles.0, tiles_more first.span.to at len tags tag tiles.1 inside)

-- pieces that tile a text are no more than its bytes
pub tiles_count : (from to : ℕ) (tags : List Tag) → Tiles from tags to → from + length tags ≤ to
tiles_count from to [] tiles = let same : from ≡ to = tiles in omega arith
tiles_count from to (tag ∷ tags) tiles = let forward = tiles.0.forward in omega (arith, tiles_count tag.span.to to tags tiles.1, forward)
