-- How a template is cut into texts and tags (after ERB, in this project's profile).
use Rattle.std.specs.Prelude.{ℕ, zero, suc, ◌+◌, ◌-◌, Bool, false, cond, ◌&&◌, ◌==◌, ◌<◌, ◌≤◌, ◌≡◌, nat_lt, List, [], ◌∷◌, length, take, drop, slice_index, Option, None, Some, Result, Ok, Err, if◌then◌else◌}
use Rattle.std.specs.Option.{option_map}
use Rattle.doll_erb.specs.declared.node.ErbFault.{ErbFault}
use Rattle.doll_erb.specs.declared.node.ErbFault.TheVariants.{UnclosedTag, UnknownTag}
use Rattle.doll_erb.specs.declared.piece.Span.{Span}
use Rattle.doll_erb.specs.declared.piece.Tag.{Tag}
use Rattle.doll_erb.specs.declared.piece.TagKind.{TagKind}
use Rattle.doll_erb.specs.declared.piece.TagKind.TheVariants as kind

-- whether bytes begin with these two
abbrev pub begins_with : ℕ → ℕ → List ℕ → Bool
begins_with a b [] = false
begins_with a b (x ∷ []) = false
begins_with a b (x ∷ y ∷ rest) = x == a && y == b

-- where a mark of two bytes first stands
abbrev pub place_of : ℕ → ℕ → List ℕ → Option ℕ
place_of a b [] = None
place_of a b (x ∷ rest) = if begins_with a b (x ∷ rest) then Some 0 else option_map suc (place_of a b rest)

-- the length of a line end at the front: `\n`, `\r\n` or none
abbrev pub line_end : List ℕ → ℕ
line_end [] = 0
line_end (x ∷ rest) = if x == 10 then 1 else (if begins_with 13 10 (x ∷ rest) then 2 else 0)

-- a part of a text between two places
abbrev pub span : ℕ → ℕ → Span
span from to = record { from = from; to = to }

-- a text from a place on, of this many bytes, of which all but the last `passed` are written
abbrev pub text_piece : ℕ → ℕ → ℕ → Tag
text_piece at written passed = record { kind = kind.Text; span = span at (at + written + passed); content = span at (at + written); trim = false }

-- the kind of a tag by the bytes after its `<%`
abbrev pub kind_of : List ℕ → TagKind
kind_of inside = if begins_with 61 61 inside then kind.Raw else (if slice_index inside 0 == 61 then kind.Write else (if slice_index inside 0 == 35 then kind.Comment else kind.Run))

-- the bytes that name a kind
abbrev pub mark_len : TagKind → ℕ
mark_len kind.Raw = 2
mark_len kind.Write = 1
mark_len kind.Comment = 1
mark_len k = 0

-- whether a tag ends with `-%>`, by what stands between its `<%` and its `%>`
abbrev pub trims : TagKind → List ℕ → Bool
trims k inside = nat_lt (mark_len k) (length inside) && slice_index inside (length inside - 1) == 45

-- a tag that opens at a place: the bytes between its `<%` and its `%>`, and the bytes after that
abbrev pub tag_piece : ℕ → List ℕ → List ℕ → Tag
tag_piece at inside after =
    let k = kind_of inside in
    let trim = trims k inside in
    record {
      kind = k;
      span = span at (at + length inside + 4 + cond trim (line_end after) 0);
      content = span (at + 2 + mark_len k) (at + 2 + length inside - cond trim 1 0);
      trim = trim;
    }

-- the tag at the front of bytes that begin with `<%`, by the place of the first `%>` after that
abbrev pub closed_tag : ℕ → List ℕ → Option ℕ → Result Tag ErbFault
closed_tag at inner None = Err (UnclosedTag at)
closed_tag at inner (Some n) = if slice_index inner 0 == 45 then Err (UnknownTag at) else Ok (tag_piece at (take n inner) (drop (n + 2) inner))

-- what begins with `<%`: a written `<%` for `<%%`, else a tag
abbrev pub opened_piece : ℕ → List ℕ → Result Tag ErbFault
opened_piece at bytes =
    if slice_index bytes 2 == 37 then Ok (text_piece at 2 1) else closed_tag at (drop 2 bytes) (place_of 37 62 (drop 2 bytes))

-- the piece at the front of what is left of a template, by the place of the first `<%`: a text up to there, or what opens there
abbrev pub piece_before : ℕ → List ℕ → Option ℕ → Result Tag ErbFault
piece_before at bytes None = Ok (text_piece at (length bytes) 0)
piece_before at bytes (Some zero) = opened_piece at bytes
piece_before at bytes (Some (suc n)) = Ok (text_piece at (suc n) 0)

-- the piece at the front of the bytes that are left of a template from a place on
abbrev pub piece_at : ℕ → List ℕ → Result Tag ErbFault
piece_at at bytes = piece_before at bytes (place_of 60 37 bytes)

-- a piece from a place on, of some of these many bytes, with its content in it
pub record IsInside (at len : ℕ) (tag : Tag) : Type 0 where
  pub from : tag.span.from ≡ at
  pub forward : at < tag.span.to
  pub within : tag.span.to ≤ at + len
  pub content_from : at ≤ tag.content.from
  pub content : tag.content.from ≤ tag.content.to
  pub content_to : tag.content.to ≤ tag.span.to
