-- The first fault of a template, by the blocks that its tags open and close; no tree is made (this project's own, after ERB).
use Rattle.std.specs.Prelude.{ℕ, ◌≡◌, Bool, true, false, nat_lt, List, [], ◌∷◌, ◌++◌, ⊤, length, Option, None, Some, Result, Ok, Err, MatchResult, if◌then◌else◌}
use Rattle.doll_erb.specs.declared.node.Node.{Node}
use Rattle.doll_erb.specs.declared.node.ErbFault.{ErbFault}
use Rattle.doll_erb.specs.declared.node.ErbFault.TheVariants.{StrayEnd, MissingEnd, TooDeep, BadExpr, Memory}
use Rattle.doll_erb.specs.declared.role.Role.{Role}
use Rattle.doll_erb.specs.declared.role.Role.TheVariants as role
use Rattle.doll_erb.specs.declared.role.Opening.{Opening}
use Rattle.doll_erb.specs.declared.role.Opening.TheVariants as opening
use Rattle.doll_erb.specs.declared.role.Closing.{Closing}
use Rattle.doll_erb.specs.declared.role.Closing.TheVariants as closing
use Rattle.doll_erb.specs.declared.piece.Tag.{Tag}
use Rattle.doll_erb.specs.Cuts.{cut_of}
use Rattle.doll_expr.specs.declared.expr.ExprFault.{ExprFault}
use Rattle.doll_erb.specs.Tags.{IsTagFault}
use Rattle.doll_erb.specs.Trees.{and_then, content_of, role_in}

-- An open block: the place of its tag, and whether a further part may begin in it, as in an `if` without an `else` so far.
pub record OpenBlock : Type 0 where
  pub at : ℕ
  pub may_part : Bool

abbrev pub open_block : ℕ → Bool → OpenBlock
open_block at may_part = record { at = at; may_part = may_part }

-- the blocks that are open at a place of the text, the innermost first, or the first fault before it
abbrev pub Blocks : Type 0
Blocks = Result (List OpenBlock) ErbFault

abbrev pub is_if : Opening → Bool
is_if (opening.If test) = true
is_if (opening.Each list name) = false
is_if (opening.Cache key) = false

-- a block more, unless it would be the 65th that is open at once
abbrev pub after_opening : List OpenBlock → ℕ → Opening → Blocks
after_opening blocks at what = if nat_lt (length blocks) 64 then Ok (open_block at (is_if what) ∷ blocks) else Err (TooDeep at)

-- `elsif` leaves the innermost block as it is
abbrev pub after_elsif : List OpenBlock → ℕ → Blocks
after_elsif [] at = Err (StrayEnd at)
after_elsif (block ∷ others) at = if block.may_part then Ok (block ∷ others) else Err (StrayEnd at)

-- `else` begins the last part of the innermost block
abbrev pub after_else : List OpenBlock → ℕ → Blocks
after_else [] at = Err (StrayEnd at)
after_else (block ∷ others) at = if block.may_part then Ok (open_block block.at false ∷ others) else Err (StrayEnd at)

-- `end` closes the innermost block
abbrev pub after_end : List OpenBlock → ℕ → Blocks
after_end [] at = Err (StrayEnd at)
after_end (block ∷ others) at = Ok others

abbrev pub after_closing : List OpenBlock → ℕ → Closing → Blocks
after_closing blocks at (closing.Elsif test) = after_elsif blocks at
after_closing blocks at closing.Else = after_else blocks at
after_closing blocks at closing.End = after_end blocks at

-- the blocks after a tag at a place, by what it does
abbrev pub after_role : List OpenBlock → ℕ → Role → Blocks
after_role blocks at role.Nothing = Ok blocks
after_role blocks at (role.Leaf node) = Ok blocks
after_role blocks at (role.Opens what) = after_opening blocks at what
after_role blocks at (role.Closes what) = after_closing blocks at what

-- the blocks after a piece; a tag whose content is no sentence is a fault whatever is open
abbrev pub after_piece : List ℕ → List OpenBlock → Tag → Blocks
after_piece text blocks piece = and_then (role_in text piece) (after_role blocks piece.span.from)

-- the blocks after pieces, one after another
unfoldable pub after_pieces : List ℕ → List OpenBlock → List Tag → Blocks
after_pieces text blocks [] = Ok blocks
after_pieces text blocks (piece ∷ pieces) = and_then (after_piece text blocks piece) (λ next. after_pieces text next pieces)

-- at the text's end the innermost block that is open is the fault
abbrev pub fault_at_end : Blocks → Option ErbFault
fault_at_end (Err fault) = Some fault
fault_at_end (Ok []) = None
fault_at_end (Ok (innermost ∷ others)) = Some (MissingEnd innermost.at)

abbrev pub fault_in : List ℕ → Result (List Tag) ErbFault → Option ErbFault
fault_in text (Err fault) = Some fault
fault_in text (Ok pieces) = fault_at_end (after_pieces text [] pieces)

-- The first fault of a text as a template, if it has one: that of the cut, else that of the first tag in the text that is no
-- sentence or fits no open block or opens one too many, else the innermost block that no `end` closes.
unfoldable pub first_fault : List ℕ → Option ErbFault
first_fault text = fault_in text (cut_of text)

-- The first fault stands in a tag: no piece before has one, and this is the content's fault by the grammar of tags.
pub record IsWithinTag (text : List ℕ) (at : ℕ) (fault : ExprFault) : Type 0 where
  pub before : List Tag
  pub piece : Tag
  pub after : List Tag
  pub blocks : List OpenBlock
  pub is_cut : cut_of text ≡ Ok (before ++ piece ∷ after)
  pub passed : after_pieces text [] before ≡ Ok blocks
  pub place : at ≡ piece.span.from
  pub is : IsTagFault piece.span.from piece.kind (content_of text piece) fault

-- a fault in a tag is one by the grammar of tags
abbrev pub IsByGrammar : List ℕ → ErbFault → Type 0
IsByGrammar text (BadExpr at fault) = IsWithinTag text at fault
IsByGrammar text fault = ⊤

-- the first fault by the grammar of blocks, and within a tag by that of tags
abbrev pub IsFirst : List ℕ → ErbFault → Type 0
IsFirst text fault = (first_fault text ≡ Some fault) × IsByGrammar text fault

-- What is accepted has no fault, and a refusal for another cause than memory is the first fault.
abbrev pub Faults : List ℕ → Result (List Node) ErbFault → Type 0
Faults text result = MatchResult result (λ tree. first_fault text ≡ None) (λ fault. (fault ≡ Memory → ⊥) → IsFirst text fault)
