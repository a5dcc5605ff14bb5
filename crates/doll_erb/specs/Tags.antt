-- The grammar of tags: which tokens a tag's content has, and what the tag does (this project's own, after ERB and Rails).
use Rattle.std.specs.Prelude.{ℕ, zero, suc, ◌≡◌, Bool, true, false, List, [], ◌∷◌, ◌++◌, Option, None, Some, Result, Ok, Err, ◌⊎◌, if◌then◌else◌}
use Rattle.std.specs.Borrow.{Bor}
use Rattle.doll_expr.specs.declared.expr.Expr.{Expr}
use Rattle.doll_expr.specs.declared.expr.ExprFault.{ExprFault}
use Rattle.doll_expr.specs.declared.expr.ExprFault.TheVariants.{Unexpected, Memory}
use Rattle.doll_expr.specs.declared.token.Mark.TheVariants as mark
use Rattle.doll_text.specs.declared.words.Word.TheVariants as word
use Rattle.doll_expr.specs.declared.token.Token.{Token}
use Rattle.doll_text.specs.Gives.{Gives, GivesBy}
use Rattle.doll_text.specs.Names.{is_name}
use Rattle.doll_expr.specs.Tokens.{tokens_of}
use Rattle.doll_expr.specs.Reading.{◌>>=◌}
use Rattle.doll_erb.specs.declared.node.Node.{Node, roll-Node}
use Rattle.doll_erb.specs.declared.node.Node.TheOpen.{Node-F}
use Rattle.doll_erb.specs.declared.node.Local.{Local}
use Rattle.doll_erb.specs.declared.node.KeyPart.{KeyPart}
use Rattle.doll_erb.specs.declared.role.Role.{Role}
use Rattle.doll_erb.specs.declared.role.Role.TheVariants as role
use Rattle.doll_erb.specs.declared.role.Opening.TheVariants as opening
use Rattle.doll_erb.specs.declared.role.Closing.TheVariants as closing
use Rattle.doll_erb.specs.declared.render.Listed.{Listed}
use Rattle.doll_erb.specs.declared.piece.TagKind.{TagKind}
use Rattle.doll_erb.specs.declared.piece.TagKind.TheVariants as tag
use Rattle.doll_text.specs.Segments.{last_segment}
use Rattle.doll_erb.specs.Partials.{dependency_of}
use Rattle.doll_erb.specs.Shapes.{Fixed, Item, Front, local, Shape, behind_mark, behind_word, Says, reads, HasTokens, IsFirstFault, ComesToFault}

-- what a call answered: what is read and the tokens after it, unless memory ran out
abbrev pub ReadsTo : {A : Type 0} → Front A → Result (A × Bor (List Token)) ExprFault → Type 0
ReadsTo expected result = GivesBy (λ x. (x.0, x.1.now)) Memory expected result

-- what a call answered is what the tokens come to by the shape, unless memory ran out
abbrev pub GivesRole : Shape Role → List Token → Result Role ExprFault → Type 0
GivesRole shape tokens result = Gives Memory (reads shape tokens) result

-- ---- tags that run: `<% run %>`

-- "do", behind a key
unfoldable pub keyed : List KeyPart → Shape Role
keyed key = behind_word word.Do (Shape.ends (Ok (role.Opens (opening.Cache key))))

-- the bracket that closes the parts of a key
unfoldable pub closed : List KeyPart → Shape Role
closed key = behind_mark mark.CloseBracket (keyed key)

-- { "," part }, at most so many times, and the bracket
unfoldable pub parts : ℕ → List KeyPart → Shape Role
parts zero key = closed key
parts (suc n) key = Shape.either (Fixed.the_mark mark.Comma) (Shape.then Item.key_part (λ a. parts n (key ++ a ∷ []))) (closed key)

-- part { "," part } and the bracket, behind the first one
unfoldable pub listed_key : Shape Role
listed_key = Shape.then Item.key_part (λ a. parts 7 (a ∷ []))

-- key "do" with key = "[" part { "," part } "]" | part; it has at most 8 parts
unfoldable pub cache : Shape Role
cache = Shape.either (Fixed.the_mark mark.OpenBracket) listed_key (Shape.then Item.key_part (λ a. keyed (a ∷ [])))

-- list ". each" "do" "|" name "|"
unfoldable pub each : Shape Role
each = Shape.then Item.listed (λ list. behind_word word.Do (behind_mark mark.Bar (Shape.then (Item.new_name []) (λ name.
    behind_mark mark.Bar (Shape.ends (Ok (role.Opens (opening.Each list name))))))))

-- an expression, which is the test of an `if`
abbrev pub if_test : Shape Role
if_test = Shape.then Item.value (λ test. Shape.ends (Ok (role.Opens (opening.If test))))

-- an expression, which is the test of a further arm
abbrev pub elsif_test : Shape Role
elsif_test = Shape.then Item.value (λ test. Shape.ends (Ok (role.Closes (closing.Elsif test))))

-- run = "if" expr | "elsif" expr | "else" | "end" | "cache" key "do" | list "." "each" "do" "|" name "|"
unfoldable pub run : Shape Role
run =
    Shape.either (Fixed.the_word word.If) if_test
    (Shape.either (Fixed.the_word word.Elsif) elsif_test
    (Shape.either (Fixed.the_word word.Else) (Shape.ends (Ok (role.Closes closing.Else)))
    (Shape.either (Fixed.the_word word.End) (Shape.ends (Ok (role.Closes closing.End)))
    (Shape.either (Fixed.the_word word.Cache) cache each))))

-- ---- tags that write: `<%= write %>`

-- the role of a node
abbrev pub leaf : Node → Role
leaf node = role.Leaf node

-- { "," name ":" expr }, of which no two have one name; there is room for all that a tag's 200 tokens can hold
unfoldable pub locals : ℕ → List ℕ → ℕ → List Local → Shape Role
locals at name zero before = Shape.ends (Ok (leaf (roll-Node (Node-F.Render at name before))))
locals at name (suc n) before = Shape.either (Fixed.the_mark mark.Comma)
    (Shape.then (Item.new_name before) (λ variable. behind_mark mark.Colon (Shape.then Item.value (λ a. locals at name n (before ++ local variable a ∷ [])))))
    (Shape.ends (Ok (leaf (roll-Node (Node-F.Render at name before)))))

-- what a collection's tag says first
abbrev pub listing : List ℕ → ℕ → Expr → Listed
listing name at list = record { name = name; at = at; list = list }

-- The item's name: what stands behind `as`, else the last segment of the partial's name, whose text is the fault where that is no name.
unfoldable pub item_of : ℕ → List ℕ → Option (List ℕ) → Result (List ℕ) ExprFault
item_of at partial (Some item) = Ok item
item_of at partial None = if is_name (last_segment partial) then Ok (last_segment partial) else Err (Unexpected at)

-- the node of a collection
unfoldable pub collection : ℕ → Listed → Option (List ℕ) → Bool → Result Role ExprFault
collection at of item cached = item_of of.at of.name item >>= λ name. Ok (leaf (roll-Node (Node-F.Collection at of.name of.list name cached)))

-- the end of a collection's tag
abbrev pub collection_end : ℕ → Listed → Option (List ℕ) → Bool → Shape Role
collection_end at of item is_cached = Shape.ends (collection at of item is_cached)

-- "cached" ":" "true"
unfoldable pub cached : ℕ → Listed → Option (List ℕ) → Shape Role
cached at of item = behind_word word.Cached (behind_mark mark.Colon (behind_word word.True (Shape.ends (collection at of item true))))

-- ":" ":" name [ "," cached ]
unfoldable pub named_item : ℕ → Listed → Shape Role
named_item at of = behind_mark mark.Colon (behind_mark mark.Colon (Shape.then (Item.new_name []) (λ name.
    Shape.either (Fixed.the_mark mark.Comma) (cached at of (Some name)) (Shape.ends (collection at of (Some name) false)))))

-- [ "," ( "as" item | cached ) ]
unfoldable pub options : ℕ → Listed → Shape Role
options at of = Shape.either (Fixed.the_mark mark.Comma)
    (Shape.either (Fixed.the_word word.As) (named_item at of) (cached at of None))
    (Shape.ends (collection at of None false))

-- ":" text "," "collection" ":" expr options
unfoldable pub collected : ℕ → Shape Role
collected at = behind_mark mark.Colon (Shape.then Item.partial (λ name. behind_mark mark.Comma (behind_word word.Collection (behind_mark mark.Colon
    (Shape.then Item.value (λ list. options at (listing name.0 name.1 list)))))))

-- render = "partial" collected | text locals
unfoldable pub rendered : ℕ → Shape Role
rendered at = Shape.either (Fixed.the_word word.Partial) (collected at) (Shape.then Item.partial (λ name. locals at name.0 64 []))

-- write = "render" render | expr
unfoldable pub write : ℕ → Shape Role
write at = Shape.either (Fixed.the_word word.Render) (rendered at) (Shape.then Item.value (λ a. Shape.ends (Ok (leaf (roll-Node (Node-F.Write at a))))))

-- raw = expr
unfoldable pub raw : ℕ → Shape Role
raw at = Shape.then Item.value (λ a. Shape.ends (Ok (leaf (roll-Node (Node-F.Raw at a)))))

-- ---- whole tags

-- a comment that names a partial stands on it; others do nothing
abbrev pub comment_by : ℕ → Option (List ℕ) → Role
comment_by at (Some name) = leaf (roll-Node (Node-F.Depends at name))
comment_by at None = role.Nothing

-- what a comment does
abbrev pub comment : ℕ → List ℕ → Result Role ExprFault
comment at content = Ok (comment_by at (dependency_of content))

-- what a tag at a place does, by its kind and its content
unfoldable pub role_of : ℕ → TagKind → List ℕ → Result Role ExprFault
role_of at tag.Text content = Ok role.Nothing
role_of at tag.Comment content = comment at content
role_of at tag.Write content = reads (write at) (tokens_of content)
role_of at tag.Raw content = reads (raw at) (tokens_of content)
role_of at tag.Run content = reads run (tokens_of content)

-- the tokens of the content are a sentence of the shape that comes to this role
abbrev pub ComesTo : Shape Role → List ℕ → Role → Type 0
ComesTo shape content what = (ts : List Token) × HasTokens (tokens_of content) ts × Says shape ts (Ok what)

-- This is what a tag at this place does: a text nothing, a comment what it names, another what its sentence says.
abbrev pub IsTag : ℕ → TagKind → List ℕ → Role → Type 0
IsTag at tag.Text content what = role.Nothing ≡ what
IsTag at tag.Comment content what = comment_by at (dependency_of content) ≡ what
IsTag at tag.Write content what = ComesTo (write at) content what
IsTag at tag.Raw content what = ComesTo (raw at) content what
IsTag at tag.Run content what = ComesTo run content what

-- the first fault of the content's tokens, or the fault that their sentence comes to
abbrev pub HasFault : Shape Role → List ℕ → ExprFault → Type 0
HasFault shape content fault = IsFirstFault shape (tokens_of content) fault ⊎ ComesToFault shape (tokens_of content) fault

-- This is the fault of a tag at this place. Texts and comments have none.
abbrev pub IsTagFault : ℕ → TagKind → List ℕ → ExprFault → Type 0
IsTagFault at tag.Text content fault = ⊥
IsTagFault at tag.Comment content fault = ⊥
IsTagFault at tag.Write content fault = HasFault (write at) content fault
IsTagFault at tag.Raw content fault = HasFault (raw at) content fault
IsTagFault at tag.Run content fault = HasFault run content fault

-- A tag does what its sentence says, and the other way round; where it does nothing of the kind, it has this fault.
abbrev pub TagsAreSentences : Type 0
TagsAreSentences = (at : ℕ) (kind : TagKind) (content : List ℕ)
    → ((what : Role) → (role_of at kind content ≡ Ok what → IsTag at kind content what) × (IsTag at kind content what → role_of at kind content ≡ Ok what))
    × ((fault : ExprFault) → role_of at kind content ≡ Err fault → IsTagFault at kind content fault)
