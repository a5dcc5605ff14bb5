-- Which words are names, and which are words of the grammars. All of it is this project's own.
use Rattle.std.specs.Prelude.{ℕ, Bool, false, not, ◌&&◌, ◌||◌, nat_le, List, [], ◌∷◌, length, is_some, Option, Some, None, if◌then◌else◌, codes}
use Rattle.std.specs.List.{list_all, list_any}
use Rattle.std.specs.Str.{bytes_eq}
use Rattle.doll_text.specs.Bytes.{is_lower, is_word_byte}
use Rattle.doll_text.specs.declared.words.TheConstants.{LONGEST_NAME}
use Rattle.doll_text.specs.declared.words.Word.{Word}
use Rattle.doll_text.specs.declared.words.Word.TheVariants as word

-- a lower-case letter and word bytes after it
abbrev pub is_word : List ℕ → Bool
is_word [] = false
is_word (b ∷ bs) = is_lower b && list_all is_word_byte bs

-- the words of the grammars of expressions and tags
unfoldable pub words : List (List ℕ × Word)
words =
    (codes "nil", word.Nil) ∷ (codes "true", word.True) ∷ (codes "false", word.False) ∷ (codes "if", word.If)
    ∷ (codes "elsif", word.Elsif) ∷ (codes "else", word.Else) ∷ (codes "end", word.End) ∷ (codes "do", word.Do)
    ∷ (codes "each", word.Each) ∷ (codes "cache", word.Cache) ∷ (codes "render", word.Render) ∷ (codes "partial", word.Partial)
    ∷ (codes "collection", word.Collection) ∷ (codes "as", word.As) ∷ (codes "cached", word.Cached) ∷ (codes "id", word.Id)
    ∷ (codes "updated_at", word.UpdatedAt) ∷ (codes "size", word.Size) ∷ []

-- what stands behind this text in a table
abbrev pub lookup : {A : Type 0} → List (List ℕ × A) → List ℕ → Option A
lookup [] text = None
lookup (row ∷ rows) text = if bytes_eq row.0 text then Some row.1 else lookup rows text

-- the word of the grammars that this text is
unfoldable pub word_of : List ℕ → Option Word
word_of = lookup words

-- Ruby's other operators that are words
unfoldable pub others : List (List ℕ)
others = codes "and" ∷ codes "or" ∷ codes "not" ∷ codes "in" ∷ []

-- what is no name: a word of the grammars, or one of the others
unfoldable pub is_reserved : List ℕ → Bool
is_reserved text = is_some (word_of text) || list_any (λ other. bytes_eq other text) others

-- A name is a word of at most 40 bytes that isn't reserved.
unfoldable pub is_name : List ℕ → Bool
is_name text = nat_le (length text) LONGEST_NAME && is_word text && not (is_reserved text)
