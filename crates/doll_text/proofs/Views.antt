-- Virtual paths, segment by segment.
use Rattle.std.proofs.Common.{◌≡◌, ◌≢◌, ℕ, suc, ◌+◌, ◌-◌, ◌<◌, Bool, true, false, not, ◌&&◌, List, [], ◌∷◌, length, take, drop, refl, ap, sym, ◌∙◌, arith}
use Rattle.std.specs.Prelude.{nat_le}
use Rattle.std.specs.List.{prefix_len, onto_first}
use Rattle.std.proofs.lemmas.Bool.Decides.{nat_tests}
use Rattle.std.proofs.lemmas.List.{drop-drop}
use Rattle.std.proofs.lemmas.List.Sums.{prefix_len-le-length}
use Rattle.std.proofs.lemmas.List.Splits.{length-slice_split, slice_split_first, slice_split-cons_no}
use Rattle.doll_text.specs.Names.{is_word}
use Rattle.doll_text.specs.Segments.{is_slash, segments, is_view_name, are_view_segments}

-- how many bytes stand before the first slash, or all where there is none
abbrev pub front_len : List ℕ → ℕ
front_len = prefix_len (λ byte. not (is_slash byte))

-- segments as a virtual path has them, at most so many
unfoldable pub is_view_path : ℕ → List ℕ → Bool
is_view_path most path = are_view_segments (segments path) && nat_le (length (segments path)) most

-- its two conditions
pub view_path-whole : (most : ℕ) (path : List ℕ) → is_view_path most path ≡ (are_view_segments (segments path) && nat_le (length (segments path)) most)
unfolding is_view_path
view_path-whole most path = refl

-- there is a segment
some_segment : (path : List ℕ) → 0 < length (segments path)
some_segment path = omega (arith, length-slice_split is_slash path)

-- a path without a slash is its one segment
one_segment : (path : List ℕ) → front_len path ≡ length path → segments path ≡ path ∷ []
one_segment [] whole = refl
one_segment (byte ∷ path) whole = by_test (is_slash byte) refl (one_segment path)
  where
    by_test : (b : Bool) → is_slash byte ≡ b → (front_len path ≡ length path → segments path ≡ path ∷ []) → segments (byte ∷ path) ≡ (byte ∷ path) ∷ []
    by_test true is shorter = let none : 0 ≡ length (byte ∷ path) = rw is at whole in absurd (omega (arith, none))
    by_test false is shorter =
        let longer : 1 + front_len path ≡ length (byte ∷ path) = rw is at whole in
        slice_split-cons_no is_slash byte path is ∙ ap (onto_first byte) (shorter (omega (arith, longer)))

-- a path with a slash is its first segment, and the rest
first_segment : (path : List ℕ) → front_len path ≢ length path → segments path ≡ take (front_len path) path ∷ segments (drop 1 (drop (front_len path) path))
first_segment path last =
    slice_split_first is_slash path 0 (omega (arith, prefix_len-le-length (λ byte. not (is_slash byte)) path, last))
    ∙ ap (λ (rest : List ℕ). take (front_len path) path ∷ segments rest) (sym (drop-drop 1 (front_len path) path))

-- a segment before others is a word
word_first : (word : List ℕ) (others : List (List ℕ)) → 0 < length others → are_view_segments (word ∷ others) ≡ (is_word word && are_view_segments others)
word_first word [] some = absurd (omega arith)
word_first word (next ∷ others) some = refl

never : (b : Bool) → (b && false) ≡ false
never true = refl
never false = refl

-- where no segment is left there is none
pub view_path-none : (more : ℕ) (path : List ℕ) → more ≡ 0 → is_view_path more path ≡ false
unfolding is_view_path
view_path-none more path none =
    let few : nat_le (length (segments path)) more ≡ false = grind (arith, nat_tests, some_segment path) in
    rw few (never (are_view_segments (segments path)))

-- the last segment alone
pub view_path-last : (more : ℕ) (path : List ℕ) → 0 < more → front_len path ≡ length path → is_view_path more path ≡ is_view_name path
unfolding is_view_path
view_path-last more path some last =
    let few : nat_le 1 more ≡ true = grind (arith, nat_tests) in
    rw (one_segment path last, few) (by_test (is_view_name path))
  where
    by_test : (b : Bool) → (b && true) ≡ b
    by_test true = refl
    by_test false = refl

-- a first segment that is no word
pub view_path-bad : (more : ℕ) (path : List ℕ) → 0 < more → front_len path ≢ length path → is_word (take (front_len path) path) ≡ false → is_view_path more path ≡ false
unfolding is_view_path
view_path-bad more path some last word =
    let rest = drop 1 (drop (front_len path) path) in
    rw (first_segment path last, word_first (take (front_len path) path) (segments rest) (some_segment rest), word) refl

-- so many segments behind one are one less than may stand with it
one_less : (n more : ℕ) → 0 < more → nat_le (suc n) more ≡ nat_le n (more - 1)
one_less n more some = let next : suc n ≡ n + 1 = omega arith in rw next (by_test (nat_le n (more - 1)) refl)
  where
    by_test : (b : Bool) → nat_le n (more - 1) ≡ b → nat_le (n + 1) more ≡ b
    by_test true is = grind (arith, nat_tests)
    by_test false is = grind (arith, nat_tests)

-- a word, a slash and the rest
pub view_path-more : (more : ℕ) (path : List ℕ) → 0 < more → front_len path ≢ length path → is_word (take (front_len path) path) ≡ true → is_view_path more path ≡ is_view_path (more - 1) (drop 1 (drop (front_len path) path))
unfolding is_view_path
view_path-more more path some last word =
    let rest = drop 1 (drop (front_len path) path) in
    rw (first_segment path last, word_first (take (front_len path) path) (segments rest) (some_segment rest), word)
    (ap (λ b. are_view_segments (segments rest) && b) (one_less (length (segments rest)) more some))
