-- What lines that are texts order is for texts.
use Rattle.std.proofs.Common.{◌≡◌, ◌<◌, ◌+◌, ℕ, min, Bool, true, false, cond, List, [], ◌∷◌, length, take, drop, get_or, Option, None, Some, Result, Ok, Err, IfSome, IfOk, refl, ap, subst, sym, ◌∙◌, arith}
use Rattle.std.specs.Prelude.{codes, nat_eq, option_and_then, option_map, not, ◌==◌}
use Rattle.std.specs.List.{AllByRecursion, starts_with}
use Rattle.std.specs.Str.{IsUtf8, IsCharBoundary, bytes_eq}
use Rattle.std.proofs.lemmas.List.{get_or-take, length-take}
use Rattle.std.proofs.lemmas.List.Sums.{prefix_len-le-length, prefix_len_stops}
use Rattle.std.proofs.lemmas.Bool.Decides.{nat_tests}
use Rattle.std.proofs.lemmas.Slice.Eq.{bytes_eq-Decides}
use Rattle.std.proofs.lemmas.Str.{IsCharBoundary-after_ascii, IsCharBoundary-before_ascii, IsUtf8-drop, IsUtf8-take}
use Rattle.doll_text.specs.Bytes.{is_of}
use Rattle.doll_text.specs.declared.bytes.ByteKind.TheVariants as kind
use Rattle.doll_script.specs.declared.order.Order.{Order}
use Rattle.doll_script.specs.declared.order.Order.TheVariants as order
use Rattle.doll_script.specs.declared.pieces.TheConstants.{BLANK}
use Rattle.doll_script.specs.declared.script.ScriptFault.{ScriptFault}
use Rattle.doll_script.specs.Lines.{by_front, commit_in, get_in, json_of, now_in, open_in, order_in, run_in, seen_behind, start_in, turn_in}
use Rattle.doll_journal.specs.Forms.{changes_in}
use Rattle.doll_script.specs.Numbers.{clock_in, session_in}
use Rattle.doll_script.specs.Pieces.{behind, behind_word, is_path, word, word_len}
use Rattle.doll_script.specs.Scripts.{orders_from, with_order}
use Rattle.doll_script.specs.Storable.{IsForText, TargetsAreTexts}

-- ---- pieces of a text

-- behind a front whose last byte is one of ASCII stands a text
behind_text : (front text : List ℕ) (last : ℕ) → length front ≡ last + 1 → get_or front last 0 < 128 → IsUtf8 text → IfSome (behind front text) IsUtf8
behind_text front text last long low u = by (starts_with nat_eq text front) refl
  where
    by : (v : Bool) → starts_with nat_eq text front ≡ v → IfSome (cond v (Some (drop (length front) text)) None) IsUtf8
    by true e =
        let begins : front ≡ take (length front) text = (bytes_eq-Decides front (take (length front) text)).0 e in
        let within : length front ≡ min (length front) (length text) = ap length begins ∙ length-take (length front) text in
        let same : get_or front last 0 ≡ get_or text last 0 = ap (λ xs. get_or xs last 0) begins ∙ get_or-take (length front) text last 0 (omega (arith, long)) in
        let there : last < length text = omega (arith, within, long) in
        let ends = IsCharBoundary-after_ascii text last u there (subst (λ b. b < 128) same low) in
        IsUtf8-drop text (length front) u (subst (λ n. IsCharBoundary text n) (sym long) ends)
    by false e = tt

-- the byte at which a word ends is a space
space_at : (text : List ℕ) → word_len text < length text → get_or text (word_len text) 0 < 128
space_at text within = by (get_or text (word_len text) 0) (prefix_len_stops (is_of (kind.Other BLANK)) text 0 within)
  where
    by : (b : ℕ) → not (b == 32) ≡ false → b < 128
    by b e = grind (arith, nat_tests)

word_ends : (text : List ℕ) → IsCharBoundary text (word_len text)
word_ends text = (prefix_len-le-length (is_of (kind.Other BLANK)) text, λ l a. (IsCharBoundary-before_ascii text (word_len text) l (space_at text l)).1 l a)

word_text : (text : List ℕ) → IsUtf8 text → IsUtf8 (word text)
word_text text u = IsUtf8-take text (word_len text) u (word_ends text)

behind_word_text : (text : List ℕ) → IsUtf8 text → IfSome (behind_word text) IsUtf8
behind_word_text text u = by (word_len text == length text) refl
  where
    by : (v : Bool) → (word_len text == length text) ≡ v → IfSome (cond v None (Some (drop (word_len text + 1) text))) IsUtf8
    by true e = tt
    by false e =
        let most = prefix_len-le-length (is_of (kind.Other BLANK)) text in
        let within : word_len text < length text = grind (arith, nat_tests) in
        IsUtf8-drop text (word_len text + 1) u (IsCharBoundary-after_ascii text (word_len text) u within (space_at text within))

-- ---- orders

front_text : (o : Option (List ℕ)) (reads : List ℕ → Option Order) (other : Option Order) → IfSome o IsUtf8 → ((rest : List ℕ) → IsUtf8 rest → IfSome (reads rest) IsForText) → IfSome other IsForText → IfSome (by_front o reads other) IsForText
front_text (Some rest) reads other u each is = each rest u
front_text None reads other u each is = is

mapped_text : {X : Type 0} (o : Option X) (make : X → Order) → ((x : X) → IsForText (make x)) → IfSome (option_map make o) IsForText
mapped_text (Some x) make has = has x
mapped_text None make has = tt

chosen_text : (test : Bool) (o : Option Order) → IfSome o IsForText → IfSome (cond test o None) IsForText
chosen_text true o is = is
chosen_text false o is = tt

start_text : (session : ℕ) (text : List ℕ) → IsUtf8 text → IfSome (start_in session text) IsForText
start_text session text u =
    chosen_text (is_path (word text)) (option_map (order.Open session (word text)) (seen_behind (behind_word text)))
    (mapped_text (seen_behind (behind_word text)) (order.Open session (word text)) (λ seen. word_text text u))

open_text : (text : List ℕ) → IsUtf8 text → IfSome (open_in text) IsForText
open_text text u = by (session_in (word text)) (behind_word text) (behind_word_text text u)
  where
    by : (s : Option ℕ) (o : Option (List ℕ)) → IfSome o IsUtf8 → IfSome (option_and_then (λ session. option_and_then (start_in session) o) s) IsForText
    by None o v = tt
    by (Some s) None v = tt
    by (Some s) (Some rest) v = start_text s rest v

order_text : (line : List ℕ) → IsUtf8 line → IfSome (order_in line) IsForText
unfolding order_in
order_text line u =
    front_text (behind (codes "now ") line) now_in _ (behind_text (codes "now ") line 3 refl (omega arith) u) (λ rest v. mapped_text (clock_in rest) order.Now (λ now. tt))
    (front_text (behind (codes "commit ") line) commit_in _ (behind_text (codes "commit ") line 6 refl (omega arith) u) (λ rest v. mapped_text (option_and_then changes_in (json_of rest)) order.Commit (λ changes. tt))
    (front_text (behind (codes "open ") line) open_in _ (behind_text (codes "open ") line 4 refl (omega arith) u) open_text
    (front_text (behind (codes "turn ") line) turn_in _ (behind_text (codes "turn ") line 4 refl (omega arith) u) (λ rest v. mapped_text (session_in rest) order.Turn (λ session. tt))
    (front_text (behind (codes "run ") line) run_in _ (behind_text (codes "run ") line 3 refl (omega arith) u) (λ rest v. mapped_text (session_in rest) order.Run (λ session. tt))
    (front_text (behind (codes "get ") line) get_in _ (behind_text (codes "get ") line 3 refl (omega arith) u) (λ rest v. chosen_text (is_path rest) (Some (order.Get rest)) v)
    (chosen_text (bytes_eq line (codes "expire")) (Some order.Expire) tt))))))

-- ---- all lines

with_texts : (line : ℕ) (o : Option Order) (others : Result (List Order) ScriptFault) → IfSome o IsForText → IfOk others (AllByRecursion IsForText) → IfOk (with_order line o others) (AllByRecursion IsForText)
with_texts line None others one all = tt
with_texts line (Some order) (Ok orders) one all = (one, all)
with_texts line (Some order) (Err fault) one all = tt

lines_texts : (line : ℕ) (lines : List (List ℕ)) → AllByRecursion IsUtf8 lines → IfOk (orders_from line lines) (AllByRecursion IsForText)
lines_texts line [] all = tt
lines_texts line (text ∷ more) all =
    with_texts line (order_in text) (orders_from (line + 1) more) (order_text text all.0) (lines_texts (line + 1) more all.1)

pub targets_are_texts : TargetsAreTexts
targets_are_texts lines orders all is = subst (λ r. IfOk r (AllByRecursion IsForText)) is (lines_texts 1 lines all)
