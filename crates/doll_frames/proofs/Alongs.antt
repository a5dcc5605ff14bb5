-- Carrying a rendering on, part by part.
use Rattle.std.proofs.Common.{◌≡◌, ℕ, ◌+◌, ◌≤◌, false, List, [], ◌++◌, refl, ap, sym, subst, ◌∙◌, arith}
use Rattle.std.proofs.lemmas.List.{append-nil, append_assoc}
use Rattle.doll_entry.specs.declared.entry.Fresh.{Fresh}
use Rattle.doll_run.specs.Rendering.{after_looks, after_text}
use Rattle.doll_run.specs.Runs.{Rest, Writes}
use Rattle.doll_frames.specs.Along.{Along, next, none_given}
use Rattle.doll_frames.specs.Flows.{is_done}
use Rattle.doll_frames.specs.Left.{body_left}
use Rattle.doll_frames.specs.Stacks.{Given}
use Rattle.doll_frames.specs.declared.flow.Flow.{Flow}
use Rattle.doll_frames.specs.declared.flow.Flow.TheVariants as flow

plus : (a b c : ℕ) → (a + b) + c ≡ a + (b + c)
plus a b c = omega arith

-- nothing is carried
pub along_stays : (run : Rest → Rest) (old : ℕ) (before : List ℕ) → Along run run old old before before
along_stays run old before = record {
  more = 0;
  text = [];
  within = omega arith;
  written = sym (append-nil before);
  goes = λ rest looks out. sym (ap (λ n. run rest n (out ++ [])) (plain looks) ∙ ap (λ o. run rest looks o) (append-nil out));
}
  where
    plain : (n : ℕ) → n + 0 ≡ n
    plain n = omega arith

-- one part after another
pub along_then : {a b c : Rest → Rest} {old mid new : ℕ} {before between after : List ℕ} → Along a b old mid before between → Along b c mid new between after → Along a c old new before after
along_then {a = a} {b = b} {c = c} {old = old} {mid = mid} {new = new} {before = before} {between = between} {after = after} first second = record {
  more = first.more + second.more;
  text = first.text ++ second.text;
  within = within first.more second.more first.within second.within;
  written = second.written ∙ ap (λ w. w ++ second.text) first.written ∙ append_assoc before first.text second.text;
  goes = λ rest looks out.
      first.goes rest looks out
      ∙ second.goes rest (looks + first.more) (out ++ first.text)
      ∙ ap (λ n. c rest n ((out ++ first.text) ++ second.text)) (plus looks first.more second.more)
      ∙ ap (λ o. c rest (looks + (first.more + second.more)) o) (append_assoc out first.text second.text);
}
  where
    within : (m n : ℕ) → mid ≤ old + m → new ≤ mid + n → new ≤ old + (m + n)
    within m n p q = omega arith

-- the same before what follows
pub along_before : {a b : Rest → Rest} {old new : ℕ} {before after : List ℕ} (tail : Rest → Rest) → Along a b old new before after → Along (λ rest. a (tail rest)) (λ rest. b (tail rest)) old new before after
along_before tail along = record {
  more = along.more;
  text = along.text;
  within = along.within;
  written = along.written;
  goes = λ rest looks out. along.goes (tail rest) looks out;
}

-- the same of equal parts
pub along_from : {a b c : Rest → Rest} {old new : ℕ} {before after : List ℕ} → a ≡ b → Along b c old new before after → Along a c old new before after
along_from {c = c} {old = old} {new = new} {before = before} {after = after} is along = subst (λ r. Along r c old new before after) (sym is) along

pub along_to : {a b c : Rest → Rest} {old new : ℕ} {before after : List ℕ} → b ≡ c → Along a b old new before after → Along a c old new before after
along_to {a = a} {old = old} {new = new} {before = before} {after = after} is along = subst (λ r. Along a r old new before after) is along

-- looks are allowed
pub along_looks : (run : Rest → Rest) (more old new : ℕ) {before after : List ℕ} → new ≤ old + more → after ≡ before → Along (λ rest. after_looks more (run rest)) run old new before after
along_looks run more old new {before = before} {after = after} within same = record {
  more = more;
  text = [];
  within = within;
  written = same ∙ sym (append-nil before);
  goes = λ rest looks out. sym (ap (λ o. run rest (looks + more) o) (append-nil out));
}

-- bytes are written
pub along_text : (text : List ℕ) (run : Rest → Rest) (old : ℕ) {before after : List ℕ} → after ≡ before ++ text → Along (λ rest. after_text text (run rest)) run old old before after
along_text text run old is = record {
  more = 0;
  text = text;
  within = omega arith;
  written = is;
  goes = λ rest looks out. sym (ap (λ n. run rest n (out ++ text)) (plain looks));
}
  where
    plain : (n : ℕ) → n + 0 ≡ n
    plain n = omega arith

-- a call stops what follows too
pub next_before : (stop : Flow) (left : Given → Rest → Rest) (tail : Rest → Rest) → is_done stop ≡ false → ◌≡◌ {A = Rest → Rest} (λ rest. next stop left (tail rest)) (next stop (λ given rest. left given (tail rest)))
next_before flow.Done left tail is = absurd (cc is)
next_before (flow.Read ask) left tail is = refl
next_before (flow.ReadMany asks) left tail is = refl
next_before (flow.Write fresh) left tail is = refl

-- a part that stopped before what follows
pub stopped_before : {a : Rest → Rest} {old new : ℕ} {before after : List ℕ} (stop : Flow) (left : Given → Rest → Rest) (tail : Rest → Rest) → is_done stop ≡ false → Along a (next stop left) old new before after
    → Along (λ rest. a (tail rest)) (next stop (λ given rest. left given (tail rest))) old new before after
stopped_before stop left tail is along = along_to (next_before stop left tail is) (along_before tail along)

-- ---- blocks

-- what a body writes before a call stays its own
in_body : (stop : Flow) (left : Given → Rest → Rest) (made : List ℕ → Fresh) (written : List ℕ) → is_done stop ≡ false → (rest : Rest) (looks : ℕ) (out : List ℕ)
    → next stop left (λ more inner. Writes more (made inner) (rest 0 (out ++ inner))) looks written ≡ next stop (λ given. body_left (left given) made written) rest looks out
in_body flow.Done left made written is rest looks out = absurd (cc is)
in_body (flow.Read ask) left made written is rest looks out = refl
in_body (flow.ReadMany asks) left made written is rest looks out = refl
in_body (flow.Write fresh) left made written is rest looks out = refl

-- the body of a block stopped
pub body_stopped : {a : Rest → Rest} {old new : ℕ} {written after outer : List ℕ} (stop : Flow) (left : Given → Rest → Rest) (made : List ℕ → Fresh) → is_done stop ≡ false → Along a (next stop left) old new written after
    → Along (body_left a made written) (next stop (λ given. body_left (left given) made after)) old new outer outer
body_stopped {a = a} {written = written} {after = after} {outer = outer} stop left made is along = record {
  more = along.more;
  text = [];
  within = along.within;
  written = sym (append-nil outer);
  goes = λ rest looks out.
      along.goes (λ more inner. Writes more (made inner) (rest 0 (out ++ inner))) looks written
      ∙ ap (λ w. next stop left (λ more inner. Writes more (made inner) (rest 0 (out ++ inner))) (looks + along.more) w) (sym along.written)
      ∙ in_body stop left made after is rest (looks + along.more) out
      ∙ ap (λ o. next stop (λ given. body_left (left given) made after) rest (looks + along.more) o) (sym (append-nil out));
}

-- the body of a block is done: it is handed in
pub body_done : {a : Rest → Rest} {old new : ℕ} {written whole before after : List ℕ} (made : List ℕ → Fresh) (fresh : Fresh) (left : Given → Rest → Rest) → fresh ≡ made whole → after ≡ before ++ whole
    → ◌≡◌ {A = Rest → Rest} (left none_given) (λ rest. rest) → Along a (λ rest. rest) old new written whole
    → Along (body_left a made written) (next (flow.Write fresh) left) old new before after
body_done {a = a} {written = written} {whole = whole} made fresh left is appended nothing along = record {
  more = along.more;
  text = whole;
  within = along.within;
  written = appended;
  goes = λ rest looks out.
      along.goes (λ more inner. Writes more (made inner) (rest 0 (out ++ inner))) looks written
      ∙ ap (λ w. Writes (looks + along.more) (made w) (rest 0 (out ++ w))) (sym along.written)
      ∙ ap (λ f. Writes (looks + along.more) f (rest 0 (out ++ whole))) (sym is)
      ∙ ap (λ (run : Rest → Rest). Writes (looks + along.more) fresh (run rest 0 (out ++ whole))) (sym nothing);
}
