-- Framed texts under their digests.
use Rattle.std.proofs.Common.{◌≡◌, ℕ, zero, suc, Bool, true, false, cond, if◌then◌else◌, List, [], ◌∷◌, ◌++◌, Contains, Option, None, Some, slice_get, unwrap_or, Result, Ok, Err, IfOk, OnOk, OnErr, refl, sym, ap, subst, ◌∙◌}
use Rattle.std.specs.List.{AllByRecursion, IsDistinct}
use Rattle.std.specs.Map.{keys_of, values_of}
use Rattle.std.specs.Result.{result_unwrap_or}
use Rattle.std.specs.Str.{bytes_eq}
use Rattle.std.proofs.lemmas.Cmp.{nat_list_eq_equiv}
use Rattle.std.proofs.lemmas.Map.Entries.{lookup_from_place}
use Rattle.std.proofs.lemmas.Option.{slice_get-get_or}
use Rattle.std.proofs.lemmas.Slice.Eq.{bytes_eq-Decides}
use Rattle.doll_text.specs.Gives.{Gives}
use Rattle.doll_digest.specs.declared.registry.DigestFault.{DigestFault}
use Rattle.doll_digest.specs.declared.registry.DigestFault.TheVariants.{Clash, Memory}
use Rattle.doll_digest.specs.Registries.{Registered, AreApart, AreKept, TextsStay, answered, entered, text_added, text_under, texts_with, with_text}

all_with : {X : Type 0} (P : X → Type 0) (xs : List X) (x : X) → AllByRecursion P xs → P x → AllByRecursion P (xs ++ x ∷ [])
all_with P [] x all last = (last, tt)
all_with P (y ∷ ys) x all last = (all.0, all_with P ys x all.1 last)

-- a text more, under its hash
still_hashes : (hash : List ℕ → List ℕ) (texts : List (List ℕ × List ℕ)) (text : List ℕ) (o : Option (List ℕ))
    → AllByRecursion (λ kept. kept.0 ≡ hash kept.1) texts → AllByRecursion (λ kept. kept.0 ≡ hash kept.1) (text_added texts (hash text) text o)
still_hashes hash texts text None all = all_with (λ kept. kept.0 ≡ hash kept.1) texts (hash text, text) all refl
still_hashes hash texts text (Some old) all = all

-- ---- what is kept

module _ (hash : List ℕ → List ℕ) where
  -- the entry of a kept text
  entry_of : (texts : List (List ℕ × List ℕ)) (text : List ℕ) (place : ℕ) → AllByRecursion (λ kept. kept.0 ≡ hash kept.1) texts
      → slice_get (values_of texts) place ≡ Some text → slice_get texts place ≡ Some (hash text, text)
  entry_of [] text place all at = absurd (cc at)
  entry_of (kept ∷ texts) text zero all at =
      let same : kept.1 ≡ text = ap (λ o. unwrap_or o text) at in
      ap Some (λ i. ((all.0 ∙ ap hash same) i, same i))
  entry_of (kept ∷ texts) text (suc place) all at = entry_of texts text place all.1 at

  pub kept_under : (texts : List (List ℕ × List ℕ)) (text : List ℕ) → AreKept hash texts → Contains (values_of texts) text → text_under texts (hash text) ≡ Some text
  kept_under texts text kept (place, within, at) =
      lookup_from_place nat_list_eq_equiv texts place (hash text) text kept.1
      (entry_of texts text place kept.0 (slice_get-get_or (values_of texts) place text within ∙ ap Some at))

  pub apart : (texts : List (List ℕ × List ℕ)) → AreKept hash texts → AreApart hash texts
  apart texts kept a b a_in b_in same =
      ap (λ o. unwrap_or o a) (sym (kept_under texts a kept a_in) ∙ ap (text_under texts) same ∙ kept_under texts b kept b_in)

-- ---- what a text more changes

stays_before : (texts : List (List ℕ × List ℕ)) (more : List ℕ × List ℕ) (digest text : List ℕ) → text_under texts digest ≡ Some text → text_under (texts ++ more ∷ []) digest ≡ Some text
stays_before [] more digest text at = absurd (cc at)
stays_before (kept ∷ texts) more digest text at = by (bytes_eq digest kept.0) (stays_before texts more digest text) at
  where
    by : (b : Bool) → (text_under texts digest ≡ Some text → text_under (texts ++ more ∷ []) digest ≡ Some text)
        → cond b (Some kept.1) (text_under texts digest) ≡ Some text → cond b (Some kept.1) (text_under (texts ++ more ∷ []) digest) ≡ Some text
    by true rest h = h
    by false rest h = rest h

stands_last : (texts : List (List ℕ × List ℕ)) (digest text : List ℕ) → text_under texts digest ≡ None → text_under (texts ++ (digest, text) ∷ []) digest ≡ Some text
stands_last [] digest text none = ap (λ b. cond b (Some text) None) (nat_list_eq_equiv.refl digest)
stands_last (kept ∷ texts) digest text none = by (bytes_eq digest kept.0) (stands_last texts digest text) none
  where
    by : (b : Bool) → (text_under texts digest ≡ None → text_under (texts ++ (digest, text) ∷ []) digest ≡ Some text)
        → cond b (Some kept.1) (text_under texts digest) ≡ None → cond b (Some kept.1) (text_under (texts ++ (digest, text) ∷ []) digest) ≡ Some text
    by true rest h = absurd (cc h)
    by false rest h = rest h

same_ok : (a b : List ℕ) → (let given : Result (List ℕ) DigestFault = Ok a in given ≡ Ok b) → a ≡ b
same_ok a b e = ap (λ r. result_unwrap_or r b) e

texts_stay : (hash : List ℕ → List ℕ) (registry : Registered) (text : List ℕ) → TextsStay registry.texts (with_text hash registry text).texts
texts_stay hash registry text digest kept at = by (text_under registry.texts (hash text))
  where
    by : (o : Option (List ℕ)) → text_under (text_added registry.texts (hash text) text o) digest ≡ Some kept
    by None = stays_before registry.texts (hash text, text) digest kept at
    by (Some old) = at

text_kept : (hash : List ℕ → List ℕ) (registry : Registered) (text digest : List ℕ) → entered hash registry text ≡ Ok digest → text_under (with_text hash registry text).texts digest ≡ Some text
text_kept hash registry text digest ok = by (text_under registry.texts (hash text)) refl ok
  where
    agreed : (b : Bool) (old : List ℕ) → bytes_eq old text ≡ b → (if b then Ok (hash text) else Err (Clash old text)) ≡ Ok digest → text_under registry.texts (hash text) ≡ Some old → text_under registry.texts digest ≡ Some text
    agreed true old e h at = sym (ap (text_under registry.texts) (same_ok (hash text) digest h)) ∙ at ∙ ap Some ((bytes_eq-Decides old text).0 e)
    agreed false old e h at = absurd (cc h)

    by : (o : Option (List ℕ)) → text_under registry.texts (hash text) ≡ o → answered (hash text) text o ≡ Ok digest → text_under (text_added registry.texts (hash text) text o) digest ≡ Some text
    by None e h = ap (text_under (registry.texts ++ (hash text, text) ∷ [])) (sym (same_ok (hash text) digest h)) ∙ stands_last registry.texts (hash text) text e
    by (Some old) e h = agreed (bytes_eq old text) old refl h e

-- ---- after a call that entered a text, or didn't

module _ (hash : List ℕ → List ℕ) (old new : Registered) (text : List ℕ) where
  pub stay_after : (result : Result (List ℕ) DigestFault) → OnOk result (new ≡ with_text hash old text) → OnErr result (new ≡ old) → TextsStay old.texts new.texts
  stay_after (Ok digest) ok err = subst (λ (after : Registered). TextsStay old.texts after.texts) (sym ok) (texts_stay hash old text)
  stay_after (Err fault) ok err = subst (λ (after : Registered). TextsStay old.texts after.texts) (sym err) (λ digest kept at. at)

  pub kept_after : (asked : List ℕ) → text ≡ asked → (result : Result (List ℕ) DigestFault) → Gives Memory (entered hash old text) result → OnOk result (new ≡ with_text hash old text)
      → IfOk result (λ digest. text_under new.texts digest ≡ Some asked)
  kept_after asked is (Ok digest) gives ok = ap (λ (after : Registered). text_under after.texts digest) ok ∙ text_kept hash old text digest gives ∙ ap Some is
  kept_after asked is (Err fault) gives ok = tt

-- the same of the texts alone
module _ (hash : List ℕ → List ℕ) (old new : List (List ℕ × List ℕ)) (digest text : List ℕ) (is : digest ≡ hash text) where
  added : new ≡ texts_with old digest text → new ≡ texts_with old (hash text) text
  added e = e ∙ ap (λ d. texts_with old d text) is

  pub are_kept : AreKept hash old → (result : Result (List ℕ) DigestFault) → OnOk result (new ≡ texts_with old digest text) → OnErr result (new ≡ old)
      → (IsDistinct bytes_eq (keys_of old) → IsDistinct bytes_eq (keys_of new)) → AreKept hash new
  are_kept kept (Ok given) ok err unique = (subst (AllByRecursion (λ kept. kept.0 ≡ hash kept.1)) (sym (added ok)) (still_hashes hash old text (text_under old (hash text)) kept.0), unique kept.1)
  are_kept kept (Err fault) ok err unique = subst (AreKept hash) (sym err) kept

  pub are_apart : AreKept hash old → (result : Result (List ℕ) DigestFault) → OnOk result (new ≡ texts_with old digest text) → OnErr result (new ≡ old)
      → (IsDistinct bytes_eq (keys_of old) → IsDistinct bytes_eq (keys_of new)) → AreApart hash new
  are_apart kept result ok err unique = apart hash new (are_kept kept result ok err unique)
