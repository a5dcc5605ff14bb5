-- Texts entered one after another, and what stays.
use Rattle.std.proofs.Common.{◌≡◌, ℕ, zero, suc, ◌+◌, ◌-◌, ◌<◌, ◌≤◌, drop, drop-cons, List, [], ◌∷◌, ◌++◌, length, map, Result, Ok, Err, refl, ap, sym, subst, ◌∙◌, arith, get_or}
use Rattle.std.specs.List.{AllByRecursion, flat_map, fold, range_with_len}
use Rattle.std.proofs.lemmas.List.{append_assoc, get_or-map, length-map, map-append}
use Rattle.std.specs.Result.{IsErrAnd}
use Rattle.doll_text.specs.Steps.{◌>>◌}
use Rattle.doll_digest.specs.Framing.{framed_text}
use Rattle.doll_digest.specs.declared.registry.DigestFault.{DigestFault}
use Rattle.doll_digest.specs.Registries.{AreNumbered, NumbersStay, Registered, TextsStay, entered, named, text_of, with_name, with_text}
use Rattle.doll_digest.specs.Registries.{name_at as named_at}
use Rattle.doll_graph.specs.Graphs.{Graph, dependencies, layer}
use Rattle.doll_set.specs.declared.template.Template.{Template}
use Rattle.doll_set.specs.Dependencies.{names_of}
use Rattle.doll_set.specs.Digests.{AreNumbersOf, IsKnown, IsReady, Leaves, all_entered, beside, digest_of, framed_of, in_layers, name_at, numbered, source_at, these_entered}

-- ---- what stays

pub numbers_then : (old between new : List (List ℕ)) → NumbersStay old between → NumbersStay between new → NumbersStay old new
numbers_then old between new first second number within =
    ((second number (first number within).0).0, (second number (first number within).0).1 ∙ (first number within).1)

pub texts_same : (texts : List (List ℕ × List ℕ)) → TextsStay texts texts
texts_same texts digest text kept = kept

pub texts_then : (old between new : List (List ℕ × List ℕ)) → TextsStay old between → TextsStay between new → TextsStay old new
texts_then old between new first second digest text kept = second digest text (first digest text kept)

-- ---- texts entered

module _ (hash : List ℕ → List ℕ) where
  -- texts behind others, once these are entered
  pub more_entered : (registry between : Registered) (texts more : List (List ℕ)) → all_entered hash registry texts ≡ Ok between → all_entered hash registry (texts ++ more) ≡ all_entered hash between more
  more_entered registry between [] more done = ap (λ r. elim r as (λ _. Result Registered DigestFault) [ Ok x ↦ all_entered hash x more | Err e ↦ Err e ]) done
  more_entered registry between (text ∷ texts) more done = by (λ e. more_entered (with_text hash registry text) between texts more e) (entered hash registry text) done
    where
      by : (all_entered hash (with_text hash registry text) texts ≡ Ok between → all_entered hash (with_text hash registry text) (texts ++ more) ≡ all_entered hash between more) → (r : Result (List ℕ) DigestFault) → (r >> all_entered hash (with_text hash registry text) texts) ≡ Ok between → (r >> all_entered hash (with_text hash registry text) (texts ++ more)) ≡ all_entered hash between more
      by rest (Ok digest) e = rest e
      by rest (Err fault) e = absurd (cc e)

  -- a fault of the first ones is the fault of all
  pub fault_entered : (registry : Registered) (texts more : List (List ℕ)) (fault : DigestFault) → all_entered hash registry texts ≡ Err fault → all_entered hash registry (texts ++ more) ≡ Err fault
  fault_entered registry [] more fault failed = absurd (cc failed)
  fault_entered registry (text ∷ texts) more fault failed = by (λ e. fault_entered (with_text hash registry text) texts more fault e) (entered hash registry text) failed
    where
      by : (all_entered hash (with_text hash registry text) texts ≡ Err fault → all_entered hash (with_text hash registry text) (texts ++ more) ≡ Err fault) → (r : Result (List ℕ) DigestFault) → (r >> all_entered hash (with_text hash registry text) texts) ≡ Err fault → (r >> all_entered hash (with_text hash registry text) (texts ++ more)) ≡ Err fault
      by rest (Ok digest) e = rest e
      by rest (Err other) e = e

module _ (hash : List ℕ → List ℕ) (templates : List Template) (graph : Graph) where
  -- templates behind others, once these are entered
  pub more_of_these : (registry between : Registered) (ns more : List ℕ) → these_entered hash templates graph registry ns ≡ Ok between → these_entered hash templates graph registry (ns ++ more) ≡ these_entered hash templates graph between more
  unfolding these_entered
  more_of_these registry between ns more done =
      ap (all_entered hash registry) (map-append (framed_of hash templates graph) ns more)
      ∙ more_entered hash registry between (map (framed_of hash templates graph) ns) (map (framed_of hash templates graph) more) done

  pub fault_of_these : (registry : Registered) (ns more : List ℕ) (fault : DigestFault) → these_entered hash templates graph registry ns ≡ Err fault → these_entered hash templates graph registry (ns ++ more) ≡ Err fault
  unfolding these_entered
  fault_of_these registry ns more fault failed =
      ap (all_entered hash registry) (map-append (framed_of hash templates graph) ns more)
      ∙ fault_entered hash registry (map (framed_of hash templates graph) ns) (map (framed_of hash templates graph) more) fault failed

-- the layers from n on, by the first
pub layers_from : (graph : Graph) (n most : ℕ) → n < most → flat_map (layer graph) (range_with_len n (most - n)) ≡ layer graph n ++ flat_map (layer graph) (range_with_len (n + 1) (most - (n + 1)))
layers_from graph n most within = ap (λ k. flat_map (layer graph) (range_with_len n k)) enough
  where
    enough : most - n ≡ suc (most - (n + 1))
    enough = omega arith

pub layers_all : (graph : Graph) (most : ℕ) → flat_map (layer graph) (range_with_len 0 (most - 0)) ≡ in_layers graph most
unfolding in_layers
layers_all graph most = ap (λ k. flat_map (layer graph) (range_with_len 0 k)) all
  where
    all : most - 0 ≡ most
    all = omega arith

-- ---- numbers of names

-- numbers stay those of the same names
pub still_within : (old new : List (List ℕ)) (ids : List ℕ) → NumbersStay old new → AllByRecursion (λ id. id < length old) ids → AllByRecursion (λ id. id < length new) ids
still_within old new [] stay within = tt
still_within old new (id ∷ ids) stay within = ((stay id within.0).0, still_within old new ids stay within.1)

pub still_named : (old new : List (List ℕ)) (ids : List ℕ) → NumbersStay old new → AllByRecursion (λ id. id < length old) ids → map (named_at new) ids ≡ map (named_at old) ids
still_named old new [] stay within = refl
still_named old new (id ∷ ids) stay within =
    ap (λ n. n ∷ map (named_at new) ids) (stay id within.0).1 ∙ ap (λ ns. named_at old id ∷ ns) (still_named old new ids stay within.1)

within_and : (bound : ℕ) (ids : List ℕ) (id : ℕ) → AllByRecursion (λ i. i < bound) ids → id < bound → AllByRecursion (λ i. i < bound) (ids ++ id ∷ [])
within_and bound [] id all last = (last, tt)
within_and bound (i ∷ ids) id all last = (all.0, within_and bound ids id all.1 last)

-- one more name and its number
pub one_more_within : (old new : List (List ℕ)) (ids : List ℕ) (id : ℕ) → NumbersStay old new → AllByRecursion (λ i. i < length old) ids → id < length new → AllByRecursion (λ i. i < length new) (ids ++ id ∷ [])
one_more_within old new ids id stay known within = within_and (length new) ids id (still_within old new ids stay known) within

pub one_more_named : (old new : List (List ℕ)) (ids : List ℕ) (id : ℕ) (more name : List ℕ) (before left wanted : List (List ℕ)) → more ≡ ids ++ id ∷ [] → before ≡ name ∷ left → NumbersStay old new → AllByRecursion (λ i. i < length old) ids → named_at new id ≡ name → map (named_at old) ids ++ before ≡ wanted → map (named_at new) more ++ left ≡ wanted
one_more_named old new ids id more name before left wanted pushed front stay known is so_far =
    ap (λ is. map (named_at new) is ++ left) pushed
    ∙ ap (λ ns. ns ++ left) (map-append (named_at new) ids (id ∷ []) ∙ ap (λ ns. ns ++ named_at new id ∷ []) (still_named old new ids stay known))
    ∙ append_assoc (map (named_at old) ids) (named_at new id ∷ []) left
    ∙ ap (λ n. map (named_at old) ids ++ n ∷ left) is
    ∙ ap (λ ns. map (named_at old) ids ++ ns) (sym front)
    ∙ so_far

-- names that are left, once the first of them is in the registry
pub one_more_entered : (registry new whole : Registered) (name : List ℕ) (before left : List (List ℕ)) → before ≡ name ∷ left → new ≡ with_name registry name → fold with_name registry before ≡ whole → fold with_name new left ≡ whole
one_more_entered registry new whole name before left front is so_far = ap (λ r. fold with_name r left) is ∙ ap (fold with_name registry) (sym front) ∙ so_far

-- ---- dependencies by their numbers

at_each : (P : ℕ → Type 0) (xs : List ℕ) (n : ℕ) → AllByRecursion P xs → n < length xs → P (get_or xs n 0)
at_each P [] n all within = absurd (omega arith)
at_each P (x ∷ xs) zero all within = all.0
at_each P (x ∷ xs) (suc n) all within = at_each P xs n all.1 (omega arith)

module _ (hash : List ℕ → List ℕ) (templates : List Template) (graph : Graph) (registry : List (List ℕ)) (ids : List ℕ) (known : AreNumbersOf registry ids (names_of templates)) where
  -- there are as many numbers as templates
  pub as_long : length ids ≡ length templates
  as_long = sym (length-map ids (named_at registry)) ∙ ap length known.named ∙ length-map templates (λ (t : Template). t.name)

  pub are_numbered : (digests : List (List ℕ)) (ds : List ℕ) → AllByRecursion (λ d. (d < length templates) × IsKnown hash templates graph digests d) ds
      → AreNumbered registry (map (numbered ids digests) ds)
  are_numbered digests [] ready = tt
  are_numbered digests (d ∷ ds) ready = (at_each (λ id. id < length registry) ids d known.within (omega (arith, as_long, ready.0.0)), are_numbered digests ds ready.1)

  name_is : (d : ℕ) → d < length templates → named_at registry (get_or ids d 0) ≡ name_at templates d
  name_is d within = sym (get_or-map (named_at registry) ids d 0 [] (omega (arith, as_long))) ∙ ap (λ ns. get_or ns d []) known.named

  pub named_so : (digests : List (List ℕ)) (ds : List ℕ) → AllByRecursion (λ d. (d < length templates) × IsKnown hash templates graph digests d) ds
      → named registry (map (numbered ids digests) ds) ≡ map (beside templates (digest_of hash templates graph)) ds
  unfolding IsKnown
  named_so digests [] ready = refl
  named_so digests (d ∷ ds) ready =
      ap (λ e. e ∷ named registry (map (numbered ids digests) ds)) (λ i. (name_is d ready.0.0 i, ready.0.1 i))
      ∙ ap (λ es. beside templates (digest_of hash templates graph) d ∷ es) (named_so digests ds ready.1)

  -- the framed text by names' numbers is the framed text
  pub text_is : (texts : List (List ℕ × List ℕ)) (digests : List (List ℕ)) (number : ℕ) → length graph ≡ length templates → IsReady hash templates graph digests number
      → text_of (record { names = registry; texts = texts }) (source_at templates number) (map (numbered ids digests) (dependencies graph number)) ≡ framed_of hash templates graph number
  unfolding framed_of IsReady
  text_is texts digests number long ready = ap (framed_text (source_at templates number)) (named_so digests (dependencies graph number) (among (dependencies graph number) ready))
    where
      among : (ds : List ℕ) → AllByRecursion (λ d. (d < length graph) × IsKnown hash templates graph digests d) ds → AllByRecursion (λ d. (d < length templates) × IsKnown hash templates graph digests d) ds
      among [] all = tt
      among (d ∷ ds) all = ((subst (λ n. d < n) long all.0.0, all.0.1), among ds all.1)

  pub numbers_ready : (digests : List (List ℕ)) (number : ℕ) → length graph ≡ length templates → IsReady hash templates graph digests number → AreNumbered registry (map (numbered ids digests) (dependencies graph number))
  unfolding IsReady
  numbers_ready digests number long ready = are_numbered digests (dependencies graph number) (among (dependencies graph number) ready)
    where
      among : (ds : List ℕ) → AllByRecursion (λ d. (d < length graph) × IsKnown hash templates graph digests d) ds → AllByRecursion (λ d. (d < length templates) × IsKnown hash templates graph digests d) ds
      among [] all = tt
      among (d ∷ ds) all = ((subst (λ n. d < n) long all.0.0, all.0.1), among ds all.1)

-- a refusal that a call hands on
pub refused : {X : Type 0} (memory : DigestFault) (expected : Result Registered DigestFault) (new : Registered) (result : Result X DigestFault) (fault : DigestFault) → IsErrAnd result (λ e. e ≡ fault) → ((fault ≡ memory → ⊥) → expected ≡ Err fault) → Leaves memory expected new result
refused _ expected new (Ok x) fault is gives = absurd is
refused _ expected new (Err e) fault is gives = λ known. gives (λ same. known (is ∙ same)) ∙ ap Err (sym is)

-- ---- one text entered

module _ (hash : List ℕ → List ℕ) (templates : List Template) (graph : Graph) where
  pub one_entered : (registry new : Registered) (number : ℕ) (text digest : List ℕ) → text ≡ framed_of hash templates graph number → entered hash registry text ≡ Ok digest → new ≡ with_text hash registry text → these_entered hash templates graph registry (number ∷ []) ≡ Ok new
  unfolding these_entered
  one_entered registry new number text digest is done then =
      ap (λ t. entered hash registry t >> Ok (with_text hash registry t)) (sym is) ∙ ap (λ r. r >> Ok (with_text hash registry text)) done ∙ ap Ok (sym then)

  pub one_refused : (registry : Registered) (number : ℕ) (text : List ℕ) (fault : DigestFault) → text ≡ framed_of hash templates graph number → entered hash registry text ≡ Err fault → these_entered hash templates graph registry (number ∷ []) ≡ Err fault
  unfolding these_entered
  one_refused registry number text fault is failed =
      ap (λ t. entered hash registry t >> Ok (with_text hash registry t)) (sym is) ∙ ap (λ r. r >> Ok (with_text hash registry text)) failed

-- ---- templates entered one after another

-- the numbers that are left, by the first
pub left_by_first : (ns : List ℕ) (at : ℕ) → at < length ns → drop at ns ≡ get_or ns at 0 ∷ drop (at + 1) ns
left_by_first ns at within = drop-cons ns at 0 within ∙ ap (λ k. get_or ns at 0 ∷ drop k ns) one
  where
    one : suc at ≡ at + 1
    one = omega arith

-- things that are left, by the first
pub left_by_one : {X : Type 0} (xs : List X) (at : ℕ) (x : X) → x ≡ get_or xs at x → at < length xs → drop at xs ≡ x ∷ drop (at + 1) xs
left_by_one xs at x is within = drop-cons xs at x within ∙ ap (λ y. y ∷ drop (suc at) xs) (sym is) ∙ ap (λ k. x ∷ drop k xs) one
  where
    one : suc at ≡ at + 1
    one = omega arith

pub none_left : (ns : List ℕ) (at : ℕ) → length ns ≤ at → drop at ns ≡ []
none_left [] zero within = refl
none_left [] (suc at) within = refl
none_left (n ∷ ns) zero within = absurd (omega arith)
none_left (n ∷ ns) (suc at) within = none_left ns at (omega arith)

module _ (hash : List ℕ → List ℕ) (templates : List Template) (graph : Graph) (first : Registered) (ns : List ℕ) (at : ℕ) where
  pub entered_more : (registry new : Registered) → at < length ns → these_entered hash templates graph registry (drop at ns) ≡ these_entered hash templates graph first ns → these_entered hash templates graph registry (get_or ns at 0 ∷ []) ≡ Ok new
      → these_entered hash templates graph new (drop (at + 1) ns) ≡ these_entered hash templates graph first ns
  entered_more registry new within so_far done =
      sym (more_of_these hash templates graph registry new (get_or ns at 0 ∷ []) (drop (at + 1) ns) done)
      ∙ ap (these_entered hash templates graph registry) (sym (left_by_first ns at within)) ∙ so_far

  pub refused_more : (registry : Registered) (fault : DigestFault) → at < length ns → these_entered hash templates graph registry (drop at ns) ≡ these_entered hash templates graph first ns → these_entered hash templates graph registry (get_or ns at 0 ∷ []) ≡ Err fault
      → these_entered hash templates graph first ns ≡ Err fault
  refused_more registry fault within so_far failed =
      sym so_far ∙ ap (these_entered hash templates graph registry) (left_by_first ns at within)
      ∙ fault_of_these hash templates graph registry (get_or ns at 0 ∷ []) (drop (at + 1) ns) fault failed

  pub all_are_entered : (registry : Registered) → length ns ≤ at → these_entered hash templates graph registry (drop at ns) ≡ these_entered hash templates graph first ns → these_entered hash templates graph first ns ≡ Ok registry
  unfolding these_entered
  all_are_entered registry within so_far = sym so_far ∙ ap (these_entered hash templates graph registry) (none_left ns at within)
