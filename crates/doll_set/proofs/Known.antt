-- Digests by those of dependencies.
use Rattle.std.proofs.Common.{◌≡◌, ℕ, zero, suc, ◌+◌, ◌<◌, true, false, true≢false, List, [], ◌∷◌, length, map, None, refl, ap, sym, subst, ◌∙◌, arith, get_or, slice_set}
use Rattle.std.specs.List.{AllByRecursion, range_with_len}
use Rattle.std.proofs.Math.ListN.{set}
use Rattle.std.proofs.lemmas.List.{get_or-map, get_or-set_same, length-map}
use Rattle.doll_digest.specs.Framing.{framed_text}
use Rattle.doll_graph.specs.Graphs.{Graph, dependencies, ends_at, has_longer, layer}
use Rattle.doll_graph.proofs.Levels.{deep_enough}
use Rattle.doll_set.specs.declared.template.Template.{Template}
use Rattle.doll_set.specs.declared.limits.TheConstants.{LONGEST_CHAIN}
use Rattle.doll_set.specs.Digests.{AreKnown, AreReady, EachIsThere, IsKnown, IsReady, KnownStay, beside, digest_of, digests_of, framed_of, framed_with, name_at, source_at, too_deep}
use Rattle.doll_set.proofs.Layered.{all_passing, next_layer, no_longer, none_passes, shorter}

-- lists of the same length with the same at each number are the same
pub same_lists : {X : Type 0} (xs ys : List X) (none : X) → length xs ≡ length ys → ((n : ℕ) → n < length xs → get_or xs n none ≡ get_or ys n none) → xs ≡ ys
same_lists [] [] none long same = refl
same_lists [] (y ∷ ys) none long same = absurd (cc long)
same_lists (x ∷ xs) [] none long same = absurd (cc long)
same_lists (x ∷ xs) (y ∷ ys) none long same =
    ap (λ z. z ∷ xs) (same zero (omega arith)) ∙ ap (λ zs. y ∷ zs) (same_lists xs ys none (omega arith) (λ n within. same (suc n) (omega arith)))

get_range : (start len n : ℕ) → n < len → get_or (range_with_len start len) n 0 ≡ start + n
get_range start zero n within = absurd (omega arith)
get_range start (suc len) zero within = omega arith
get_range start (suc len) (suc n) within = get_range (start + 1) len n (omega arith) ∙ omega arith

length_range : (start len : ℕ) → length (range_with_len start len) ≡ len
length_range start zero = refl
length_range start (suc len) = ap suc (length_range (start + 1) len)

-- once those that are left are known too, all are
unfoldable pub AllKnownOnce : (List ℕ → List ℕ) → List Template → Graph → List (List ℕ) → List ℕ → List ℕ → Type 0
AllKnownOnce hash templates graph digests left all =
    (later : List (List ℕ)) → KnownStay hash templates graph digests later → AllByRecursion (IsKnown hash templates graph later) left → AllByRecursion (IsKnown hash templates graph later) all

module _ (hash : List ℕ → List ℕ) (templates : List Template) (graph : Graph) where
  same_named : (f g : ℕ → List ℕ) (ds : List ℕ) → AllByRecursion (λ d. f d ≡ g d) ds → map (beside templates f) ds ≡ map (beside templates g) ds
  same_named f g [] all = refl
  same_named f g (d ∷ ds) all =
      ap (λ (e : List ℕ). (name_at templates d, e) ∷ map (beside templates f) ds) all.0 ∙ ap (λ es. beside templates g d ∷ es) (same_named f g ds all.1)

  -- the hash of a framed text is the same where the digests of its dependencies are
  same_framed : (number : ℕ) (f g : ℕ → List ℕ) → AllByRecursion (λ d. f d ≡ g d) (dependencies graph number) → hash (framed_with templates graph number f) ≡ hash (framed_with templates graph number g)
  same_framed number f g all = ap (λ deps. hash (framed_text (source_at templates number) deps)) (same_named f g (dependencies graph number) all)

  not_longer : too_deep graph ≡ None → (number : ℕ) → number < length graph → has_longer graph LONGEST_CHAIN number ≡ false
  unfolding too_deep
  not_longer shallow number within = none_passes (has_longer graph LONGEST_CHAIN) 0 (length graph) number shallow (omega arith) (omega arith)

  -- a digest is the hash of the framed text
  pub digest_is : EachIsThere graph → too_deep graph ≡ None → (number : ℕ) → number < length graph → digest_of hash templates graph number ≡ hash (framed_of hash templates graph number)
  unfolding digest_of framed_of
  digest_is closed shallow number within =
      deep_enough (λ a b. a ≡ b) graph [] (λ n digest. hash (framed_with templates graph n digest)) closed same_framed LONGEST_CHAIN number 1 within (not_longer shallow number within)

  -- ---- digests so far

  -- those of a layer are ready once the layers before it are known
  pub layer_ready : (digests : List (List ℕ)) (n : ℕ) → EachIsThere graph → AreKnown hash templates graph digests n → AreReady hash templates graph digests (layer graph n)
  unfolding AreKnown IsReady IsKnown
  layer_ready digests n closed known =
      all_passing (λ number. (number < length graph) × IsReady hash templates graph digests number) (ends_at graph n) 0 (length graph) (length graph) (omega arith)
      (λ number within ends. (within, each (dependencies graph number) (closed number) (shorter graph n number within (no_longer graph n number ends))))
    where
      each : (ds : List ℕ) → AllByRecursion (λ d. d < length graph) ds → AllByRecursion (λ d. has_longer graph n d ≡ false) ds → AllByRecursion (λ d. (d < length graph) × IsKnown hash templates graph digests d) ds
      each [] inside short = tt
      each (d ∷ ds) inside short = ((inside.0, known d inside.0 short.0), each ds inside.1 short.1)

  -- before the first layer there is nothing to know
  pub none_before : (digests : List (List ℕ)) → AreKnown hash templates graph digests 0
  unfolding AreKnown
  none_before digests d within none = absurd (true≢false (sym (get_or-map (λ _. true) graph d [] false within) ∙ none))

  -- what was known stays so, and a layer more is known
  pub known_next : (old new : List (List ℕ)) (n : ℕ) → AreKnown hash templates graph old n → KnownStay hash templates graph old new → AllByRecursion (IsKnown hash templates graph new) (layer graph n) → AreKnown hash templates graph new (n + 1)
  unfolding AreKnown KnownStay
  known_next old new n known stay here =
      subst (AreKnown hash templates graph new) one
      (next_layer (IsKnown hash templates graph new) graph n (λ d within short. stay d (known d within short)) here)
    where
      one : suc n ≡ n + 1
      one = omega arith

  -- a digest that is put in its place is known, and the others stay so
  pub put_known : (digests : List (List ℕ)) (number : ℕ) (digest : List ℕ) → number < length digests → digest ≡ digest_of hash templates graph number → IsKnown hash templates graph (slice_set digests number digest) number
  unfolding IsKnown
  put_known digests number digest within is = get_or-set_same digests number digest [] within ∙ is

  -- once all are known, they are the digests
  pub all_known : (digests : List (List ℕ)) → length digests ≡ length templates → length graph ≡ length templates → too_deep graph ≡ None → AreKnown hash templates graph digests LONGEST_CHAIN → digests ≡ digests_of hash templates graph
  unfolding AreKnown IsKnown
  all_known digests long things shallow known =
      same_lists digests (digests_of hash templates graph) [] (long ∙ sym many)
      (λ n within. known n (omega arith) (not_longer shallow n (omega arith)) ∙ sym (at n (omega arith)))
    where
      many : length (digests_of hash templates graph) ≡ length templates
      many = length-map (range_with_len 0 (length templates)) (digest_of hash templates graph) ∙ length_range 0 (length templates)

      at : (n : ℕ) → n < length templates → get_or (digests_of hash templates graph) n [] ≡ digest_of hash templates graph n
      at n within = get_or-map (digest_of hash templates graph) (range_with_len 0 (length templates)) n 0 [] (omega (arith, length_range 0 (length templates))) ∙ ap (digest_of hash templates graph) (get_range 0 (length templates) n within ∙ omega arith)

  -- ---- what stays known

  put_stay : (P : ℕ → List ℕ) (digests : List (List ℕ)) (number : ℕ) (digest : List ℕ) → digest ≡ P number → (n : ℕ) → get_or digests n [] ≡ P n → get_or (slice_set digests number digest) n [] ≡ P n
  put_stay P [] number digest is n known = known
  put_stay P (x ∷ xs) zero digest is zero known = is
  put_stay P (x ∷ xs) zero digest is (suc n) known = known
  put_stay P (x ∷ xs) (suc number) digest is zero known = known
  put_stay P (x ∷ xs) (suc number) digest is (suc n) known = put_stay (λ m. P (suc m)) xs number digest is n known

  -- a digest that is put in its place leaves the others known
  pub known_stay : (digests : List (List ℕ)) (number : ℕ) (digest : List ℕ) → digest ≡ digest_of hash templates graph number → KnownStay hash templates graph digests (slice_set digests number digest)
  unfolding KnownStay IsKnown
  known_stay digests number digest is n known = put_stay (digest_of hash templates graph) digests number digest is n known

  still_ready : (old new : List (List ℕ)) (ds : List ℕ) → KnownStay hash templates graph old new → AllByRecursion (λ d. (d < length graph) × IsKnown hash templates graph old d) ds → AllByRecursion (λ d. (d < length graph) × IsKnown hash templates graph new d) ds
  unfolding KnownStay
  still_ready old new [] stay all = tt
  still_ready old new (d ∷ ds) stay all = ((all.0.0, stay d all.0.1), still_ready old new ds stay all.1)

  pub are_still_ready : (old new : List (List ℕ)) (ns : List ℕ) → KnownStay hash templates graph old new → AreReady hash templates graph old ns → AreReady hash templates graph new ns
  unfolding IsReady
  are_still_ready old new [] stay all = tt
  are_still_ready old new (n ∷ ns) stay all = ((all.0.0, still_ready old new (dependencies graph n) stay all.0.1), are_still_ready old new ns stay all.1)

  -- the first of those that are ready, and the others
  pub ready_within : (digests : List (List ℕ)) (number : ℕ) → length digests ≡ length graph → IsReady hash templates graph digests number → AllByRecursion (λ d. d < length digests) (dependencies graph number)
  unfolding IsReady
  ready_within digests number long ready = each (dependencies graph number) ready
    where
      each : (ds : List ℕ) → AllByRecursion (λ d. (d < length graph) × IsKnown hash templates graph digests d) ds → AllByRecursion (λ d. d < length digests) ds
      each [] all = tt
      each (d ∷ ds) all = (subst (λ n. d < n) (sym long) all.0.0, each ds all.1)

  pub stay_same : (digests : List (List ℕ)) → KnownStay hash templates graph digests digests
  unfolding KnownStay
  stay_same digests number known = known

  pub stay_then : (old between new : List (List ℕ)) → KnownStay hash templates graph old between → KnownStay hash templates graph between new → KnownStay hash templates graph old new
  unfolding KnownStay
  stay_then old between new first second number known = second number (first number known)

  pub stays : (old new : List (List ℕ)) (number : ℕ) → KnownStay hash templates graph old new → IsKnown hash templates graph old number → IsKnown hash templates graph new number
  unfolding KnownStay
  stays old new number stay known = stay number known

  pub once_first : (digests : List (List ℕ)) (all : List ℕ) → AllKnownOnce hash templates graph digests all all
  unfolding AllKnownOnce
  once_first digests all later stay known = known

  pub once_next : (old new : List (List ℕ)) (number : ℕ) (left all : List ℕ) → KnownStay hash templates graph old new → IsKnown hash templates graph new number → AllKnownOnce hash templates graph old (number ∷ left) all → AllKnownOnce hash templates graph new left all
  unfolding AllKnownOnce
  once_next old new number left all stay here once later stays_later known =
      once later (stay_then old new later stay stays_later) (stays new later number stays_later here, known)

  pub once_last : (digests : List (List ℕ)) (all : List ℕ) → AllKnownOnce hash templates graph digests [] all → AllByRecursion (IsKnown hash templates graph digests) all
  unfolding AllKnownOnce
  once_last digests all once = once digests (stay_same digests) tt

  -- a template's digest put in its place: what that leaves of the others
  pub step_known : EachIsThere graph → too_deep graph ≡ None → (first old new : List (List ℕ)) (n : ℕ) (xs left all : List ℕ) → xs ≡ n ∷ left → length old ≡ length graph → new ≡ slice_set old n (hash (framed_of hash templates graph n)) → KnownStay hash templates graph first old
      → AllKnownOnce hash templates graph old xs all → AreReady hash templates graph old xs → KnownStay hash templates graph first new × (AllKnownOnce hash templates graph new left all × AreReady hash templates graph new left)
  step_known closed shallow first old new n xs left all front long is before once ready =
      let ready_so : AreReady hash templates graph old (n ∷ left) = subst (AreReady hash templates graph old) front ready in
      let digest : hash (framed_of hash templates graph n) ≡ digest_of hash templates graph n = sym (digest_is closed shallow n ready_so.0.0) in
      let stay : KnownStay hash templates graph old new = subst (KnownStay hash templates graph old) (sym is) (known_stay old n (hash (framed_of hash templates graph n)) digest) in
      let here : IsKnown hash templates graph new n =
      subst (λ ds. IsKnown hash templates graph ds n) (sym is) (put_known old n (hash (framed_of hash templates graph n)) (subst (λ k. n < k) (sym long) ready_so.0.0) digest) in (
        stay_then first old new before stay,
        (
          once_next old new n left all stay here (subst (λ ys. AllKnownOnce hash templates graph old ys all) front once),
          are_still_ready old new left stay ready_so.1,
        ),
      )
