-- Lists of what is reached that go on.
use Rattle.std.proofs.Common.{◌≡◌, ℕ, zero, suc, ◌+◌, ◌<◌, List, [], ◌∷◌, ◌++◌, length, take, get_or, map, Some, refl, ap, sym, subst, ◌∙◌, ⊎_elim, arith}
use Rattle.std.specs.Prelude.{slice_get}
use Rattle.std.specs.List.{flat_map}
use Rattle.std.proofs.lemmas.List.{append-nil, append_assoc, flat_map_more, map-append, take_more}
use Rattle.std.proofs.lemmas.List.Elements.{Contains-append_left, Contains-append_right, Contains-append_cases}
use Rattle.doll_set.specs.Digests.{name_at}
use Rattle.doll_set.specs.Sets.{ReadSet}
use Rattle.doll_schema.specs.Models.{ModelList}
use Rattle.doll_types.specs.declared.findings.Finding.{Finding}
use Rattle.doll_types.specs.declared.reached.Reached.{Reached}
use Rattle.doll_types.specs.declared.reaching.Reach.{Reach}
use Rattle.doll_types.specs.Faults.{fault_at, faults_of}
use Rattle.doll_types.specs.Reached.{called_at, called_by, findings_at}
use Rattle.doll_types.specs.Reachings.{AreNumbersOf, Grows, IsExpanded}

pub stays : (old among : List Reached) → Grows old old among
stays old among = record { more = []; is = sym (append-nil old); from = λ one h. absurd (omega (arith, h.1)) }

pub pushed : (old new : List Reached) (one : Reached) → new ≡ old ++ one ∷ [] → Grows old new (one ∷ [])
pushed old new one is = record { more = one ∷ []; is = is; from = λ x h. h }

pub grow_on : (a b c x y : List Reached) → Grows a b x → Grows b c y → Grows a c (x ++ y)
grow_on a b c x y first next = record {
  more = first.more ++ next.more;
  is = next.is ∙ ap (λ xs. xs ++ next.more) first.is ∙ append_assoc a first.more next.more;
  from = λ one h. ⊎_elim (λ here. Contains-append_left x y one (first.from one here)) (λ later. Contains-append_right x y one (next.from one later)) (Contains-append_cases first.more next.more one h);
}

-- what has a number keeps it
some_number : (old more : List Reached) (n : ℕ) (x : Reached) → slice_get old n ≡ Some x → slice_get (old ++ more) n ≡ Some x
some_number [] more n x e = absurd (cc e)
some_number (y ∷ old) more zero x e = e
some_number (y ∷ old) more (suc n) x e = some_number old more n x e

pub number_stays : (old new among : List Reached) (n : ℕ) (x : Reached) → Grows old new among → slice_get old n ≡ Some x → slice_get new n ≡ Some x
number_stays old new among n x grows e = ap (λ xs. slice_get xs n) grows.is ∙ some_number old grows.more n x e

numbers_more : (old more : List Reached) (ns : List ℕ) (ones : List Reached) → AreNumbersOf old ns ones → AreNumbersOf (old ++ more) ns ones
numbers_more old more [] [] e = refl
numbers_more old more [] (x ∷ ones) e = absurd (cc e)
numbers_more old more (n ∷ ns) [] e = absurd (cc e)
numbers_more old more (n ∷ ns) (x ∷ ones) e =
    let here : slice_get old n ≡ Some x = cc in
    let rest : map (slice_get old) ns ≡ map Some ones = cc in
    ap (λ o. o ∷ map (slice_get (old ++ more)) ns) (some_number old more n x here) ∙ ap (λ os. Some x ∷ os) (numbers_more old more ns ones rest)

pub numbers_stay : (old new among : List Reached) (ns : List ℕ) (ones : List Reached) → Grows old new among → AreNumbersOf old ns ones → AreNumbersOf new ns ones
numbers_stay old new among ns ones grows e = ap (λ xs. map (slice_get xs) ns) grows.is ∙ numbers_more old grows.more ns ones e

pub one_number : (new : List Reached) (ns : List ℕ) (ones : List Reached) (n : ℕ) (x : Reached) → AreNumbersOf new ns ones → slice_get new n ≡ Some x → AreNumbersOf new (ns ++ n ∷ []) (ones ++ x ∷ [])
one_number new ns ones n x all is =
    map-append (slice_get new) ns (n ∷ []) ∙ ap (λ os. os ++ slice_get new n ∷ []) all ∙ ap (λ o. map Some ones ++ o ∷ []) is ∙ sym (map-append Some ones (x ∷ []))

-- what one more finding calls
pub calls_more : (go : Finding → List Reached) (found : List Finding) (at : ℕ) (one : Finding) → at < length found → one ≡ get_or found at one → flat_map go (take at found) ++ go one ≡ flat_map go (take (at + 1) found)
calls_more go found at one within is =
    flat_map_more go [] (take at found) one ∙ ap (flat_map go) (ap (λ y. take at found ++ y ∷ []) is ∙ sym (take_more found at one within))

-- behind the last there is one more
pub last_number : (old : List Reached) (x : Reached) → slice_get (old ++ x ∷ []) (length old) ≡ Some x
last_number [] x = refl
last_number (y ∷ old) x = last_number old x

-- what is found in one gives its calls and its faults
pub expanded : (set : ReadSet) (schema : ModelList) (one : Reached) (old new : Reach) (found others : List Finding) (numbers : List ℕ) → found ≡ findings_at set schema one → others ≡ findings_at set schema one → Grows old.reached new.reached (flat_map (called_at set one.template) found) → new.calls ≡ old.calls ++ numbers ∷ [] → AreNumbersOf new.reached numbers (flat_map (called_at set one.template) found) → new.faults.items ≡ old.faults.items ++ flat_map (fault_at (name_at set.templates one.template)) others → IsExpanded set schema one old new
unfolding called_by faults_of
expanded set schema one old new found others numbers is are grows calls numbered faults = record {
  grows = subst (λ f. Grows old.reached new.reached (flat_map (called_at set one.template) f)) is grows;
  numbers = numbers;
  calls = calls;
  numbered = subst (λ f. AreNumbersOf new.reached numbers (flat_map (called_at set one.template) f)) is numbered;
  faults = faults ∙ ap (λ f. old.faults.items ++ flat_map (fault_at (name_at set.templates one.template)) f) are;
}
