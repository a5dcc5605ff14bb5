-- What is reached stays so as its calls are numbered, and in the end all that is reached is there.
use Rattle.std.proofs.Common.{◌≡◌, ℕ, zero, suc, ◌+◌, ◌<◌, ◌≤◌, true, false, true≢false, List, [], ◌∷◌, ◌++◌, length, length-append, map, Some, ◌⊎◌, inl, inr, refl, ap, sym, subst, ◌∙◌, ⊎_elim, arith}
use Rattle.std.specs.Prelude.{slice_get}
use Rattle.std.specs.List.{AllByRecursion, Contains}
use Rattle.std.proofs.lemmas.List.{get_or-map}
use Rattle.std.proofs.lemmas.List.Elements.{Contains-append_left, Contains-append_right, Contains-append_cases}
use Rattle.doll_graph.specs.Graphs.{Graph, dependencies, has_longer}
use Rattle.doll_route.specs.declared.route.Route.{Route}
use Rattle.doll_schema.specs.Models.{ModelList}
use Rattle.doll_set.specs.Sets.{IsSet, ReadSet}
use Rattle.doll_set.proofs.Layered.{shorter}
use Rattle.doll_types.specs.declared.fault.TypeFault.{TypeFault}
use Rattle.doll_types.specs.declared.reached.Reached.{Reached}
use Rattle.doll_types.specs.declared.reaching.Reach.{Reach}
use Rattle.doll_types.specs.Faults.{IsTypeFault, faults_of}
use Rattle.doll_types.specs.Reached.{IsReached, called_by}
use Rattle.doll_types.specs.Reachings.{AreNumbersOf, AreShortFrom, AreTemplates, Grows, IsExpanded, IsReaching}
use Rattle.doll_types.proofs.Depending.{calls_depend, get_among, get_of}
use Rattle.doll_types.proofs.Growing.{numbers_stay}

some_same : {X : Type 0} {x y : X} → Some x ≡ Some y → x ≡ y
some_same e = cc

-- ---- lists that go on

-- what stands in a list that goes on stood there before, or is new
stood : {X : Type 0} (old more : List X) (k : ℕ) (x : X) → slice_get (old ++ more) k ≡ Some x → (slice_get old k ≡ Some x) ⊎ ((length old ≤ k) × Contains more x)
stood [] more k x e = inr (omega arith, get_among more k x e)
stood (y ∷ old) more zero x e = inl e
stood (y ∷ old) more (suc k) x e = ⊎_elim (λ here. inl here) (λ new. inr (omega (arith, new.0), new.1)) (stood old more k x e)

within_of : {X : Type 0} (xs : List X) (k : ℕ) (x : X) → slice_get xs k ≡ Some x → k < length xs
within_of [] k x e = absurd (cc e)
within_of (y ∷ xs) zero x e = omega arith
within_of (y ∷ xs) (suc k) x e = omega (arith, within_of xs k x e)

kept : {X : Type 0} (old more : List X) (k : ℕ) (x : X) → k < length old → slice_get (old ++ more) k ≡ Some x → slice_get old k ≡ Some x
kept old more k x within e = ⊎_elim (λ here. here) (λ new. absurd (omega (arith, new.0))) (stood old more k x e)

in_old : {X : Type 0} (old new more : List X) (k : ℕ) (x : X) → new ≡ old ++ more → slice_get new k ≡ Some x → (slice_get old k ≡ Some x) ⊎ ((length old ≤ k) × Contains more x)
in_old old new more k x is e = stood old more k x (ap (λ xs. slice_get xs k) (sym is) ∙ e)

contains_more : {X : Type 0} (old new more : List X) (x : X) → new ≡ old ++ more → Contains old x → Contains new x
contains_more old new more x is h = subst (λ xs. Contains xs x) (sym is) (Contains-append_left old more x h)

among_cases : {X : Type 0} (old new more : List X) (x : X) → new ≡ old ++ more → Contains new x → Contains old x ⊎ Contains more x
among_cases old new more x is h = Contains-append_cases old more x (subst (λ xs. Contains xs x) is h)

pub longer_by_one : {X : Type 0} (old new : List X) (x : X) → new ≡ old ++ x ∷ [] → length new ≡ length old + 1
longer_by_one old new x is = ap length is ∙ length-append old (x ∷ [])

below_or : (n at : ℕ) → at < n + 1 → (at < n) ⊎ (at ≡ n)
below_or zero zero h = inr refl
below_or zero (suc at) h = absurd (omega (arith, h))
below_or (suc n) zero h = inl (omega arith)
below_or (suc n) (suc at) h = ⊎_elim (λ less. inl (omega (arith, less))) (λ same. inr (ap suc same)) (below_or n at (omega (arith, h)))

-- ---- one more

module _ (set : ReadSet) (schema : ModelList) (one : Reached) (old new : Reach) (at_end : slice_get old.reached (length old.calls) ≡ Some one) (e : IsExpanded set schema one old new) where
  grown_within : length old.calls < length old.reached → length new.calls ≤ length new.reached
  grown_within h = omega (arith, longer_by_one old.calls new.calls e.numbers e.calls, ap length e.grows.is ∙ length-append old.reached e.grows.more)

  -- a place whose calls are numbered is an old one, or the one that was expanded
  numbered_at : (at : ℕ) (x : Reached) (numbers : List ℕ) → slice_get new.reached at ≡ Some x → slice_get new.calls at ≡ Some numbers → length old.calls < length old.reached
      → ((slice_get old.reached at ≡ Some x) × (slice_get old.calls at ≡ Some numbers)) ⊎ ((x ≡ one) × (numbers ≡ e.numbers))
  numbered_at at x numbers is numbered room = ⊎_elim before here (in_old old.calls new.calls (e.numbers ∷ []) at numbers e.calls numbered)
    where
      before : slice_get old.calls at ≡ Some numbers → ((slice_get old.reached at ≡ Some x) × (slice_get old.calls at ≡ Some numbers)) ⊎ ((x ≡ one) × (numbers ≡ e.numbers))
      before there = inl (kept old.reached e.grows.more at x (omega (arith, within_of old.calls at numbers there)) (ap (λ xs. slice_get xs at) (sym e.grows.is) ∙ is), there)

      here : (length old.calls ≤ at) × Contains (e.numbers ∷ []) numbers → ((slice_get old.reached at ≡ Some x) × (slice_get old.calls at ≡ Some numbers)) ⊎ ((x ≡ one) × (numbers ≡ e.numbers))
      here later =
          let place : at ≡ length old.calls = omega (arith, later.0, within_of new.calls at numbers numbered, longer_by_one old.calls new.calls e.numbers e.calls) in
          let there : slice_get old.reached at ≡ Some x = kept old.reached e.grows.more at x (omega arith) (ap (λ xs. slice_get xs at) (sym e.grows.is) ∙ is) in
          inr (some_same (sym there ∙ ap (slice_get old.reached) place ∙ at_end), last later.1)
        where
          last : Contains (e.numbers ∷ []) numbers → numbers ≡ e.numbers
          last (zero, within, same) = sym same
          last (suc k, within, same) = absurd (omega (arith, within))

  pub reaching_on : (routes : List Route) → length old.calls < length old.reached → IsReaching set schema routes old → IsReaching set schema routes new
  reaching_on routes room r = record {
    within = grown_within room;
    sound = λ x h.
        ⊎_elim (r.sound x) (λ more. IsReached.by_call one x (r.sound one (get_among old.reached (length old.calls) one at_end)) (e.grows.from x more))
        (among_cases old.reached new.reached e.grows.more x e.grows.is h);
    opens = λ x h. contains_more old.reached new.reached e.grows.more x e.grows.is (r.opens x h);
    numbered = λ at x numbers is numbered.
        ⊎_elim (λ before. numbers_stay old.reached new.reached (called_by set schema one) numbers (called_by set schema x) e.grows (r.numbered at x numbers before.0 before.1))
        (λ here. subst (λ ns. AreNumbersOf new.reached ns (called_by set schema x)) (sym here.1) (subst (λ y. AreNumbersOf new.reached e.numbers (called_by set schema y)) (sym here.0) e.numbered))
        (numbered_at at x numbers is numbered room);
    faulty = λ fault h.
        ⊎_elim (r.faulty fault) (λ more. IsTypeFault.of_template one fault (r.sound one (get_among old.reached (length old.calls) one at_end)) more)
        (among_cases old.faults.items new.faults.items (faults_of set schema one) fault e.faults h);
    missing = λ fault h. contains_more old.faults.items new.faults.items (faults_of set schema one) fault e.faults (r.missing fault h);
    faults = λ at x fault below is h.
        ⊎_elim (λ before. contains_more old.faults.items new.faults.items (faults_of set schema one) fault e.faults (r.faults at x fault before.0 before.1 h))
        (λ here. subst (λ fs. Contains fs fault) (sym e.faults) (Contains-append_right old.faults.items (faults_of set schema one) fault (subst (λ y. Contains (faults_of set schema y) fault) here h)))
        (place at x below is);
  }
    where
      place : (at : ℕ) (x : Reached) → at < length new.calls → slice_get new.reached at ≡ Some x → ((at < length old.calls) × (slice_get old.reached at ≡ Some x)) ⊎ (x ≡ one)
      place at x below is = ⊎_elim (λ there. by_place there) (λ later. absurd (omega (arith, later.0, below, longer_by_one old.calls new.calls e.numbers e.calls))) (in_old old.reached new.reached e.grows.more at x e.grows.is is)
        where
          by_place : slice_get old.reached at ≡ Some x → ((at < length old.calls) × (slice_get old.reached at ≡ Some x)) ⊎ (x ≡ one)
          by_place there = ⊎_elim (λ less. inl (less, there)) (λ same. inr (some_same (sym there ∙ ap (slice_get old.reached) same ∙ at_end))) (below_or (length old.calls) at (omega (arith, below, longer_by_one old.calls new.calls e.numbers e.calls)))

-- ---- all

among_numbered : (reached : List Reached) (ns : List ℕ) (ones : List Reached) (x : Reached) → AreNumbersOf reached ns ones → Contains ones x → Contains reached x
among_numbered reached ns [] x all (k, within, same) = absurd (omega (arith, within))
among_numbered reached [] (y ∷ ones) x all h = absurd (cc all)
among_numbered reached (n ∷ ns) (y ∷ ones) x all (zero, within, same) =
    let here : slice_get reached n ≡ Some y = cc in
    get_among reached n x (here ∙ ap Some same)
among_numbered reached (n ∷ ns) (y ∷ ones) x all (suc k, within, same) =
    let rest : map (slice_get reached) ns ≡ map Some ones = cc in
    among_numbered reached ns ones x rest (k, omega (arith, within), same)

pub element_at : {X : Type 0} (xs : List X) (k : ℕ) → k < length xs → (x : X) × (slice_get xs k ≡ Some x)
element_at [] k h = absurd (omega (arith, h))
element_at (x ∷ xs) zero h = (x, refl)
element_at (x ∷ xs) (suc k) h = element_at xs k (omega (arith, h))

-- where all calls are numbered, all that is reached is there
pub all_there : (set : ReadSet) (schema : ModelList) (routes : List Route) (reach : Reach) → IsReaching set schema routes reach → length reach.reached ≤ length reach.calls → (one : Reached) → IsReached set schema routes one → Contains reach.reached one
all_there set schema routes reach r full one (IsReached.by_route x h) = r.opens x h
all_there set schema routes reach r full one (IsReached.by_call caller x reached h) =
    let place = get_of reach.reached caller (all_there set schema routes reach r full caller reached) in
    let numbers = element_at reach.calls place.0 (omega (arith, within_of reach.reached place.0 caller place.1, full)) in
    among_numbered reach.reached numbers.0 (called_by set schema caller) x (r.numbered place.0 caller numbers.0 place.1 numbers.1) h

-- and each fault of what is reached is listed
pub faults_there : (set : ReadSet) (schema : ModelList) (routes : List Route) (reach : Reach) → IsReaching set schema routes reach → length reach.reached ≤ length reach.calls → (fault : TypeFault) → IsTypeFault set schema routes fault → Contains reach.faults.items fault
faults_there set schema routes reach r full fault (IsTypeFault.of_route f h) = r.missing f h
faults_there set schema routes reach r full fault (IsTypeFault.of_template one f reached h) =
    let place = get_of reach.reached one (all_there set schema routes reach r full one reached) in
    r.faults place.0 one f (omega (arith, within_of reach.reached place.0 one place.1, full)) place.1 h

-- ---- rounds

pub longer : (old new among : List Reached) (end : ℕ) → Grows old new among → end ≤ length old → end ≤ length new
longer old new among end grows h = omega (arith, h, ap length grows.is ∙ length-append old grows.more)

-- from what a template renders, no chain begins that is as long
shorter_calls : (set : ReadSet) (schema : ModelList) (caller one : Reached) (levels : ℕ) → IsSet set.templates set.graph set.digests → caller.template < length set.graph → has_longer set.graph (suc levels) caller.template ≡ false → Contains (called_by set schema caller) one → has_longer set.graph levels one.template ≡ false
shorter_calls set schema caller one levels s within short h =
    each_in (dependencies set.graph caller.template) (shorter set.graph levels caller.template within short) one.template (calls_depend set schema caller one s h)
  where
    each_in : (ds : List ℕ) → AllByRecursion (λ d. has_longer set.graph levels d ≡ false) ds → (d : ℕ) → Contains ds d → has_longer set.graph levels d ≡ false
    each_in [] all d (k, below, same) = absurd (omega (arith, below))
    each_in (x ∷ ds) all d (zero, below, same) = subst (λ y. has_longer set.graph levels y ≡ false) same all.0
    each_in (x ∷ ds) all d (suc k, below, same) = each_in ds all.1 d (k, omega (arith, below), same)

-- in a round: those that are left of it, and those that are new in it
pub record IsRound (graph : Graph) (levels end : ℕ) (reach : Reach) : Type 0 where
  pub room : end ≤ length reach.reached
  pub left : (at : ℕ) (one : Reached) → length reach.calls ≤ at → at < end → slice_get reach.reached at ≡ Some one → has_longer graph (suc levels) one.template ≡ false
  pub fresh : AreShortFrom graph levels end reach.reached
  pub templates : AreTemplates graph reach.reached

pub round_begins : (graph : Graph) (levels : ℕ) (reach : Reach) (end : ℕ) → end ≡ length reach.reached → AreTemplates graph reach.reached → AreShortFrom graph (suc levels) (length reach.calls) reach.reached → IsRound graph levels end reach
round_begins graph levels reach end is templates short = record {
  room = omega (arith, is);
  left = λ at one from below there. short at one from there;
  fresh = λ at one from there. absurd (omega (arith, from, is, within_of reach.reached at one there));
  templates = templates;
}

pub round_ends : (graph : Graph) (levels end : ℕ) (reach : Reach) → IsRound graph levels end reach → end ≤ length reach.calls → AreShortFrom graph levels (length reach.calls) reach.reached
round_ends graph levels end reach r past at one from there = r.fresh at one (omega (arith, past, from)) there

pub round_on : (set : ReadSet) (schema : ModelList) (one : Reached) (old new : Reach) (levels end : ℕ) → IsSet set.templates set.graph set.digests → ((caller x : Reached) → Contains (called_by set schema caller) x → x.template < length set.graph) → slice_get old.reached (length old.calls) ≡ Some one → IsExpanded set schema one old new → length old.calls < end → IsRound set.graph levels end old → IsRound set.graph levels end new
round_on set schema one old new levels end s there at_end e room r = record {
  room = omega (arith, r.room, ap length e.grows.is ∙ length-append old.reached e.grows.more);
  left = λ at x from below is.
      r.left at x (omega (arith, from, longer_by_one old.calls new.calls e.numbers e.calls)) below
      (kept old.reached e.grows.more at x (omega (arith, below, r.room)) (ap (λ xs. slice_get xs at) (sym e.grows.is) ∙ is));
  fresh = λ at x from is. ⊎_elim (λ before. r.fresh at x from before) (λ later. short x (e.grows.from x later.1)) (in_old old.reached new.reached e.grows.more at x e.grows.is is);
  templates = λ x h. ⊎_elim (r.templates x) (λ later. there one x (e.grows.from x later)) (among_cases old.reached new.reached e.grows.more x e.grows.is h);
}
  where
    within : one.template < length set.graph
    within = r.templates one (get_among old.reached (length old.calls) one at_end)

    short : (x : Reached) → Contains (called_by set schema one) x → has_longer set.graph levels x.template ≡ false
    short x h = shorter_calls set schema one x levels s within (r.left (length old.calls) one (omega arith) room at_end) h

-- where no chain may be longer than nothing, nothing is left
pub none_left : (graph : Graph) (reach : Reach) → AreTemplates graph reach.reached → AreShortFrom graph 0 (length reach.calls) reach.reached → length reach.reached ≤ length reach.calls
none_left graph reach templates short = by (length reach.calls) (length reach.reached) (λ room. left room)
  where
    left : length reach.calls < length reach.reached → ⊥
    left room =
        let one = element_at reach.reached (length reach.calls) room in
        let within = templates one.0 (get_among reach.reached (length reach.calls) one.0 one.1) in
        true≢false (sym (get_or-map (λ (d : List ℕ). true) graph one.0.template [] false within) ∙ short (length reach.calls) one.0 (omega arith) one.1)

    by : (m n : ℕ) → (m < n → ⊥) → n ≤ m
    by m n h = omega (arith, h)
