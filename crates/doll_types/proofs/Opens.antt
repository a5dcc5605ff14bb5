-- What routes open, one after another.
use Rattle.std.proofs.Common.{◌≡◌, ℕ, zero, suc, ◌+◌, ◌<◌, ◌≤◌, List, [], ◌∷◌, ◌++◌, length, take, get_or, Some, None, ap, sym, subst, ◌∙◌, ⊎_elim, arith}
use Rattle.std.specs.Prelude.{slice_get}
use Rattle.std.specs.List.{Contains, flat_map}
use Rattle.std.specs.Option.{option_map_or}
use Rattle.std.proofs.lemmas.List.{append-nil, flat_map_more, take_more, take_all}
use Rattle.std.proofs.lemmas.List.Elements.{Contains-append_left, Contains-append_cases}
use Rattle.doll_route.specs.declared.route.Route.{Route}
use Rattle.doll_schema.specs.Models.{ModelList}
use Rattle.doll_set.specs.Dependencies.{names_of, number_of}
use Rattle.doll_set.specs.Sets.{ReadSet}
use Rattle.doll_types.specs.declared.reached.Reached.{Reached}
use Rattle.doll_types.specs.declared.reaching.Reach.{Reach}
use Rattle.doll_types.specs.declared.types.TypeKind.TheVariants.{MissingTemplate}
use Rattle.doll_types.specs.Faults.{IsTypeFault, missing_of}
use Rattle.doll_types.specs.Reached.{IsReached, opened, opened_by, route_typing}
use Rattle.doll_types.specs.Reachings.{AreOpened, Grows, IsOpened, IsReaching}
use Rattle.doll_types.specs.Types.{Typing}
use Rattle.doll_types.proofs.Depending.{get_among}
use Rattle.doll_types.proofs.Growing.{grow_on, stays}

-- a route whose template is there
pub opens_one : (set : ReadSet) (schema : ModelList) (route : Route) (old new : Reach) (number n : ℕ) (typing : Typing) → Some number ≡ number_of (names_of set.templates) route.template → typing ≡ route_typing schema route → slice_get new.reached n ≡ Some (record { template = number; typing = typing }) → Grows old.reached new.reached (record { template = number; typing = typing } ∷ []) → new.calls ≡ old.calls → new.faults ≡ old.faults → IsOpened set schema route old new
opens_one set schema route old new number n typing found is there grows calls faults =
    let one : Reached = record { template = number; typing = typing } in
    let same : one ∷ [] ≡ opened_by set schema route =
    ap (λ t. (record { template = number; typing = t }) ∷ []) is
    ∙ ap (λ o. option_map_or (λ m. record { template = m; typing = route_typing schema route } ∷ []) o []) found in
    let none : missing_of set route ≡ [] = ap (λ o. option_map_or (λ m. []) o (record { template = route.template; at = 0; kind = MissingTemplate } ∷ [])) (sym found) in
    record {
      grows = subst (λ ones. Grows old.reached new.reached ones) same grows;
      has = λ x h. get_among new.reached n x (there ∙ ap Some (only (subst (λ ones. Contains ones x) (sym same) h)));
      calls = calls;
      faults = ap (λ (f : _). f.items) faults ∙ sym (ap (λ more. old.faults.items ++ more) none ∙ append-nil old.faults.items);
    }
  where
    only : {x : Reached} → Contains (record { template = number; typing = typing } ∷ []) x → record { template = number; typing = typing } ≡ x
    only (zero, within, same) = same
    only (suc k, within, same) = absurd (omega (arith, within))

-- a route whose template isn't
pub opens_none : (set : ReadSet) (schema : ModelList) (route : Route) (old new : Reach) → None ≡ number_of (names_of set.templates) route.template → new.reached ≡ old.reached → new.calls ≡ old.calls → new.faults.items ≡ old.faults.items ++ record { template = route.template; at = 0; kind = MissingTemplate } ∷ [] → IsOpened set schema route old new
opens_none set schema route old new found reached calls faults =
    let none : [] ≡ opened_by set schema route = ap (λ o. option_map_or (λ m. record { template = m; typing = route_typing schema route } ∷ []) o []) found in
    let one : record { template = route.template; at = 0; kind = MissingTemplate } ∷ [] ≡ missing_of set route =
    ap (λ o. option_map_or (λ m. []) o (record { template = route.template; at = 0; kind = MissingTemplate } ∷ [])) found in
    record {
      grows = subst (λ now. Grows old.reached now (opened_by set schema route)) (sym reached) (stays old.reached (opened_by set schema route));
      has = λ x h. nothing (subst (λ ones. Contains ones x) (sym none) h);
      calls = calls;
      faults = faults ∙ ap (λ more. old.faults.items ++ more) one;
    }
  where
    nothing : {x : Reached} {C : Type 0} → Contains [] x → C
    nothing (k, within, same) = absurd (omega (arith, within))

contains_on : (old new more : List Reached) (x : Reached) → new ≡ old ++ more → Contains old x → Contains new x
contains_on old new more x is h = subst (λ xs. Contains xs x) (sym is) (Contains-append_left old more x h)

flat_more : {X Y : Type 0} (go : X → List Y) (xs : List X) (at : ℕ) (x : X) → at < length xs → x ≡ get_or xs at x → flat_map go (take at xs) ++ go x ≡ flat_map go (take (at + 1) xs)
flat_more go xs at x within is = flat_map_more go [] (take at xs) x ∙ ap (flat_map go) (ap (λ y. take at xs ++ y ∷ []) is ∙ sym (take_more xs at x within))

-- one route more
pub opens_more : (set : ReadSet) (schema : ModelList) (routes : List Route) (at : ℕ) (route : Route) (old new : Reach) → at < length routes → route ≡ get_or routes at route → AreOpened set schema (take at routes) old → IsOpened set schema route old new → AreOpened set schema (take (at + 1) routes) new
opens_more set schema routes at route old new within is so o =
    let ones = flat_more (opened_by set schema) routes at route within is in
    let faults = flat_more (missing_of set) routes at route within is in
    record {
      grows = subst (λ xs. Grows [] new.reached xs) ones (grow_on [] old.reached new.reached (opened set schema (take at routes)) (opened_by set schema route) so.grows o.grows);
      has = λ x h.
          ⊎_elim (λ before. contains_on old.reached new.reached o.grows.more x o.grows.is (so.has x before)) (o.has x)
          (Contains-append_cases (opened set schema (take at routes)) (opened_by set schema route) x (subst (λ xs. Contains xs x) (sym ones) h));
      calls = o.calls ∙ so.calls;
      faults = o.faults ∙ ap (λ f. f ++ missing_of set route) so.faults ∙ faults;
    }

pub none_opened : (set : ReadSet) (schema : ModelList) (reach : Reach) → reach.reached ≡ [] → reach.calls ≡ [] → reach.faults.items ≡ [] → AreOpened set schema [] reach
none_opened set schema reach reached calls faults = record {
  grows = subst (λ now. Grows [] now []) (sym reached) (stays [] []);
  has = λ x h. nothing h;
  calls = calls;
  faults = faults;
}
  where
    nothing : {x : Reached} {C : Type 0} → Contains [] x → C
    nothing (k, within, same) = absurd (omega (arith, within))

pub all_opened : (set : ReadSet) (schema : ModelList) (routes : List Route) (at : ℕ) (reach : Reach) → length routes ≤ at → AreOpened set schema (take at routes) reach → AreOpened set schema routes reach
all_opened set schema routes at reach past o = subst (λ rs. AreOpened set schema rs reach) (take_all at routes past) o

-- what routes open is reached, and it is all that is needed to go on
pub reaching_first : (set : ReadSet) (schema : ModelList) (routes : List Route) (reach : Reach) → AreOpened set schema routes reach → IsReaching set schema routes reach
reaching_first set schema routes reach o = record {
  within = subst (λ c. length c ≤ length reach.reached) (sym o.calls) (omega arith);
  sound = λ x h. IsReached.by_route x (o.grows.from x (subst (λ xs. Contains xs x) o.grows.is h));
  opens = o.has;
  numbered = λ at x numbers is numbered. absurd (nothing_at at numbers (ap (λ c. slice_get c at) (sym o.calls) ∙ numbered));
  faulty = λ fault h. IsTypeFault.of_route fault (subst (λ fs. Contains fs fault) o.faults h);
  missing = λ fault h. subst (λ fs. Contains fs fault) (sym o.faults) h;
  faults = λ at x fault below is h. absurd (omega (arith, subst (λ c. at < length c) o.calls below));
}
  where
    nothing_at : (at : ℕ) (numbers : List ℕ) → slice_get [] at ≡ Some numbers → ⊥
    nothing_at at numbers e = cc e
