-- What a set promises of the templates that pages reach: they are there, and no chain of them is too long.
use Rattle.std.proofs.Common.{◌≡◌, ℕ, zero, suc, ◌<◌, false, List, [], ◌∷◌, length, Option, Some, None, Result, Ok, Err, refl, ap, sym, subst, ◌∙◌, ⊎_elim, arith}
use Rattle.std.specs.Prelude.{⊤}
use Rattle.std.specs.List.{AllByRecursion, Contains}
use Rattle.std.specs.Option.{option_map_or}
use Rattle.std.specs.Str.{bytes_eq}
use Rattle.std.proofs.lemmas.List.{length-map}
use Rattle.std.proofs.lemmas.List.Elements.{Contains-append_cases}
use Rattle.doll_text.specs.Steps.{◌>>=◌, ◌>>◌}
use Rattle.doll_graph.specs.Graphs.{cycle, dependencies, has_longer}
use Rattle.doll_route.specs.declared.route.Route.{Route}
use Rattle.doll_schema.specs.Models.{ModelList}
use Rattle.doll_set.specs.declared.dependencies.Links.{Links}
use Rattle.doll_set.specs.declared.fault.SetFault.{SetFault}
use Rattle.doll_set.specs.declared.limits.TheConstants.{LONGEST_CHAIN}
use Rattle.doll_set.specs.declared.template.Template.{Template}
use Rattle.doll_set.specs.Dependencies.{all_links, graph_of, names_of, number_of}
use Rattle.doll_set.specs.Digests.{too_deep}
use Rattle.doll_set.specs.Sets.{IsSet, ReadSet, fit, first_heavy, linked, no_cycle, none_deep, none_wide}
use Rattle.doll_set.proofs.Closed.{all_closed, links_of_each}
use Rattle.doll_set.proofs.Layered.{none_passes}
use Rattle.doll_set.proofs.Linking.{each_is_there}
use Rattle.doll_types.specs.declared.reached.Reached.{Reached}
use Rattle.doll_types.specs.declared.reaching.Reach.{Reach}
use Rattle.doll_types.specs.Reached.{called_by, opened, opened_by, route_typing}
use Rattle.doll_types.specs.Reachings.{AreOpened, AreTemplates, IsShallow}
use Rattle.doll_types.proofs.Depending.{calls_depend, get_among, links_all, position_within}

module _ (set : ReadSet) (s : IsSet set.templates set.graph set.digests) where
  all : all_links set.templates set.templates ≡ Ok s.links
  all = links_all set.templates s.links s.linked_so

  graph_long : length set.graph ≡ length set.templates
  graph_long = ap length s.graph_is ∙ length-map s.links (λ (l : Links). l.dependencies) ∙ links_of_each set.templates set.templates s.links all

  each_below : (ds : List ℕ) → AllByRecursion (λ d. d < length set.graph) ds → (d : ℕ) → Contains ds d → d < length set.graph
  each_below [] holds d (k, below, same) = absurd (omega (arith, below))
  each_below (x ∷ ds) holds d (zero, below, same) = subst (λ y. y < length set.graph) same holds.0
  each_below (x ∷ ds) holds d (suc k, below, same) = each_below ds holds.1 d (k, omega (arith, below), same)

  -- what a template renders is there
  pub called_there : (schema : ModelList) (caller one : Reached) → Contains (called_by set schema caller) one → one.template < length set.graph
  called_there schema caller one h =
      each_below (dependencies set.graph caller.template)
      (each_is_there (length set.templates) s.links set.graph s.graph_is (links_of_each set.templates set.templates s.links all) (all_closed set.templates set.templates s.links all) caller.template)
      one.template (calls_depend set schema caller one s h)

  -- what routes open is there
  opened_there : (schema : ModelList) (routes : List Route) (one : Reached) → Contains (opened set schema routes) one → one.template < length set.graph
  opened_there schema [] one (k, below, same) = absurd (omega (arith, below))
  opened_there schema (route ∷ routes) one h =
      ⊎_elim (λ here. by (number_of (names_of set.templates) route.template) refl here) (λ later. opened_there schema routes one later)
      (Contains-append_cases (opened_by set schema route) (opened set schema routes) one h)
    where
      by : (o : Option ℕ) → number_of (names_of set.templates) route.template ≡ o → Contains (option_map_or (λ number. record { template = number; typing = route_typing schema route } ∷ []) o []) one → one.template < length set.graph
      by None is (k, below, same) = absurd (omega (arith, below))
      by (Some n) is (zero, below, same) =
          subst (λ (r : Reached). r.template < length set.graph) same
          (omega (arith, position_within (bytes_eq route.template) (names_of set.templates) n is, length-map set.templates (λ (t : Template). t.name), graph_long))
      by (Some n) is (suc k, below, same) = absurd (omega (arith, below))

  -- ---- chains

  fits : fit set.templates s.links ≡ Ok tt
  unfolding linked
  fits = by (all_links set.templates set.templates) all s.linked_so
    where
      by : (r : Result (List Links) SetFault) → r ≡ Ok s.links → (r >>= (λ ls. fit set.templates ls >> Ok ls)) ≡ Ok s.links → fit set.templates s.links ≡ Ok tt
      by r is e = after (fit set.templates s.links) (ap (λ x. x >>= (λ ls. fit set.templates ls >> Ok ls)) (sym is) ∙ e)
        where
          after : (r : Result ⊤ SetFault) → (let go : Result (List Links) SetFault = r >> Ok s.links in go ≡ Ok s.links) → r ≡ Ok tt
          after (Ok x) e = refl
          after (Err f) e = absurd (cc e)

  shallow : too_deep (graph_of s.links) ≡ None
  shallow = by (no_cycle set.templates (cycle (graph_of s.links))) (too_deep (graph_of s.links)) refl fits
    where
      by : (r : Result ⊤ SetFault) (o : Option ℕ) → too_deep (graph_of s.links) ≡ o → (r >> (none_deep set.templates o >> none_wide set.templates (first_heavy set.templates s.links))) ≡ Ok tt → too_deep (graph_of s.links) ≡ None
      by (Err f) o is e = absurd (cc e)
      by (Ok x) None is e = is
      by (Ok x) (Some n) is e = absurd (cc e)

  no_chain : (number : ℕ) → number < length set.graph → has_longer set.graph LONGEST_CHAIN number ≡ false
  unfolding too_deep
  no_chain number within = none_passes (has_longer set.graph LONGEST_CHAIN) 0 (length set.graph) number (subst (λ g. too_deep g ≡ None) (sym s.graph_is) shallow) (omega arith) (omega (arith, within))

  -- what routes open begins no chain that is too long
  pub shallow_first : (schema : ModelList) (routes : List Route) (reach : Reach) → AreOpened set schema routes reach → IsShallow set.graph 16 reach
  shallow_first schema routes reach o = record {
    templates = there;
    short = λ at one from is. no_chain one.template (there one (get_among reach.reached at one is));
  }
    where
      there : AreTemplates set.graph reach.reached
      there one h = opened_there schema routes one (o.grows.from one (subst (λ xs. Contains xs one) o.grows.is h))
