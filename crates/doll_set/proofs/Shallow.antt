-- What a set promises of the chains of its templates: each dependency is there, and no chain is too long.
use Rattle.std.proofs.Common.{◌≡◌, ℕ, ◌<◌, false, List, length, Option, Some, None, Result, Ok, Err, refl, ap, sym, subst, ◌∙◌, arith}
use Rattle.std.specs.Prelude.{⊤}
use Rattle.std.proofs.lemmas.List.{length-map}
use Rattle.doll_text.specs.Steps.{◌>>=◌, ◌>>◌}
use Rattle.doll_graph.specs.Graphs.{Graph, cycle, has_longer}
use Rattle.doll_set.specs.declared.dependencies.Links.{Links}
use Rattle.doll_set.specs.declared.fault.SetFault.{SetFault}
use Rattle.doll_set.specs.declared.limits.TheConstants.{LONGEST_CHAIN}
use Rattle.doll_set.specs.declared.template.Template.{Template}
use Rattle.doll_set.specs.Dependencies.{all_links, graph_of}
use Rattle.doll_set.specs.Digests.{EachIsThere, too_deep}
use Rattle.doll_set.specs.Sets.{IsSet, first_heavy, fit, linked, no_cycle, none_deep, none_wide}
use Rattle.doll_set.proofs.Closed.{all_closed, links_of_each}
use Rattle.doll_set.proofs.Depending.{links_all}
use Rattle.doll_set.proofs.Layered.{none_passes}
use Rattle.doll_set.proofs.Linking.{each_is_there}

module _ (templates : List Template) (graph : Graph) (digests : List (List ℕ)) (s : IsSet templates graph digests) where
  all : all_links templates templates ≡ Ok s.links
  all = links_all templates s.links s.linked_so

  pub graph_long : length graph ≡ length templates
  graph_long = ap length s.graph_is ∙ length-map s.links (λ (l : Links). l.dependencies) ∙ links_of_each templates templates s.links all

  pub each_there : EachIsThere graph
  each_there = each_is_there (length templates) s.links graph s.graph_is (links_of_each templates templates s.links all) (all_closed templates templates s.links all)

  fits : fit templates s.links ≡ Ok tt
  unfolding linked
  fits = by (all_links templates templates) all s.linked_so
    where
      by : (r : Result (List Links) SetFault) → r ≡ Ok s.links → (r >>= (λ ls. fit templates ls >> Ok ls)) ≡ Ok s.links → fit templates s.links ≡ Ok tt
      by r is e = after (fit templates s.links) (ap (λ x. x >>= (λ ls. fit templates ls >> Ok ls)) (sym is) ∙ e)
        where
          after : (r : Result ⊤ SetFault) → (let go : Result (List Links) SetFault = r >> Ok s.links in go ≡ Ok s.links) → r ≡ Ok tt
          after (Ok x) e = refl
          after (Err f) e = absurd (cc e)

  shallow : too_deep (graph_of s.links) ≡ None
  shallow = by (no_cycle templates (cycle (graph_of s.links))) (too_deep (graph_of s.links)) refl fits
    where
      by : (r : Result ⊤ SetFault) (o : Option ℕ) → too_deep (graph_of s.links) ≡ o → (r >> (none_deep templates o >> none_wide templates (first_heavy templates s.links))) ≡ Ok tt → too_deep (graph_of s.links) ≡ None
      by (Err f) o is e = absurd (cc e)
      by (Ok x) None is e = is
      by (Ok x) (Some n) is e = absurd (cc e)

  -- from no template a longer chain begins
  pub none_longer : (number : ℕ) → number < length graph → has_longer graph LONGEST_CHAIN number ≡ false
  unfolding too_deep
  none_longer number within = none_passes (has_longer graph LONGEST_CHAIN) 0 (length graph) number (subst (λ g. too_deep g ≡ None) (sym s.graph_is) shallow) (omega arith) (omega (arith, within))
