-- What holds of the graph of templates that are linked.
use Rattle.std.proofs.Common.{◌≡◌, ℕ, zero, suc, ◌<◌, List, [], ◌∷◌, length, get_or, None, Some, Result, Ok, Err, refl, ap, sym, subst, ◌∙◌}
use Rattle.std.specs.List.{AllByRecursion}
use Rattle.std.specs.Result.{IsErrAnd}
use Rattle.std.proofs.lemmas.List.{length-map}
use Rattle.doll_text.specs.Gives.{Gives}
use Rattle.doll_text.specs.Steps.{◌>>=◌, ◌>>◌}
use Rattle.doll_graph.specs.Graphs.{Graph, cycle, first_longer}
use Rattle.doll_graph.proofs.Endless.{no_cycle_where_short}
use Rattle.doll_set.specs.declared.dependencies.Links.{Links}
use Rattle.doll_set.specs.declared.fault.SetFault.{SetFault}
use Rattle.doll_set.specs.declared.fault.SetFault.TheVariants.{DepthOver}
use Rattle.doll_set.specs.declared.template.Template.{Template}
use Rattle.doll_set.specs.Dependencies.{AreLinksBelow, all_links, graph_of}
use Rattle.doll_set.specs.declared.limits.TheConstants.{LONGEST_CHAIN}
use Rattle.doll_set.specs.Digests.{EachIsThere, name_at, too_deep}
use Rattle.doll_set.specs.Sets.{first_heavy, fit, linked, linked_graph, no_cycle, none_deep, none_wide}

abbrev value_or : {Y F : Type 0} → Y → Result Y F → Y
value_or y (Ok x) = x
value_or y (Err fault) = y

same_value : {Y F : Type 0} (x y : Y) → ◌≡◌ {A = Result Y F} (Ok x) (Ok y) → x ≡ y
same_value x y e = ap (value_or x) e

-- ---- each dependency is there

below_at : (count : ℕ) (links : List Links) (number : ℕ) → AllByRecursion (AreLinksBelow count) links → AllByRecursion (λ d. d < count) (get_or (graph_of links) number [])
below_at count [] number all = tt
below_at count (one ∷ links) zero all = all.0.0
below_at count (one ∷ links) (suc number) all = below_at count links number all.1

pub each_is_there : (count : ℕ) (links : List Links) (graph : Graph) → graph ≡ graph_of links → length links ≡ count → AllByRecursion (AreLinksBelow count) links → EachIsThere graph
each_is_there count links graph is long all =
    subst EachIsThere (sym is)
    (λ number. subst (λ n. AllByRecursion (λ d. d < n) (get_or (graph_of links) number [])) (sym (length-map links (λ (l : Links). l.dependencies) ∙ long)) (below_at count links number all))

-- a refusal that a call hands on
pub hands_on : {X : Type 0} (memory : SetFault) (expected result : Result X SetFault) (fault : SetFault) → IsErrAnd result (λ e. e ≡ fault) → ((fault ≡ memory → ⊥) → expected ≡ Err fault) → Gives memory expected result
hands_on _ expected (Ok x) fault is gives = absurd is
hands_on _ expected (Err e) fault is gives = λ known. gives (λ same. known (is ∙ same)) ∙ ap Err (sym is)

-- ---- steps

abbrev after : List Template → Result (List Links) SetFault → Result (List Links) SetFault
after templates made = made >>= (λ links. fit templates links >> Ok links)

abbrev graph_after : Result (List Links) SetFault → Result Graph SetFault
graph_after links = links >>= (λ links. Ok (graph_of links))

-- the graph is that of the links where they fit
pub linked_so : (templates : List Template) (links : List Links) (graph : Graph) → all_links templates templates ≡ Ok links → fit templates links ≡ Ok tt → graph ≡ graph_of links → linked_graph templates ≡ Ok graph
unfolding linked
linked_so templates links graph made fits is =
    ap (λ r. graph_after (after templates r)) made ∙ ap (λ r. graph_after (r >> Ok links)) fits ∙ ap Ok (sym is)

-- there is none where the links fail
pub not_linked : (templates : List Template) (fault : SetFault) → all_links templates templates ≡ Err fault → linked_graph templates ≡ Err fault
unfolding linked
not_linked templates fault made = ap (λ r. graph_after (after templates r)) made

-- there is none where they don't fit
pub not_fit : (templates : List Template) (links : List Links) (fault : SetFault) → all_links templates templates ≡ Ok links → fit templates links ≡ Err fault → linked_graph templates ≡ Err fault
unfolding linked
not_fit templates links fault made fails =
    ap (λ r. graph_after (after templates r)) made ∙ ap (λ r. graph_after (r >> Ok links)) fails

-- a graph that was linked is that of links
pub links_behind : (templates : List Template) (graph : Graph) → linked_graph templates ≡ Ok graph → (links : List Links) × ((linked templates ≡ Ok links) × (graph ≡ graph_of links))
links_behind templates graph e = by (linked templates) refl e
  where
    by : (r : Result (List Links) SetFault) → linked templates ≡ r → (r >>= (λ links. Ok (graph_of links))) ≡ Ok graph → (links : List Links) × ((linked templates ≡ Ok links) × (graph ≡ graph_of links))
    by (Ok links) is h = (links, (is, sym (same_value (graph_of links) graph h)))
    by (Err fault) is h = absurd (cc h)

-- ---- fitting

-- where no chain is too long, links fit where none is too heavy
pub short_fits : (templates : List Template) (links : List Links) (graph : Graph) → graph ≡ graph_of links → first_longer graph LONGEST_CHAIN ≡ None → fit templates links ≡ none_wide templates (first_heavy templates links)
unfolding too_deep
short_fits templates links graph is short =
    ap (λ way. no_cycle templates way >> (none_deep templates (first_longer (graph_of links) LONGEST_CHAIN) >> none_wide templates (first_heavy templates links))) (ap cycle (sym is) ∙ no_cycle_where_short graph LONGEST_CHAIN short)
    ∙ ap (λ long. none_deep templates long >> none_wide templates (first_heavy templates links)) (ap (λ g. first_longer g LONGEST_CHAIN) (sym is) ∙ short)

-- where nothing leads back to itself but a chain is too long, its first template is told
pub deep_refused : (templates : List Template) (links : List Links) (graph : Graph) (number : ℕ) → graph ≡ graph_of links → no_cycle templates (cycle graph) ≡ Ok tt → first_longer graph LONGEST_CHAIN ≡ Some number → fit templates links ≡ Err (DepthOver (name_at templates number))
unfolding too_deep
deep_refused templates links graph number is straight long =
    ap (λ r. r >> (none_deep templates (first_longer (graph_of links) LONGEST_CHAIN) >> none_wide templates (first_heavy templates links))) (ap (λ g. no_cycle templates (cycle g)) (sym is) ∙ straight)
    ∙ ap (λ long. none_deep templates long >> none_wide templates (first_heavy templates links)) (ap (λ g. first_longer g LONGEST_CHAIN) (sym is) ∙ long)
