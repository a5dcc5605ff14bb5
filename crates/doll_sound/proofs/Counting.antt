-- A template of a set has fewer cache tags than there are numbers for them.
use Rattle.std.proofs.Common.{◌≡◌, ◌<◌, ◌≤◌, ◌+◌, ℕ, zero, suc, false, List, [], ◌∷◌, ◌++◌, length, map, Option, None, Some, Result, Ok, Err, refl, sym, ap, subst, ◌∙◌, arith, length-append}
use Rattle.std.specs.Prelude.{⊤, nat_lt}
use Rattle.std.specs.List.{slice_index_or, sum, sum_by}
use Rattle.std.proofs.lemmas.Bool.Decides.{nat_tests}
use Rattle.std.proofs.lemmas.List.{length-map}
use Rattle.std.proofs.lemmas.List.Sums.{sum-map, sum_by-cons}
use Rattle.doll_text.specs.Steps.{◌>>=◌, ◌>>◌}
use Rattle.doll_erb.specs.declared.node.Arm.{Arm, Arm-F, fold-Arm, map-Arm, roll-Arm}
use Rattle.doll_erb.specs.declared.node.Node.{Node, roll-Node}
use Rattle.doll_erb.specs.declared.node.Node.TheFolds.{fold-roll-Node, fold_out-Arm, ind-Node, map-Node}
use Rattle.doll_erb.specs.declared.node.Node.TheOpen.{Node-F}
use Rattle.doll_graph.specs.Graphs.{Graph, cycle}
use Rattle.doll_graph.specs.Levels.{by_levels}
use Rattle.doll_set.specs.declared.dependencies.Links.{Links}
use Rattle.doll_set.specs.declared.fault.SetFault.{SetFault}
use Rattle.doll_set.specs.declared.limits.TheConstants.{GREATEST_WEIGHT}
use Rattle.doll_set.specs.declared.template.Template.{Template}
use Rattle.doll_set.specs.Dependencies.{all_links, graph_of}
use Rattle.doll_set.specs.Digests.{too_deep}
use Rattle.doll_set.specs.Sets.{IsSet, first_heavy, fit, linked, no_cycle, none_deep, none_wide, tree_at}
use Rattle.doll_set.specs.Weights.{arm_count, count_step, node_count, node_counts, nodes_in, rendered_by, weight, weight_step}
use Rattle.doll_set.proofs.Layered.{none_passes}
use Rattle.doll_sound.proofs.Numbers.{arm_numbers, joined, node_numbers, numbers_step, tree_numbers}

-- ---- no more tags than nodes

abbrev arm_tags : Arm → List ℕ
arm_tags = fold-Arm (List ℕ) (List ℕ) numbers_step arm_numbers

abbrev arm_nodes : Arm → ℕ
arm_nodes = fold-Arm ℕ ℕ count_step arm_count

abbrev Counted : Node → Type 0
Counted node = length (node_numbers node) ≤ node_count node

abbrev ArmCounted : Arm → Type 0
ArmCounted arm = length (arm_tags arm) ≤ arm_nodes arm

abbrev Part : Type 0
Part = (node : Node) × Counted node

abbrev ArmPart : Type 0
ArmPart = (arm : Arm) × ArmCounted arm

abbrev nodes : List Part → List Node
nodes = map (λ p. p.0)

abbrev arms_of : List ArmPart → List Arm
arms_of = map (λ p. p.0)

sum_first : {X : Type 0} (f : X → ℕ) (x : X) (xs : List X) → sum (map f (x ∷ xs)) ≡ f x + sum (map f xs)
sum_first f x xs = sum-map f (x ∷ xs) ∙ sum_by-cons f x xs ∙ ap (λ n. f x + n) (sym (sum-map f xs))

both : (xs ys : List ℕ) (a b all : ℕ) → length xs ≤ a → length ys ≤ b → all ≡ a + b → length (xs ++ ys) ≤ all
both xs ys a b all first more is = omega (arith, length-append xs ys)

nodes_counted : (ps : List Part) → length (joined (map node_numbers (nodes ps))) ≤ sum (map node_count (nodes ps))
nodes_counted [] = omega arith
nodes_counted (p ∷ ps) = both (node_numbers p.0) (joined (map node_numbers (nodes ps))) (node_count p.0) (sum (map node_count (nodes ps))) _ p.1 (nodes_counted ps) (sum_first node_count p.0 (nodes ps))

arms_counted : (ps : List ArmPart) → length (joined (map arm_tags (arms_of ps))) ≤ sum (map arm_nodes (arms_of ps))
arms_counted [] = omega arith
arms_counted (p ∷ ps) = both (arm_tags p.0) (joined (map arm_tags (arms_of ps))) (arm_nodes p.0) (sum (map arm_nodes (arms_of ps))) _ p.1 (arms_counted ps) (sum_first arm_nodes p.0 (arms_of ps))

abbrev open_node : Node-F Part ArmPart → Node-F Node Arm
open_node = map-Node Part ArmPart Node Arm (λ p. p.0) (λ p. p.0)

abbrev StepCounted : Node-F Node Arm → Type 0
StepCounted layer = length (numbers_step (map-Node Node Arm (List ℕ) (List ℕ) node_numbers arm_tags layer)) ≤ count_step (map-Node Node Arm ℕ ℕ node_count arm_nodes layer)

step_counted : (y : Node-F Part ArmPart) → StepCounted (open_node y)
step_counted (Node-F.Text text) = omega arith
step_counted (Node-F.Write at value) = omega arith
step_counted (Node-F.Raw at value) = omega arith
step_counted (Node-F.If at arms otherwise) =
    omega (arith, length-append (joined (map arm_tags (arms_of arms))) (joined (map node_numbers (nodes otherwise))), arms_counted arms, nodes_counted otherwise)
step_counted (Node-F.Each at list name body) = omega (arith, nodes_counted body)
step_counted (Node-F.Cache at block key body) = omega (arith, nodes_counted body)
step_counted (Node-F.Render at name locals) = omega arith
step_counted (Node-F.Collection at name list item cached) = omega arith
step_counted (Node-F.Depends at name) = omega arith

rolled : (layer : Node-F Node Arm) → StepCounted layer → Counted (roll-Node layer)
rolled layer counted =
    omega (arith, counted, ap length (fold-roll-Node (List ℕ) (List ℕ) numbers_step arm_numbers layer), fold-roll-Node ℕ ℕ count_step arm_count layer)

node_counted : (node : Node) → Counted node
node_counted = ind-Node Counted ArmCounted
    (λ x y is. subst (λ z. Counted (roll-Node z)) is (rolled (open_node y) (step_counted y)))
    (λ x y is. subst (λ z. ArmCounted (roll-Arm z)) is (arm y))
  where
    arm : (y : Arm-F Part ArmPart) → ArmCounted (roll-Arm (map-Arm Part ArmPart Node Arm (λ p. p.0) (λ p. p.0) y))
    arm y =
        let one = roll-Arm (map-Arm Part ArmPart Node Arm (λ p. p.0) (λ p. p.0) y) in
        omega (arith, nodes_counted y.body, ap length (fold_out-Arm (List ℕ) (List ℕ) numbers_step arm_numbers one), fold_out-Arm ℕ ℕ count_step arm_count one)

pub tree_counted : (tree : List Node) → length (tree_numbers tree) ≤ nodes_in tree
tree_counted [] = omega arith
tree_counted (one ∷ tree) = both (node_numbers one) (tree_numbers tree) (node_count one) (nodes_in tree) _ (node_counted one) (tree_counted tree) (sum_by-cons node_count one tree)

-- ---- few nodes

module _ (templates : List Template) (graph : Graph) (digests : List (List ℕ)) (s : IsSet templates graph digests) where
  fits : fit templates s.links ≡ Ok tt
  unfolding linked
  fits = by (all_links templates templates) s.linked_so
    where
      by : (r : Result (List Links) SetFault) → (r >>= (λ ls. fit templates ls >> Ok ls)) ≡ Ok s.links → fit templates s.links ≡ Ok tt
      by (Err f) e = absurd (cc e)
      by (Ok links) e = after (fit templates links) refl e
        where
          after : (r : Result ⊤ SetFault) → fit templates links ≡ r → (let go : Result (List Links) SetFault = r >> Ok links in go ≡ Ok s.links) → fit templates s.links ≡ Ok tt
          after (Ok x) is e = let same : links ≡ s.links = cc in ap (fit templates) (sym same) ∙ is
          after (Err f) is e = absurd (cc e)

  light : first_heavy templates s.links ≡ None
  light = by (no_cycle templates (cycle (graph_of s.links))) (none_deep templates (too_deep (graph_of s.links))) (first_heavy templates s.links) refl fits
    where
      by : (r d : Result ⊤ SetFault) (o : Option ℕ) → first_heavy templates s.links ≡ o → (r >> (d >> none_wide templates o)) ≡ Ok tt → first_heavy templates s.links ≡ None
      by (Err f) d o is e = absurd (cc e)
      by (Ok x) (Err f) o is e = absurd (cc e)
      by (Ok x) (Ok y) None is e = is
      by (Ok x) (Ok y) (Some n) is e = absurd (cc e)

  within_weight : (number : ℕ) → weight (node_counts templates) (rendered_by s.links) number
      ≡ slice_index_or (node_counts templates) number 0 + sum_by (by_levels 0 (weight_step (node_counts templates) (rendered_by s.links)) 15) (slice_index_or (rendered_by s.links) number [])
  within_weight number = refl

  -- each template has few nodes
  few : (number : ℕ) → number < length templates → slice_index_or (node_counts templates) number 0 ≤ GREATEST_WEIGHT
  unfolding first_heavy
  few number within =
      by (weight (node_counts templates) (rendered_by s.links) number) (slice_index_or (node_counts templates) number 0) _ (within_weight number)
      (none_passes (λ number. nat_lt GREATEST_WEIGHT (weight (node_counts templates) (rendered_by s.links) number)) 0 (length (node_counts templates)) number light (omega arith)
      (omega (arith, length-map templates (λ (t : Template). nodes_in t.tree))))
    where
      by : (w a b : ℕ) → w ≡ a + b → nat_lt GREATEST_WEIGHT w ≡ false → a ≤ GREATEST_WEIGHT
      by w a b is light = let most : w ≤ GREATEST_WEIGHT = grind (arith, nat_tests) in omega (arith, most, is)

  count_at : (some : List Template) (number : ℕ) → slice_index_or (node_counts some) number 0 ≡ nodes_in (tree_at some number)
  count_at [] number = refl
  count_at (t ∷ some) zero = refl
  count_at (t ∷ some) (suc number) = count_at some number

  -- a template has at most so many cache tags
  pub few_tags : (number : ℕ) → number < length templates → length (tree_numbers (tree_at templates number)) ≤ GREATEST_WEIGHT
  few_tags number within = omega (arith, few number within, count_at templates number, tree_counted (tree_at templates number))
