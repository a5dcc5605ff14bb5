-- How heavy templates are (this project's own).
use Rattle.std.specs.Prelude.{ℕ, ◌+◌, min, nat_lt, List, [], length, map, Option}
use Rattle.std.specs.List.{find, range_with_len, slice_index_or, sum, sum_by}
use Rattle.doll_erb.specs.declared.node.Arm.{Arm-F}
use Rattle.doll_erb.specs.declared.node.Node.{Node, fold-Node}
use Rattle.doll_erb.specs.declared.node.Node.TheOpen.{Node-F}
use Rattle.doll_graph.specs.Levels.{by_levels}
use Rattle.doll_set.specs.declared.dependencies.Links.{Links}
use Rattle.doll_set.specs.declared.template.Template.{Template}
use Rattle.doll_set.specs.declared.limits.TheConstants.{LONGEST_CHAIN, GREATEST_WEIGHT}

-- how many nodes a node is, by how many its parts are: itself and these; the arms of an `if` are none
abbrev pub count_step : Node-F ℕ ℕ → ℕ
count_step (Node-F.If at arms otherwise) = 1 + (sum arms + sum otherwise)
count_step (Node-F.Each at list name body) = 1 + sum body
count_step (Node-F.Cache at block key body) = 1 + sum body
count_step other = 1

abbrev pub arm_count : Arm-F ℕ ℕ → ℕ
arm_count arm = sum arm.body

abbrev pub node_count : Node → ℕ
node_count = fold-Node ℕ ℕ count_step arm_count

-- the nodes of a tree at any depth
abbrev pub nodes_in : List Node → ℕ
nodes_in tree = sum_by node_count tree

-- how many nodes each template has
abbrev pub node_counts : List Template → List ℕ
node_counts templates = map (λ (t : Template). nodes_in t.tree) templates

-- what each template renders
abbrev pub rendered_by : List Links → List (List ℕ)
rendered_by links = map (λ (l : Links). l.rendered) links

-- a template's nodes and the weights of what it renders, once for each tag
abbrev pub weight_step : List ℕ → List (List ℕ) → ℕ → (ℕ → ℕ) → ℕ
weight_step nodes rendered number weight = slice_index_or nodes number 0 + sum_by weight (slice_index_or rendered number [])

-- the weight of a template, by the nodes of each and by what each renders
abbrev pub weight : List ℕ → List (List ℕ) → ℕ → ℕ
weight nodes rendered number = by_levels 0 (weight_step nodes rendered) LONGEST_CHAIN number

-- a weight among others, none where it isn't there
abbrev pub weight_in : List ℕ → ℕ → ℕ
weight_in weights number = slice_index_or weights number 0

-- the weights of all, so many levels deep, up to a cap
abbrev pub level_capped : ℕ → List ℕ → List (List ℕ) → ℕ → List ℕ
level_capped cap nodes rendered levels = map (λ number. min (by_levels 0 (weight_step nodes rendered) levels number) cap) (range_with_len 0 (length nodes))

-- the first template that is too heavy
abbrev pub first_too_wide : List ℕ → List (List ℕ) → Option ℕ
first_too_wide nodes rendered = find (λ number. nat_lt GREATEST_WEIGHT (weight nodes rendered number)) (range_with_len 0 (length nodes))
