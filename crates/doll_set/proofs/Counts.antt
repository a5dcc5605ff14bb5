-- A node with parts is one node and so many as its parts are.
use Rattle.std.proofs.Common.{◌≡◌, ℕ, ◌+◌, List, [], ◌∷◌, map, refl, ap, sym, ◌∙◌}
use Rattle.std.specs.List.{fold, sum, sum_by}
use Rattle.std.proofs.lemmas.List.Sums.{sum-map}
use Rattle.doll_expr.specs.declared.expr.Expr.{Expr}
use Rattle.doll_erb.specs.declared.node.Node.{Node}
use Rattle.doll_erb.specs.declared.node.Node as node
use Rattle.doll_erb.specs.declared.node.Node.TheFolds.{fold-roll-Node, fold_out-Arm}
use Rattle.doll_erb.specs.declared.node.Node.TheVariants.{rolls-If, rolls-Each, rolls-Cache}
use Rattle.doll_erb.specs.declared.node.Node.TheOpen.{Node-F}
use Rattle.doll_erb.specs.declared.node.Arm.{Arm, fold-Arm}
use Rattle.doll_erb.specs.declared.node.KeyPart.{KeyPart}
use Rattle.doll_set.specs.Weights.{count_step, arm_count, node_count, nodes_in}

by_step : (layer : Node-F Node Arm) (whole : Node) → node.roll-Node layer ≡ whole → node_count whole ≡ node_count (node.roll-Node layer)
by_step layer whole rolls = ap node_count (sym rolls)

-- the nodes of the arms of an `if`
abbrev pub arms_nodes : List Arm → ℕ
arms_nodes arms = sum_by (λ (arm : Arm). nodes_in arm.body) arms

arms_parts : (before : ℕ) (arms : List Arm) → fold (λ n m. n + m) before (map (fold-Arm ℕ ℕ count_step arm_count) arms) ≡ fold (λ n (arm : Arm). n + nodes_in arm.body) before arms
arms_parts before [] = refl
arms_parts before (arm ∷ arms) =
    ap (λ n. fold (λ n m. n + m) (before + n) (map (fold-Arm ℕ ℕ count_step arm_count) arms)) (fold_out-Arm ℕ ℕ count_step arm_count arm ∙ sum-map node_count arm.body)
    ∙ arms_parts (before + nodes_in arm.body) arms

pub if_count : (at : ℕ) (arms : List Arm) (otherwise : List Node) → node_count (node.If at arms otherwise) ≡ 1 + (arms_nodes arms + nodes_in otherwise)
if_count at arms otherwise =
    by_step (Node-F.If at arms otherwise) (node.If at arms otherwise) (rolls-If at arms otherwise)
    ∙ fold-roll-Node ℕ ℕ count_step arm_count (Node-F.If at arms otherwise)
    ∙ ap (λ n. 1 + (n + sum (map node_count otherwise))) (arms_parts 0 arms)
    ∙ ap (λ n. 1 + (arms_nodes arms + n)) (sum-map node_count otherwise)

pub each_count : (at : ℕ) (list : Expr) (name : List ℕ) (body : List Node) → node_count (node.Each at list name body) ≡ 1 + nodes_in body
each_count at list name body =
    by_step (Node-F.Each at list name body) (node.Each at list name body) (rolls-Each at list name body)
    ∙ fold-roll-Node ℕ ℕ count_step arm_count (Node-F.Each at list name body)
    ∙ ap (λ n. 1 + n) (sum-map node_count body)

pub cache_count : (at block : ℕ) (key : List KeyPart) (body : List Node) → node_count (node.Cache at block key body) ≡ 1 + nodes_in body
cache_count at block key body =
    by_step (Node-F.Cache at block key body) (node.Cache at block key body) (rolls-Cache at block key body)
    ∙ fold-roll-Node ℕ ℕ count_step arm_count (Node-F.Cache at block key body)
    ∙ ap (λ n. 1 + n) (sum-map node_count body)
