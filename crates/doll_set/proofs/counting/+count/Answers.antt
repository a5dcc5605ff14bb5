use Rattle.std.proofs.Common.{◌≡◌, min, ap, ◌∙◌, take_all, arith}
use Rattle.doll_set.specs.Weights.{node_count, nodes_in}
use Rattle.doll_set.proofs.Counts.{arms_nodes, if_count}
use Rattle.doll_set.proofs.counting.+count.Goals as goal

pub node_count-returns-after-loop-arm : goal.node_count-returns-after-loop-arm
node_count-returns-after-loop-arm t c =
    let arms : c.loop-arm.count ≡ min (arms_nodes c.in-If.arms) 4294967295 =
    c.loop-arm.invariant ∙ ap (λ arms. min (arms_nodes arms) 4294967295) (take_all c.loop-arm.arm-index c.as_slice-arm-items.result.now c.loop-arm-test.false ∙ c.as_slice-arm-items.ensures) in
    let last : c.nodes_in-in-If.result ≡ min (nodes_in c.in-If.otherwise) 4294967295 =
    c.nodes_in-in-If.ensures ∙ ap (λ body. min (nodes_in body) 4294967295) c.as_slice-in-If.ensures in
    let whole = ap node_count c.in-If.is ∙ if_count c.in-If.at c.in-If.arms c.in-If.otherwise in
    omega (arith, arms, last, whole, c.saturating_add.ensures, c.saturating_add-in-If.ensures)
