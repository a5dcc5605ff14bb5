use Rattle.std.proofs.Common.{◌≡◌, ◌++◌, ap, sym, subst, ◌∙◌, take_all, OnOk}
use Rattle.std.proofs.lemmas.List.{append_assoc}
use Rattle.doll_set.specs.Dependencies.{node_tags, tags_of}
use Rattle.doll_set.proofs.Tags.{arms_tags, if_tags}
use Rattle.doll_set.proofs.dependencies.+tags.Goals as goal

pub add_node_tags-returns-after-loop-arm : goal.add_node_tags-returns-after-loop-arm
add_node_tags-returns-after-loop-arm t c =
    let before = c.args.tags.now in
    let otherwise = c.in-If.otherwise in
    let arms : c.loop-arm.tags ≡ before ++ arms_tags c.in-If.arms =
    c.loop-arm.invariant ∙ ap (λ arms. before ++ arms_tags arms) (take_all c.loop-arm.arm-index c.as_slice-arm-items.result.now c.loop-arm-test.false ∙ c.as_slice-arm-items.ensures) in
    let same : c.loop-arm.tags ++ tags_of c.as_slice-in-If.result.now ≡ before ++ node_tags c.args.node.now =
    ap (λ body. c.loop-arm.tags ++ tags_of body) c.as_slice-in-If.ensures
    ∙ ap (λ found. found ++ tags_of otherwise) arms
    ∙ append_assoc before (arms_tags c.in-If.arms) (tags_of otherwise)
    ∙ ap (λ found. before ++ found) (sym (ap node_tags c.in-If.is ∙ if_tags c.in-If.at c.in-If.arms otherwise)) in
    subst (λ found. OnOk c.add_tags-in-If.result (c.add_tags-in-If.new.tags ≡ found)) same c.add_tags-in-If.ensures
