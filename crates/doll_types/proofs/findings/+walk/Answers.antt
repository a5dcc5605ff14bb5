use Rattle.std.proofs.Common.{◌≡◌, ◌++◌, OnOk, ap, sym, subst, ◌∙◌, take_all}
use Rattle.std.proofs.lemmas.List.{append_assoc}
use Rattle.std.specs.List.{flat_map}
use Rattle.doll_types.specs.Findings.{findings, found_in, part_found}
use Rattle.doll_types.proofs.Nodes.{arm_done, arms_found, cache_found, each_found, if_found}
use Rattle.doll_types.proofs.findings.+walk.Goals as goal

pub add_found-loop-arm-preserved : goal.add_found-loop-arm-preserved
add_found-loop-arm-preserved t c = record {
  typing = c.in_ok-add_findings-in-If.ensures.typing ∙ c.loop-arm.invariant.typing;
  found =
      arm_done c.args.schema.now c.as_slice-arm-items.result.now c.loop-arm.arm-index c.arm-item.result c.args.typing.now c.loop-arm.typing c.as_slice.result.now
      c.args.found.now c.loop-arm.found c.add_test.new.found c.add_findings.new.found
      c.loop-arm-test.true c.arm-item.is c.loop-arm.invariant.typing c.as_slice.ensures c.loop-arm.invariant.found c.in_ok-add_test-in-If.ensures c.in_ok-add_findings-in-If.ensures.found;
}

pub add_found-returns-after-loop-arm-clause-found : goal.add_found-returns-after-loop-arm-clause-found
add_found-returns-after-loop-arm-clause-found t c =
    let schema = c.args.schema.now in
    let typing = c.args.typing.now in
    let before = c.args.found.now in
    let otherwise = c.in-If.otherwise in
    let arms : c.loop-arm.found ≡ before ++ arms_found schema c.in-If.arms typing =
    c.loop-arm.invariant.found ∙ ap (λ arms. before ++ arms_found schema arms typing) (take_all c.loop-arm.arm-index c.as_slice-arm-items.result.now c.loop-arm-test.false ∙ c.as_slice-arm-items.ensures) in
    let same : c.loop-arm.found ++ findings schema c.as_slice-in-If.result.now c.loop-arm.typing ≡ before ++ found_in schema c.args.node.now typing =
    ap (λ body. c.loop-arm.found ++ findings schema body c.loop-arm.typing) c.as_slice-in-If.ensures
    ∙ ap (λ now. c.loop-arm.found ++ findings schema otherwise now) c.loop-arm.invariant.typing
    ∙ ap (λ found. found ++ findings schema otherwise typing) arms
    ∙ append_assoc before (arms_found schema c.in-If.arms typing) (findings schema otherwise typing)
    ∙ ap (λ found. before ++ found) (sym (ap (λ n. found_in schema n typing) c.in-If.is ∙ if_found schema c.in-If.at c.in-If.arms otherwise typing)) in
    subst (λ found. OnOk c.add_findings-in-If.result (c.add_findings-in-If.new.found ≡ found)) same c.add_findings-in-If.ensures.found

pub add_found-returns-in_ok-add_findings-in-Each-clause-found : goal.add_found-returns-in_ok-add_findings-in-Each-clause-found
add_found-returns-in_ok-add_findings-in-Each-clause-found t c =
    let schema = c.args.schema.now in
    let typing = c.args.typing.now in
    let before = c.args.found.now in
    let e = c.in-Each in
    c.in_ok-add_findings-in-Each.ensures.found
    ∙ ap (λ body. before ++ findings schema body c.bind.new.typing) c.as_slice-in-Each.ensures
    ∙ ap (λ bound. before ++ findings schema e.body bound) c.in_ok-bind-in-Each.ensures
    ∙ ap (λ found. before ++ found) (sym (ap (λ n. found_in schema n typing) e.is
    ∙ each_found schema e.at e.list e.name e.body typing c.in-Ok.item (sym c.in_ok-item-in-Each.ensures ∙ c.in-Ok.is)))

pub add_found-returns-in_ok-add_key-in-Cache-clause-found : goal.add_found-returns-in_ok-add_key-in-Cache-clause-found
add_found-returns-in_ok-add_key-in-Cache-clause-found t c =
    let schema = c.args.schema.now in
    let typing = c.args.typing.now in
    let before = c.args.found.now in
    let e = c.in-Cache in
    let same : c.add_key.new.found ++ findings schema c.as_slice-in-Cache-2.result.now typing ≡ before ++ found_in schema c.args.node.now typing =
    ap (λ body. c.add_key.new.found ++ findings schema body typing) c.as_slice-in-Cache-2.ensures
    ∙ ap (λ found. found ++ findings schema e.body typing) c.in_ok-add_key-in-Cache.ensures
    ∙ ap (λ key. (before ++ flat_map (part_found schema typing e.at) key) ++ findings schema e.body typing) c.as_slice-in-Cache.ensures
    ∙ append_assoc before (flat_map (part_found schema typing e.at) e.key) (findings schema e.body typing)
    ∙ ap (λ found. before ++ found) (sym (ap (λ n. found_in schema n typing) e.is ∙ cache_found schema e.at e.block e.key e.body typing)) in
    subst (λ found. OnOk c.add_findings-in-Cache.result (c.add_findings-in-Cache.new.found ≡ found)) same c.add_findings-in-Cache.ensures.found
