use Rattle.std.proofs.Common.{◌++◌, ◌∷◌, [], ap, sym, subst, ◌∙◌, take, take_all}
use Rattle.doll_lint.specs.Blocks.{arms_blocks, node_blocks, nodes_blocks, tag_block}
use Rattle.doll_lint.specs.Found.{Grows}
use Rattle.doll_lint.proofs.Blocks.{cache_blocks, each_some, grows_as, grows_ok, if_blocks, more_grows}
use Rattle.doll_lint.proofs.walk.+walk.Goals as goal

pub add_blocks-loop-node-preserved : goal.add_blocks-loop-node-preserved
add_blocks-loop-node-preserved t c =
    let ground = c.args.ground.now in
    let typing = c.args.typing.now in
    let blocks = node_blocks ground.schema.now ground.set.now.templates ground.number in
    record {
      typing = c.in_ok-add_node_blocks.ensures.typing ∙ c.loop-node.invariant.typing;
      found =
          more_grows ground.set.now ground.schema.now (λ one. blocks one typing) c.args.nodes.now c.loop-node.node-index c.node-item.result c.args.found.now c.loop-node.found c.add_node_blocks.new.found
          c.loop-node-test.true c.node-item.is c.loop-node.invariant.found
          (subst (λ ty. Grows ground.set.now ground.schema.now (blocks c.node-item.result ty) c.loop-node.found c.add_node_blocks.new.found) c.loop-node.invariant.typing c.in_ok-add_node_blocks.ensures.found);
    }

pub add_node_blocks-returns-after-loop-arm-clause-found : goal.add_node_blocks-returns-after-loop-arm-clause-found
add_node_blocks-returns-after-loop-arm-clause-found t c =
    let g = c.args.ground.now in
    let typing = c.args.typing.now in
    let e = c.in-If in
    let arms = arms_blocks g.schema.now g.set.now.templates g.number in
    let nodes = nodes_blocks g.schema.now g.set.now.templates g.number in
    grows_ok g.set.now g.schema.now c.add_blocks-in-If.result (arms (take c.loop-arm.arm-index c.as_slice-arm-items.result.now) typing) (nodes c.as_slice-in-If.result.now c.loop-arm.typing)
    (node_blocks g.schema.now g.set.now.templates g.number c.args.node.now typing) c.args.found.now c.loop-arm.found c.add_blocks-in-If.new.found c.loop-arm.invariant.found c.add_blocks-in-If.ensures.found
    (ap (λ a. arms a typing ++ nodes c.as_slice-in-If.result.now c.loop-arm.typing) (take_all c.loop-arm.arm-index c.as_slice-arm-items.result.now c.loop-arm-test.false ∙ c.as_slice-arm-items.ensures)
    ∙ ap (λ n. arms e.arms typing ++ nodes n c.loop-arm.typing) c.as_slice-in-If.ensures
    ∙ ap (λ t. arms e.arms typing ++ nodes e.otherwise t) c.loop-arm.invariant.typing
    ∙ sym (ap (λ n. node_blocks g.schema.now g.set.now.templates g.number n typing) e.is ∙ if_blocks g.schema.now g.set.now.templates g.number e.at e.arms e.otherwise typing))

pub add_node_blocks-returns-in_ok-add_blocks-in-Each-clause-found : goal.add_node_blocks-returns-in_ok-add_blocks-in-Each-clause-found
add_node_blocks-returns-in_ok-add_blocks-in-Each-clause-found t c =
    let g = c.args.ground.now in
    let typing = c.args.typing.now in
    let e = c.in-Each in
    let nodes = nodes_blocks g.schema.now g.set.now.templates g.number in
    grows_as g.set.now g.schema.now (nodes c.as_slice-in-Each.result.now c.bind_type.new.typing) (node_blocks g.schema.now g.set.now.templates g.number c.args.node.now typing) c.args.found.now c.add_blocks-in-Each.new.found
    (ap (λ b. nodes b c.bind_type.new.typing) c.as_slice-in-Each.ensures
    ∙ ap (λ t. nodes e.body t) c.in_ok-bind_type-in-Each.ensures
    ∙ sym (ap (λ n. node_blocks g.schema.now g.set.now.templates g.number n typing) e.is
    ∙ each_some g.schema.now g.set.now.templates g.number e.at e.list e.name e.body typing c.in-Ok.item (sym c.in_ok-item-in-Each.ensures ∙ c.in-Ok.is)))
    c.in_ok-add_blocks-in-Each.ensures.found

pub add_node_blocks-returns-in_ok-add_tag-in-Cache-clause-found : goal.add_node_blocks-returns-in_ok-add_tag-in-Cache-clause-found
add_node_blocks-returns-in_ok-add_tag-in-Cache-clause-found t c =
    let g = c.args.ground.now in
    let typing = c.args.typing.now in
    let e = c.in-Cache in
    let nodes = nodes_blocks g.schema.now g.set.now.templates g.number in
    grows_ok g.set.now g.schema.now c.add_blocks-in-Cache.result (tag_block g.number e.block e.at typing e.key c.as_slice-in-Cache.result.now ∷ []) (nodes c.as_slice-in-Cache-2.result.now typing)
    (node_blocks g.schema.now g.set.now.templates g.number c.args.node.now typing) c.args.found.now c.add_tag.new.found c.add_blocks-in-Cache.new.found c.in_ok-add_tag-in-Cache.ensures c.add_blocks-in-Cache.ensures.found
    (ap (λ b. tag_block g.number e.block e.at typing e.key b ∷ nodes c.as_slice-in-Cache-2.result.now typing) c.as_slice-in-Cache.ensures
    ∙ ap (λ b. tag_block g.number e.block e.at typing e.key e.body ∷ nodes b typing) c.as_slice-in-Cache-2.ensures
    ∙ sym (ap (λ n. node_blocks g.schema.now g.set.now.templates g.number n typing) e.is ∙ cache_blocks g.schema.now g.set.now.templates g.number e.at e.block e.key e.body typing))
