use Rattle.std.proofs.Common.{◌≡◌, ℕ, List, ◌<◌, length, ◌++◌, ◌∷◌, [], ap, sym, subst, refl, ◌∙◌, rules, arith, get_or, take_all, Ok, OnOk, true, false}
use Rattle.std.proofs.lemmas.List.{append-nil}
use Rattle.std.specs.Prelude.{IsSome}
use Rattle.doll_erb.specs.declared.node.Node as node
use Rattle.doll_schema.specs.declared.value.Val.{Val}
use Rattle.doll_schema.specs.declared.value.Val.TheVariants as val
use Rattle.doll_table.specs.Tables.{row_of}
use Rattle.doll_eval.proofs.Livings.{bound_live}
use Rattle.doll_plain.specs.Direct.{collection_writes, direct, each_writes, if_writes, locals_in, tag_writes, written}
use Rattle.doll_plain.specs.Pages.{levels_write, scene_of}
use Rattle.doll_plain.proofs.Parts.{alone_lives, living_along, front_is}
use Rattle.doll_plain.proofs.Choices.{choosing_here, choosing_on, choosing_last, collection_none, collection_record, each_record, for_records, moved, no_records, no_tag, node_more, record_more, tested_along, written_cache, written_collection, written_each, written_if, written_partial, tag_collection, tag_partial}
use Rattle.doll_plain.proofs.Depths.{arm_left, body_left, cache_below, each_below, if_left, node_left, otherwise_left, part_left, partial_left, tag_left, tree_left}
use Rattle.doll_plain.proofs.Templates.{found_there, no_level, no_template, not_there, partial_along, template_more, unknown_partial}
use Rattle.doll_plain.proofs.render.+render.Goals as goal

-- ---- what is left

pub render_template-render-requires : goal.render_template-render-requires
render_template-render-requires g t c κs within =
    let there = found_there c.args.set.now.templates c.templates.result.now c.args.number c.in-Some.template.now c.templates.ensures.value c.in-Some.ensures.lookup.0 c.in-Some.ensures.lookup.1 in
    let below = tree_left c.args.levels c.args.set.now.templates c.args.number c.in-Some.template.now c.as_slice.result.now c.if-levels-eq0.false there c.as_slice.ensures in
    (first_of (omega (arith, below), grind (arith, below)), (search rules, (search rules, c.requires.living)))

pub render-render_node-requires : goal.render-render_node-requires
render-render_node-requires g t c κs within =
    let below = node_left c.args.context.now.levels c.args.context.now.set.now.templates c.args.nodes.now c.loop-node.node-index c.node-item.result c.loop-node-test.true c.node-item.is in
    (first_of (omega (arith, below), grind (arith, below)), (search rules, (search rules, living_along (g.R.Rows.table c.loop-node.rows) (g.R.Rows.table c.args.rows.now) c.loop-node.vars c.args.vars.now c.loop-node.invariant.table c.loop-node.invariant.vars c.requires.living)))

pub render_node-render_if-requires : goal.render_node-render_if-requires
render_node-render_if-requires g t c κs within =
    let below = if_left c.args.context.now.levels c.args.context.now.set.now.templates c.in-If.at c.in-If.arms c.in-If.otherwise c.args.node.now c.in-If.is in
    (first_of (omega (arith, below), grind (arith, below)), (search rules, (search rules, search rules)))

pub render_node-render_tag-requires : goal.render_node-render_tag-requires
render_node-render_tag-requires g t c κs within =
    let below = tag_left c.args.context.now.levels c.args.context.now.set.now.templates c.args.node.now in
    (first_of (omega (arith, below), grind (arith, below)), (search rules, (search rules, search rules)))

pub render_node-render_tag-requires-in-Collection : goal.render_node-render_tag-requires-in-Collection
render_node-render_tag-requires-in-Collection g t c κs within =
    let below = tag_left c.args.context.now.levels c.args.context.now.set.now.templates c.args.node.now in
    (first_of (omega (arith, below), grind (arith, below)), (search rules, (search rules, search rules)))

pub render_if-render-requires : goal.render_if-render-requires
render_if-render-requires g t c κs within =
    let below = arm_left c.args.context.now.levels c.args.context.now.set.now.templates c.args.arms.now c.as_slice-arm-items.result.now c.args.otherwise.now c.loop-arm.arm-index c.arm-item.result c.as_slice.result.now c.loop-arm-test.true c.arm-item.is c.as_slice-arm-items.ensures c.as_slice.ensures in (
      first_of (omega (arith, below), grind (arith, below)),
      (search rules, (search rules, living_along (g.R.Rows.table c.holds.new.rows) (g.R.Rows.table c.args.rows.now) c.loop-arm.vars c.args.vars.now (c.holds.ensures.table ∙ c.loop-arm.invariant.table) c.loop-arm.invariant.vars c.requires.living)),
    )

pub render_if-render-requires-2 : goal.render_if-render-requires-2
render_if-render-requires-2 g t c κs within =
    let below = otherwise_left c.args.context.now.levels c.args.context.now.set.now.templates c.args.arms.now c.args.otherwise.now c.as_slice-2.result.now c.as_slice-2.ensures in (
      first_of (omega (arith, below), grind (arith, below)),
      (search rules, (search rules, living_along (g.R.Rows.table c.loop-arm.rows) (g.R.Rows.table c.args.rows.now) c.loop-arm.vars c.args.vars.now c.loop-arm.invariant.table c.loop-arm.invariant.vars c.requires.living)),
    )

pub render_tag-render_partial-requires : goal.render_tag-render_partial-requires
render_tag-render_partial-requires g t c κs within =
    let below = partial_left c.args.context.now.levels c.args.context.now.set.now.templates 1 2 (omega arith) in
    (first_of (omega (arith, below), grind (arith, below)), (search rules, (search rules, search rules)))

pub render_tag-render_collection-requires : goal.render_tag-render_collection-requires
render_tag-render_collection-requires g t c κs within =
    let below = partial_left c.args.context.now.levels c.args.context.now.set.now.templates 1 2 (omega arith) in
    (first_of (omega (arith, below), grind (arith, below)), (search rules, (search rules, search rules)))

pub render_node-render-requires : goal.render_node-render-requires
render_node-render-requires g t c κs within =
    let below = part_left c.args.context.now.levels c.args.context.now.set.now.templates c.in-Cache.body c.as_slice-in-Cache.result.now (node.Cache c.in-Cache.at c.in-Cache.block c.in-Cache.key c.in-Cache.body) c.args.node.now 4 (omega arith) (cache_below c.in-Cache.at c.in-Cache.block c.in-Cache.key c.in-Cache.body) c.as_slice-in-Cache.ensures c.in-Cache.is in
    (first_of (omega (arith, below), grind (arith, below)), (search rules, (search rules, search rules)))

pub render_node-render_each-requires : goal.render_node-render_each-requires
render_node-render_each-requires g t c κs within =
    let below = part_left c.args.context.now.levels c.args.context.now.set.now.templates c.in-Each.body c.as_slice.result.now (node.Each c.in-Each.at c.in-Each.list c.in-Each.name c.in-Each.body) c.args.node.now 5 (omega arith) (each_below c.in-Each.at c.in-Each.list c.in-Each.name c.in-Each.body) c.as_slice.ensures c.in-Each.is in
    (first_of (omega (arith, below), grind (arith, below)), (search rules, (search rules, search rules)))

pub render_each-render-requires : goal.render_each-render-requires
render_each-render-requires g t c κs within =
    let table = g.R.Rows.table c.args.rows.now in
    let model = c.in_ok-model.field-0.model in
    let items = c.as_slice-id-items.result.now in
    let one : Val = val.Record model (get_or items c.loop-id.id-index 0) in
    let items_are : c.in_ok-model.field-0.ids ≡ items = cc c.as_slice-id-items.ensures in
    let lives : IsSome (row_of table model (get_or items c.loop-id.id-index 0)) =
    subst (λ ids. IsSome (row_of table model (get_or ids c.loop-id.id-index 0))) items_are
    (c.in_ok-model.ensures.living c.loop-id.id-index 0 (subst (λ ids. c.loop-id.id-index < length ids) (sym items_are) c.loop-id-test.true)) in
    let below = body_left c.args.context.now.levels c.args.context.now.set.now.templates c.args.body.now in (
      first_of (omega (arith, below), grind (arith, below)),
      (
        search rules,
        (
          search rules,
          living_along (g.R.Rows.table c.loop-id.rows) table c.bind.new.vars (c.args.vars.now ++ (c.args.name.now, one) ∷ []) c.loop-id.invariant.table
              (c.in_ok-bind.ensures ∙ ap (λ vars. vars ++ (c.args.name.now, one) ∷ []) c.loop-id.invariant.vars)
              (bound_live table c.args.vars.now c.args.name.now one c.requires.living lives),
        ),
      ),
    )

pub render_partial-render_template-requires : goal.render_partial-render_template-requires
render_partial-render_template-requires g t c κs within =
    let below = partial_left c.args.context.now.levels c.args.context.now.set.now.templates 0 1 (omega arith) in
    (first_of (omega (arith, below), grind (arith, below)), (search rules, (search rules, living_along (g.R.Rows.table c.locals_of.new.rows) (g.R.Rows.table c.args.rows.now) c.in_ok-own.own c.in_ok-own.own c.locals_of.ensures.table refl c.in_ok-own.ensures.living)))

pub render_collection-render_template-requires : goal.render_collection-render_template-requires
render_collection-render_template-requires g t c κs within =
    let table = g.R.Rows.table c.args.rows.now in
    let model = c.in_ok-model.field-0.model in
    let items = c.as_slice-id-items.result.now in
    let one : Val = val.Record model (get_or items c.loop-id.id-index 0) in
    let items_are : c.in_ok-model.field-0.ids ≡ items = cc c.as_slice-id-items.ensures in
    let lives : IsSome (row_of table model (get_or items c.loop-id.id-index 0)) =
    subst (λ ids. IsSome (row_of table model (get_or ids c.loop-id.id-index 0))) items_are
    (c.in_ok-model.ensures.living c.loop-id.id-index 0 (subst (λ ids. c.loop-id.id-index < length ids) (sym items_are) c.loop-id-test.true)) in
    let below = partial_left c.args.context.now.levels c.args.context.now.set.now.templates 0 1 (omega arith) in (
      first_of (omega (arith, below), grind (arith, below)),
      (
        search rules,
        (search rules, living_along (g.R.Rows.table c.loop-id.rows) table c.in_ok-own.own ((c.args.item.now, one) ∷ []) c.loop-id.invariant.table c.in_ok-own.ensures (alone_lives table c.args.item.now one lives)),
      ),
    )

-- ---- nodes

pub render-loop-node-preserved : goal.render-loop-node-preserved
render-loop-node-preserved g t c = record {
  table = c.render_node.ensures.table ∙ c.loop-node.invariant.table;
  vars = c.in_ok-render_node.ensures.vars ∙ c.loop-node.invariant.vars;
  so_far =
      c.in_ok-render_node.ensures.page
      ∙ node_more (scene_of c.args.context.now) c.args.nodes.now c.loop-node.node-index c.node-item.result c.args.out.now.items c.loop-node.invariant.table c.loop-node.invariant.vars c.loop-node-test.true c.node-item.is c.loop-node.invariant.so_far;
}

pub render_node-returns-in-Cache-clause-page : goal.render_node-returns-in-Cache-clause-page
render_node-returns-in-Cache-clause-page g t c =
    let scene = scene_of c.args.context.now (g.R.Rows.table c.args.rows.now) in
    let same : direct scene c.as_slice-in-Cache.result.now c.args.vars.now ≡ written scene c.args.node.now c.args.vars.now =
    ap (λ b. direct scene b c.args.vars.now) c.as_slice-in-Cache.ensures ∙ sym (ap (λ n. written scene n c.args.vars.now) c.in-Cache.is ∙ written_cache scene c.in-Cache.at c.in-Cache.block c.in-Cache.key c.in-Cache.body c.args.vars.now) in
    subst (λ p. OnOk c.render.result (c.render.new.out.items ≡ c.args.out.now.items ++ p)) same c.render.ensures.page

pub render_node-returns-in-Each-clause-page : goal.render_node-returns-in-Each-clause-page
render_node-returns-in-Each-clause-page g t c =
    let scene = scene_of c.args.context.now (g.R.Rows.table c.args.rows.now) in
    let same : each_writes scene c.in-Each.list c.in-Each.name c.as_slice.result.now c.args.vars.now ≡ written scene c.args.node.now c.args.vars.now =
    ap (λ b. each_writes scene c.in-Each.list c.in-Each.name b c.args.vars.now) c.as_slice.ensures ∙ sym (ap (λ n. written scene n c.args.vars.now) c.in-Each.is ∙ written_each scene c.in-Each.at c.in-Each.list c.in-Each.name c.in-Each.body c.args.vars.now) in
    subst (λ p. OnOk c.render_each.result (c.render_each.new.out.items ≡ c.args.out.now.items ++ p)) same c.render_each.ensures.page

pub render_node-returns-in-If-clause-page : goal.render_node-returns-in-If-clause-page
render_node-returns-in-If-clause-page g t c =
    let variables = c.args.vars.now in
    let scene = scene_of c.args.context.now (g.R.Rows.table c.args.rows.now) in
    let same : if_writes scene c.in-If.arms c.in-If.otherwise variables ≡ written scene c.args.node.now variables =
    sym (ap (λ n. written scene n variables) c.in-If.is ∙ written_if scene c.in-If.at c.in-If.arms c.in-If.otherwise variables) in
    subst (λ p. OnOk c.render_if.result (c.render_if.new.out.items ≡ c.args.out.now.items ++ p)) same c.render_if.ensures.page

pub render_node-returns-in-Render-clause-page : goal.render_node-returns-in-Render-clause-page
render_node-returns-in-Render-clause-page g t c =
    let variables = c.args.vars.now in
    let scene = scene_of c.args.context.now (g.R.Rows.table c.args.rows.now) in
    let same : tag_writes scene c.args.node.now variables ≡ written scene c.args.node.now variables =
    ap (λ n. tag_writes scene n variables) c.in-Render.is
    ∙ sym (ap (λ n. written scene n variables) c.in-Render.is ∙ written_partial scene c.in-Render.at c.in-Render.name c.in-Render.locals variables) in
    subst (λ p. OnOk c.render_tag.result (c.render_tag.new.out.items ≡ c.args.out.now.items ++ p)) same c.render_tag.ensures.page

pub render_node-returns-in-Collection-clause-page : goal.render_node-returns-in-Collection-clause-page
render_node-returns-in-Collection-clause-page g t c =
    let variables = c.args.vars.now in
    let scene = scene_of c.args.context.now (g.R.Rows.table c.args.rows.now) in
    let same : tag_writes scene c.args.node.now variables ≡ written scene c.args.node.now variables =
    ap (λ n. tag_writes scene n variables) c.in-Collection.is
    ∙ sym (ap (λ n. written scene n variables) c.in-Collection.is ∙ written_collection scene c.in-Collection.at c.in-Collection.name c.in-Collection.list c.in-Collection.item c.in-Collection.cached variables) in
    subst (λ p. OnOk c.render_tag-in-Collection.result (c.render_tag-in-Collection.new.out.items ≡ c.args.out.now.items ++ p)) same c.render_tag-in-Collection.ensures.page

pub render_tag-returns-in-Render-clause-page : goal.render_tag-returns-in-Render-clause-page
render_tag-returns-in-Render-clause-page g t c =
    let variables = c.args.vars.now in
    let scene = scene_of c.args.context.now (g.R.Rows.table c.args.rows.now) in
    let same : scene.partial c.in-Render.name (locals_in scene c.as_slice.result.now variables) ≡ tag_writes scene c.args.node.now variables =
    ap (λ locals. scene.partial c.in-Render.name (locals_in scene locals variables)) c.as_slice.ensures
    ∙ sym (ap (λ n. tag_writes scene n variables) c.in-Render.is ∙ tag_partial scene c.in-Render.at c.in-Render.name c.in-Render.locals variables) in
    subst (λ p. OnOk c.render_partial.result (c.render_partial.new.out.items ≡ c.args.out.now.items ++ p)) same c.render_partial.ensures.page

pub render_tag-returns-in-Collection-clause-page : goal.render_tag-returns-in-Collection-clause-page
render_tag-returns-in-Collection-clause-page g t c =
    let variables = c.args.vars.now in
    let scene = scene_of c.args.context.now (g.R.Rows.table c.args.rows.now) in
    let same : collection_writes scene c.in-Collection.name c.in-Collection.list c.in-Collection.item variables ≡ tag_writes scene c.args.node.now variables =
    sym (ap (λ n. tag_writes scene n variables) c.in-Collection.is ∙ tag_collection scene c.in-Collection.at c.in-Collection.name c.in-Collection.list c.in-Collection.item c.in-Collection.cached variables) in
    subst (λ p. OnOk c.render_collection.result (c.render_collection.new.out.items ≡ c.args.out.now.items ++ p)) same c.render_collection.ensures.page

pub render_tag-returns-in_default : goal.render_tag-returns-in_default
render_tag-returns-in_default g t c =
    let nothing = no_tag (scene_of c.args.context.now (g.R.Rows.table c.args.rows.now)) c.args.node.now c.args.vars.now c.in_default.not-Render c.in_default.not-Collection in
    record {
      page = sym (ap (λ w. c.args.out.now.items ++ w) nothing ∙ append-nil c.args.out.now.items);
      table = refl;
    }

-- ---- arms

pub render_if-returns-then-held-clause-page : goal.render_if-returns-then-held-clause-page
render_if-returns-then-held-clause-page g t c =
    let variables = c.args.vars.now in
    let otherwise = c.args.otherwise.now in
    let scene = scene_of c.args.context.now (g.R.Rows.table c.args.rows.now) in
    let tested = tested_along c.in_ok-held.held true c.arm-item.result.test c.args.context.now.schema.now c.loop-arm.invariant.table c.loop-arm.invariant.vars c.if-held.true c.in_ok-held.ensures.value in
    let same : direct scene c.arm-item.result.body variables ≡ if_writes scene c.args.arms.now otherwise variables =
    sym (ap (λ arms. if_writes scene arms otherwise variables) (sym c.as_slice-arm-items.ensures)
    ∙ sym c.loop-arm.invariant.left
    ∙ choosing_here scene c.as_slice-arm-items.result.now otherwise variables c.loop-arm.arm-index c.arm-item.result c.loop-arm-test.true c.arm-item.is tested) in
    subst (λ p. OnOk c.render.result (c.render.new.out.items ≡ c.args.out.now.items ++ p)) same
    (moved c.render.result c.render.new.out.items (scene_of c.args.context.now) (c.holds.ensures.table ∙ c.loop-arm.invariant.table) c.loop-arm.invariant.vars c.as_slice.ensures c.loop-arm.invariant.nothing c.render.ensures.page)

pub render_if-loop-arm-preserved : goal.render_if-loop-arm-preserved
render_if-loop-arm-preserved g t c =
    let scene = scene_of c.args.context.now (g.R.Rows.table c.args.rows.now) in
    let tested = tested_along c.in_ok-held.held false c.arm-item.result.test c.args.context.now.schema.now c.loop-arm.invariant.table c.loop-arm.invariant.vars c.if-held.false c.in_ok-held.ensures.value in
    record {
      table = c.holds.ensures.table ∙ c.loop-arm.invariant.table;
      vars = c.loop-arm.invariant.vars;
      nothing = c.loop-arm.invariant.nothing;
      left = sym (choosing_on scene c.as_slice-arm-items.result.now c.args.otherwise.now c.args.vars.now c.loop-arm.arm-index c.arm-item.result c.loop-arm-test.true c.arm-item.is tested) ∙ c.loop-arm.invariant.left;
    }

pub render_if-returns-clause-page : goal.render_if-returns-clause-page
render_if-returns-clause-page g t c =
    let variables = c.args.vars.now in
    let otherwise = c.args.otherwise.now in
    let scene = scene_of c.args.context.now (g.R.Rows.table c.args.rows.now) in
    let same : direct scene otherwise variables ≡ if_writes scene c.args.arms.now otherwise variables =
    sym (ap (λ arms. if_writes scene arms otherwise variables) (sym c.as_slice-arm-items.ensures)
    ∙ sym c.loop-arm.invariant.left
    ∙ choosing_last scene c.as_slice-arm-items.result.now otherwise variables c.loop-arm.arm-index c.loop-arm-test.false) in
    subst (λ p. OnOk c.render-2.result (c.render-2.new.out.items ≡ c.args.out.now.items ++ p)) same
    (moved c.render-2.result c.render-2.new.out.items (scene_of c.args.context.now) c.loop-arm.invariant.table c.loop-arm.invariant.vars c.as_slice-2.ensures c.loop-arm.invariant.nothing c.render-2.ensures.page)

-- ---- items

pub render_each-loop-id-init : goal.render_each-loop-id-init
render_each-loop-id-init g t c =
    let scene = scene_of c.args.context.now (g.R.Rows.table c.args.rows.now) in
    record {
      table = c.items.ensures.table;
      vars = refl;
      so_far = sym (ap (λ w. c.args.out.now.items ++ w) (no_records (λ item. direct scene c.args.body.now (c.args.vars.now ++ (c.args.name.now, item) ∷ [])) c.in_ok-model.field-0.model) ∙ append-nil c.args.out.now.items);
    }

pub render_each-loop-id-preserved : goal.render_each-loop-id-preserved
render_each-loop-id-preserved g t c =
    let scene = scene_of c.args.context.now (g.R.Rows.table c.args.rows.now) in
    let model = c.in_ok-model.field-0.model in
    let items = c.as_slice-id-items.result.now in
    let one : Val = val.Record model (get_or items c.loop-id.id-index 0) in
    record {
      table = c.render.ensures.table ∙ c.loop-id.invariant.table;
      vars =
          c.unbind.ensures
          ∙ sym (front_is c.render.new.vars c.loop-id.vars (c.args.name.now, one) (c.in_ok-render.ensures.vars ∙ c.in_ok-bind.ensures))
          ∙ c.loop-id.invariant.vars;
      so_far =
          moved (Ok tt) c.render.new.out.items (scene_of c.args.context.now) c.loop-id.invariant.table
          (c.in_ok-bind.ensures ∙ ap (λ vars. vars ++ (c.args.name.now, one) ∷ []) c.loop-id.invariant.vars)
          refl c.loop-id.invariant.so_far c.in_ok-render.ensures.page
          ∙ sym (record_more (λ item. direct scene c.args.body.now (c.args.vars.now ++ (c.args.name.now, item) ∷ [])) model items c.args.out.now.items c.loop-id.id-index c.loop-id-test.true);
    }

pub render_each-returns-clause-page : goal.render_each-returns-clause-page
render_each-returns-clause-page g t c =
    let variables = c.args.vars.now in
    let before = c.args.out.now.items in
    let scene = scene_of c.args.context.now (g.R.Rows.table c.args.rows.now) in
    let model = c.in_ok-model.field-0.model in
    let ids = c.in_ok-model.field-0.ids in
    let items = c.as_slice-id-items.result.now in
    let items_are : items ≡ ids = cc c.as_slice-id-items.ensures in
    c.loop-id.invariant.so_far
    ∙ ap (λ done. before ++ for_records (λ item. direct scene c.args.body.now (variables ++ (c.args.name.now, item) ∷ [])) model done) (take_all c.loop-id.id-index items c.loop-id-test.false ∙ items_are)
    ∙ ap (λ w. before ++ w) (sym (each_record scene c.args.list.now c.args.name.now c.args.body.now variables model ids c.in_ok-model.ensures.value))

pub render_collection-loop-id-init : goal.render_collection-loop-id-init
render_collection-loop-id-init g t c =
    let scene = scene_of c.args.context.now (g.R.Rows.table c.args.rows.now) in
    record {
      table = c.items.ensures.table;
      so_far = sym (ap (λ w. c.args.out.now.items ++ w) (no_records (λ one. scene.partial c.args.name.now ((c.args.item.now, one) ∷ [])) c.in_ok-model.field-0.model) ∙ append-nil c.args.out.now.items);
    }

pub render_collection-loop-id-preserved : goal.render_collection-loop-id-preserved
render_collection-loop-id-preserved g t c =
    let table = g.R.Rows.table c.args.rows.now in
    let scene = scene_of c.args.context.now table in
    let model = c.in_ok-model.field-0.model in
    let items = c.as_slice-id-items.result.now in
    let one : Val = val.Record model (get_or items c.loop-id.id-index 0) in
    let before = c.args.out.now.items in
    let writes : Val → List ℕ = λ one. scene.partial c.args.name.now ((c.args.item.now, one) ∷ []) in
    let written_one = partial_along c.args.context.now.schema.now c.args.context.now.set.now.templates c.args.context.now.levels c.args.context.now.number c.in-Some.partial c.as_bytes.ensures c.loop-id.invariant.table c.in_ok-own.ensures (sym c.in_ok-partial.ensures ∙ c.in-Some.is) in
    record {
      table = c.render_template.ensures.table ∙ c.loop-id.invariant.table;
      so_far =
          c.in_ok-render_template.ensures.page
          ∙ ap (λ w. c.loop-id.out.items ++ w) written_one
          ∙ ap (λ b. b ++ writes one) c.loop-id.invariant.so_far
          ∙ sym (record_more writes model items before c.loop-id.id-index c.loop-id-test.true);
    }

pub render_collection-returns-clause-page : goal.render_collection-returns-clause-page
render_collection-returns-clause-page g t c =
    let before = c.args.out.now.items in
    let scene = scene_of c.args.context.now (g.R.Rows.table c.args.rows.now) in
    let model = c.in_ok-model.field-0.model in
    let ids = c.in_ok-model.field-0.ids in
    let items = c.as_slice-id-items.result.now in
    let items_are : items ≡ ids = cc c.as_slice-id-items.ensures in
    c.loop-id.invariant.so_far
    ∙ ap (λ done. before ++ for_records (λ one. scene.partial c.args.name.now ((c.args.item.now, one) ∷ [])) model done) (take_all c.loop-id.id-index items c.loop-id-test.false ∙ items_are)
    ∙ ap (λ w. before ++ w) (sym (collection_record scene c.args.name.now c.args.list.now c.args.item.now c.args.vars.now model ids c.in_ok-model.ensures.value))

pub render_collection-returns-in_default-clause-page : goal.render_collection-returns-in_default-clause-page
render_collection-returns-in_default-clause-page g t c =
    let scene = scene_of c.args.context.now (g.R.Rows.table c.args.rows.now) in
    sym (ap (λ w. c.args.out.now.items ++ w) (collection_none scene c.args.name.now c.args.list.now c.args.item.now c.args.vars.now
    (λ variables. unknown_partial c.args.context.now.schema.now (g.R.Rows.table c.args.rows.now) c.args.context.now.set.now.templates c.args.context.now.levels c.args.context.now.number variables c.as_bytes.ensures (sym c.in_ok-partial.ensures ∙ c.in_default.is)))
    ∙ append-nil c.args.out.now.items)

-- ---- partials

pub render_partial-returns-clause-page : goal.render_partial-returns-clause-page
render_partial-returns-clause-page g t c =
    let same = partial_along c.args.context.now.schema.now c.args.context.now.set.now.templates c.args.context.now.levels c.args.context.now.number c.in-Some.partial c.as_bytes.ensures c.locals_of.ensures.table c.in_ok-own.ensures.value (sym c.in_ok-partial.ensures ∙ c.in-Some.is) in
    subst (λ p. OnOk c.render_template.result (c.render_template.new.out.items ≡ c.args.out.now.items ++ p)) same c.render_template.ensures.page

pub render_partial-returns-in_default-clause-page : goal.render_partial-returns-in_default-clause-page
render_partial-returns-in_default-clause-page g t c =
    let scene = scene_of c.args.context.now (g.R.Rows.table c.args.rows.now) in
    sym (ap (λ w. c.args.out.now.items ++ w)
    (unknown_partial c.args.context.now.schema.now (g.R.Rows.table c.args.rows.now) c.args.context.now.set.now.templates c.args.context.now.levels c.args.context.now.number (locals_in scene c.args.locals.now c.args.vars.now) c.as_bytes.ensures (sym c.in_ok-partial.ensures ∙ c.in_default.is))
    ∙ append-nil c.args.out.now.items)

-- ---- templates

pub render_template-returns-then-levels-eq0-clause-page : goal.render_template-returns-then-levels-eq0-clause-page
render_template-returns-then-levels-eq0-clause-page g t c =
    let schema = c.args.schema.now in
    let templates = c.args.set.now.templates in
    let table = g.R.Rows.table c.args.rows.now in
    let before = c.args.out.now.items in
    sym (ap (λ levels. before ++ levels_write schema table templates levels c.args.number c.args.vars) c.if-levels-eq0.true
    ∙ ap (λ w. before ++ w) (no_level schema table templates c.args.number c.args.vars)
    ∙ append-nil before)

pub render_template-returns-in_default-clause-page : goal.render_template-returns-in_default-clause-page
render_template-returns-in_default-clause-page g t c =
    let missing = not_there c.args.set.now.templates c.templates.result.now c.args.number c.templates.ensures.value c.in_default.ensures.lookup.0 in
    sym (ap (λ w. c.args.out.now.items ++ w) (no_template c.args.schema.now (g.R.Rows.table c.args.rows.now) c.args.set.now.templates c.args.levels c.args.number c.args.vars missing)
    ∙ append-nil c.args.out.now.items)

pub render_template-returns-clause-page : goal.render_template-returns-clause-page
render_template-returns-clause-page g t c =
    let schema = c.args.schema.now in
    let templates = c.args.set.now.templates in
    let table = g.R.Rows.table c.args.rows.now in
    let there = found_there templates c.templates.result.now c.args.number c.in-Some.template.now c.templates.ensures.value c.in-Some.ensures.lookup.0 c.in-Some.ensures.lookup.1 in
    let same = template_more schema table templates c.args.levels c.args.number c.args.vars c.in-Some.template.now c.as_slice.result.now c.if-levels-eq0.false there c.as_slice.ensures in
    subst (λ p. OnOk c.render.result (c.render.new.out.items ≡ c.args.out.now.items ++ p)) same c.render.ensures.page
