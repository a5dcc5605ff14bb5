use Rattle.std.proofs.Common.{◌≡◌, ◌++◌, ◌∷◌, [], ap, sym, subst, ◌∙◌, arith, Some, OnOk}
use Rattle.doll_erb.specs.declared.node.Node as node
use Rattle.std.proofs.lemmas.List.{append-nil}
use Rattle.doll_lint.specs.declared.needs.Scope.{Scope}
use Rattle.doll_lint.specs.Needs.{arms_need, bound, collection_needs, each_body_needs, levels_need, local_needs, local_standing, looking_wants, needs_at, node_needs, only, place, render_needs, setting_of, tree_needs}
use Rattle.doll_lint.specs.Readings.{reading_of}
use Rattle.std.specs.List.{flat_map}
use Rattle.doll_lint.proofs.Depths.{arm_body_left, arms_left, body_left, cache_below, each_below, node_left, otherwise_below, part_left, partial_left, tag_left, tree_left}
use Rattle.doll_lint.proofs.Nodes.{collection_none, collection_some, each_none, each_some, then_is, then_ok, render_none, render_some, needed_cache, needed_if}
use Rattle.doll_lint.proofs.Templates.{found_there, no_level, no_partial, no_template, not_there, partial_along}
use Rattle.doll_lint.proofs.needs.+needs.Goals as goal

-- ---- what is left

pub add_template_needs-add_needs-requires : goal.add_template_needs-add_needs-requires
add_template_needs-add_needs-requires t c =
    let there = found_there c.args.set.now.templates c.templates.result.now c.args.number c.in-Some.template.now c.templates.ensures.value c.in-Some.ensures.lookup.0 c.in-Some.ensures.lookup.1 in
    let below = tree_left c.args.levels c.args.set.now.templates c.args.number c.in-Some.template.now c.as_slice.result.now c.if-levels-eq0.false there c.as_slice.ensures in
    first_of (omega (arith, below), grind (arith, below))

pub add_needs-add_node_needs-requires : goal.add_needs-add_node_needs-requires
add_needs-add_node_needs-requires t c =
    let below = node_left c.args.setting.now.levels c.args.setting.now.set.now.templates c.args.nodes.now c.loop-node.node-index c.node-item.result c.loop-node-test.true c.node-item.is in
    first_of (omega (arith, below), grind (arith, below))

pub add_node_needs-add_needs-requires : goal.add_node_needs-add_needs-requires
add_node_needs-add_needs-requires t c =
    let below = part_left c.args.setting.now.levels c.args.setting.now.set.now.templates c.in-If.otherwise c.as_slice-in-If.result.now (node.If c.in-If.at c.in-If.arms c.in-If.otherwise) c.args.node.now 3 (omega arith) (otherwise_below c.in-If.at c.in-If.arms c.in-If.otherwise) c.as_slice-in-If.ensures c.in-If.is in
    first_of (omega (arith, below), grind (arith, below))

pub add_node_needs-add_needs-requires-in-Cache : goal.add_node_needs-add_needs-requires-in-Cache
add_node_needs-add_needs-requires-in-Cache t c =
    let below = part_left c.args.setting.now.levels c.args.setting.now.set.now.templates c.in-Cache.body c.as_slice-in-Cache.result.now (node.Cache c.in-Cache.at c.in-Cache.block c.in-Cache.key c.in-Cache.body) c.args.node.now 3 (omega arith) (cache_below c.in-Cache.at c.in-Cache.block c.in-Cache.key c.in-Cache.body) c.as_slice-in-Cache.ensures c.in-Cache.is in
    first_of (omega (arith, below), grind (arith, below))

pub add_node_needs-add_each_needs-requires : goal.add_node_needs-add_each_needs-requires
add_node_needs-add_each_needs-requires t c =
    let below = part_left c.args.setting.now.levels c.args.setting.now.set.now.templates c.in-Each.body c.as_slice-in-Each.result.now (node.Each c.in-Each.at c.in-Each.list c.in-Each.name c.in-Each.body) c.args.node.now 4 (omega arith) (each_below c.in-Each.at c.in-Each.list c.in-Each.name c.in-Each.body) c.as_slice-in-Each.ensures c.in-Each.is in
    first_of (omega (arith, below), grind (arith, below))

pub add_node_needs-add_render_needs-requires : goal.add_node_needs-add_render_needs-requires
add_node_needs-add_render_needs-requires t c =
    let below = tag_left c.args.setting.now.levels c.args.setting.now.set.now.templates c.args.node.now in
    first_of (omega (arith, below), grind (arith, below))

pub add_node_needs-add_collection_needs-requires : goal.add_node_needs-add_collection_needs-requires
add_node_needs-add_collection_needs-requires t c =
    let below = tag_left c.args.setting.now.levels c.args.setting.now.set.now.templates c.args.node.now in
    first_of (omega (arith, below), grind (arith, below))

pub add_each_needs-add_needs-requires : goal.add_each_needs-add_needs-requires
add_each_needs-add_needs-requires t c =
    let below = body_left c.args.setting.now.levels c.args.setting.now.set.now.templates c.args.body.now in
    first_of (omega (arith, below), grind (arith, below))

pub add_render_needs-add_template_needs-requires : goal.add_render_needs-add_template_needs-requires
add_render_needs-add_template_needs-requires t c =
    let below = partial_left c.args.setting.now.levels c.args.setting.now.set.now.templates in
    first_of (omega (arith, below), grind (arith, below))

pub add_collection_needs-add_template_needs-requires : goal.add_collection_needs-add_template_needs-requires
add_collection_needs-add_template_needs-requires t c =
    let below = partial_left c.args.setting.now.levels c.args.setting.now.set.now.templates in
    first_of (omega (arith, below), grind (arith, below))

pub add_node_needs-add_arms_needs-requires : goal.add_node_needs-add_arms_needs-requires
add_node_needs-add_arms_needs-requires t c =
    let below = arms_left c.args.setting.now.levels c.args.setting.now.set.now.templates c.in-If.at c.in-If.arms c.as_slice.result.now c.in-If.otherwise c.args.node.now c.as_slice.ensures c.in-If.is in
    first_of (omega (arith, below), grind (arith, below))

pub add_arms_needs-add_needs-requires : goal.add_arms_needs-add_needs-requires
add_arms_needs-add_needs-requires t c =
    let below = arm_body_left c.args.setting.now.levels c.args.setting.now.set.now.templates c.args.arms.now c.loop-arm.arm-index c.arm-item.result c.as_slice.result.now c.loop-arm-test.true c.arm-item.is c.as_slice.ensures in
    first_of (omega (arith, below), grind (arith, below))

-- ---- templates

pub add_template_needs-returns-then-levels-eq0 : goal.add_template_needs-returns-then-levels-eq0
add_template_needs-returns-then-levels-eq0 t c =
    sym (ap (λ n. c.args.needs.now ++ n) (no_level c.args.schema.now c.args.set.now.templates c.args.levels c.args.number c.args.outer c.args.scope.typing c.args.scope.standing c.if-levels-eq0.true) ∙ append-nil c.args.needs.now)

pub add_template_needs-returns-in_default : goal.add_template_needs-returns-in_default
add_template_needs-returns-in_default t c =
    sym (ap (λ n. c.args.needs.now ++ n) (no_template c.args.schema.now c.args.set.now.templates c.args.levels c.args.number c.args.outer c.args.scope.typing c.args.scope.standing (not_there c.args.set.now.templates c.templates.result.now c.args.number c.templates.ensures.value c.in_default.ensures.lookup.0)) ∙ append-nil c.args.needs.now)

-- ---- collections

pub add_collection_needs-returns-in_default : goal.add_collection_needs-returns-in_default
add_collection_needs-returns-in_default t c =
    c.in_ok-paths.ensures.needs
    ∙ ap (λ n. c.args.needs.now ++ n) (collection_none (setting_of c.args.setting.now) c.args.at c.args.name.now c.args.list.now c.args.item.now c.args.setting.now.outer c.args.scope.now.typing c.args.scope.now.standing c.in_default.field-0 (sym c.in_ok-of.ensures ∙ c.in_default.is))

pub add_collection_needs-returns-in_default-2 : goal.add_collection_needs-returns-in_default-2
add_collection_needs-returns-in_default-2 t c =
    let setting = c.args.setting.now in
    let reading = reading_of setting.schema.now c.args.scope.now.typing c.args.scope.now.standing c.args.list.now in
    let listed = needs_at (place setting.outer c.args.at) (looking_wants reading) in
    c.in_ok-paths.ensures.needs
    ∙ ap (λ n. c.args.needs.now ++ n)
    (sym (append-nil listed)
    ∙ ap (λ n. listed ++ n) (sym (no_partial setting.schema.now setting.set.now.templates setting.levels setting.number c.args.name.now (Some (place setting.outer c.args.at)) ((c.args.item.now, c.in-Ok.of) ∷ []) ((c.args.item.now, reading.paths) ∷ []) (sym c.in_ok-partial.ensures ∙ c.in_default-2.is)))
    ∙ collection_some (setting_of setting) c.args.at c.args.name.now c.args.list.now c.args.item.now setting.outer c.args.scope.now.typing c.args.scope.now.standing c.in-Ok.of (sym c.in_ok-of.ensures ∙ c.in-Ok.is))

pub add_collection_needs-returns : goal.add_collection_needs-returns
add_collection_needs-returns t c =
    let setting = c.args.setting.now in
    let reading = reading_of setting.schema.now c.args.scope.now.typing c.args.scope.now.standing c.args.list.now in
    let listed = needs_at (place setting.outer c.args.at) (looking_wants reading) in
    let own : Scope = only c.args.item.now c.in-Ok.of reading.paths in
    let partial = partial_along setting.schema.now setting.set.now.templates setting.levels setting.number c.in-Some.partial c.args.name.now c.lead.result (Some (place setting.outer c.args.at)) c.in_ok-own.own own c.lead.ensures (c.in_ok-own.ensures ∙ ap (only c.args.item.now c.in-Ok.of) c.in_ok-paths.ensures.paths) (sym c.in_ok-partial.ensures ∙ c.in-Some.is) in
    then_ok c.add_template_needs.result c.add_template_needs.new.needs c.args.needs.now c.add_looking_needs.new.needs listed
    (levels_need setting.schema.now setting.set.now.templates setting.levels c.in-Some.partial c.lead.result c.in_ok-own.own.typing c.in_ok-own.own.standing)
    ((setting_of setting).partial c.args.name.now (Some (place setting.outer c.args.at)) own.typing own.standing)
    (collection_needs (setting_of setting) c.args.at c.args.name.now c.args.list.now c.args.item.now setting.outer c.args.scope.now.typing c.args.scope.now.standing)
    c.add_template_needs.ensures c.in_ok-paths.ensures.needs partial
    (collection_some (setting_of setting) c.args.at c.args.name.now c.args.list.now c.args.item.now setting.outer c.args.scope.now.typing c.args.scope.now.standing c.in-Ok.of (sym c.in_ok-of.ensures ∙ c.in-Ok.is))

-- ---- renders

pub add_render_needs-returns-in_default : goal.add_render_needs-returns-in_default
add_render_needs-returns-in_default t c =
    c.in_ok-standing.ensures.needs
    ∙ ap (λ n. c.args.needs.now ++ n) (render_none (setting_of c.args.setting.now) c.args.at c.args.name.now c.args.locals.now c.args.setting.now.outer c.args.scope.now.typing c.args.scope.now.standing c.in_default.field-0 (sym c.in_ok-typing.ensures ∙ c.in_default.is))

pub add_render_needs-returns-in_default-2 : goal.add_render_needs-returns-in_default-2
add_render_needs-returns-in_default-2 t c =
    let setting = c.args.setting.now in
    let typing = c.args.scope.now.typing in
    let standing = c.args.scope.now.standing in
    let listed = flat_map (local_needs setting.schema.now typing standing (place setting.outer c.args.at)) c.args.locals.now in
    c.in_ok-standing.ensures.needs
    ∙ ap (λ n. c.args.needs.now ++ n)
    (sym (append-nil listed)
    ∙ ap (λ n. listed ++ n) (sym (no_partial setting.schema.now setting.set.now.templates setting.levels setting.number c.args.name.now (Some (place setting.outer c.args.at)) c.in-Ok.typing (local_standing setting.schema.now typing standing c.args.locals.now) (sym c.in_ok-partial.ensures ∙ c.in_default-2.is)))
    ∙ render_some (setting_of setting) c.args.at c.args.name.now c.args.locals.now setting.outer typing standing c.in-Ok.typing (sym c.in_ok-typing.ensures ∙ c.in-Ok.is))

pub add_render_needs-returns : goal.add_render_needs-returns
add_render_needs-returns t c =
    let setting = c.args.setting.now in
    let typing = c.args.scope.now.typing in
    let standing = c.args.scope.now.standing in
    let listed = flat_map (local_needs setting.schema.now typing standing (place setting.outer c.args.at)) c.args.locals.now in
    let given : Scope = record { typing = c.in-Ok.typing; standing = c.in_ok-standing.standing } in
    let own : Scope = record { typing = c.in-Ok.typing; standing = local_standing setting.schema.now typing standing c.args.locals.now } in
    let same : given ≡ own = λ i. record { typing = c.in-Ok.typing; standing = c.in_ok-standing.ensures.standing i } in
    let partial = partial_along setting.schema.now setting.set.now.templates setting.levels setting.number c.in-Some.partial c.args.name.now c.lead.result (Some (place setting.outer c.args.at)) given own c.lead.ensures same (sym c.in_ok-partial.ensures ∙ c.in-Some.is) in
    then_ok c.add_template_needs.result c.add_template_needs.new.needs c.args.needs.now c.add_locals_needs.new.needs listed
    (levels_need setting.schema.now setting.set.now.templates setting.levels c.in-Some.partial c.lead.result given.typing given.standing)
    ((setting_of setting).partial c.args.name.now (Some (place setting.outer c.args.at)) own.typing own.standing)
    (render_needs (setting_of setting) c.args.at c.args.name.now c.args.locals.now setting.outer typing standing)
    c.add_template_needs.ensures c.in_ok-standing.ensures.needs partial
    (render_some (setting_of setting) c.args.at c.args.name.now c.args.locals.now setting.outer typing standing c.in-Ok.typing (sym c.in_ok-typing.ensures ∙ c.in-Ok.is))

-- ---- loops

pub add_each_needs-returns-in_default-clause-needs : goal.add_each_needs-returns-in_default-clause-needs
add_each_needs-returns-in_default-clause-needs t c =
    c.in_ok-paths.ensures.needs
    ∙ ap (λ n. c.args.needs.now ++ n) (each_none (setting_of c.args.setting.now) c.args.at c.args.list.now c.args.name.now c.args.body.now c.args.setting.now.outer c.args.scope.now.typing c.args.scope.now.standing c.in_default.field-0 (sym c.in_ok-item.ensures ∙ c.in_default.is))

pub add_each_needs-returns-clause-needs : goal.add_each_needs-returns-clause-needs
add_each_needs-returns-clause-needs t c =
    let setting = c.args.setting.now in
    let scope = c.args.scope.now in
    let reading = reading_of setting.schema.now scope.typing scope.standing c.args.list.now in
    let inner : Scope = bound c.args.name.now c.in-Ok.item reading.paths scope in
    then_is c.add_needs.new.needs c.args.needs.now c.add_looking_needs.new.needs (needs_at (place setting.outer c.args.at) (looking_wants reading))
    (tree_needs (setting_of setting) c.args.body.now setting.outer c.bind.new.scope.typing c.bind.new.scope.standing)
    (tree_needs (setting_of setting) c.args.body.now setting.outer inner.typing inner.standing)
    (each_body_needs (setting_of setting) c.args.at c.args.list.now c.args.name.now c.args.body.now setting.outer scope.typing scope.standing)
    c.in_ok-add_needs.ensures.needs c.in_ok-paths.ensures.needs
    (ap (λ (s : Scope). tree_needs (setting_of setting) c.args.body.now setting.outer s.typing s.standing) (c.in_ok-bind.ensures ∙ ap (λ p. bound c.args.name.now c.in-Ok.item p scope) c.in_ok-paths.ensures.paths))
    (each_some (setting_of setting) c.args.at c.args.list.now c.args.name.now c.args.body.now setting.outer scope.typing scope.standing c.in-Ok.item (sym c.in_ok-item.ensures ∙ c.in-Ok.is))

-- ---- nodes

pub add_node_needs-returns-in-Cache-clause-needs : goal.add_node_needs-returns-in-Cache-clause-needs
add_node_needs-returns-in-Cache-clause-needs t c =
    let setting = setting_of c.args.setting.now in
    let outer = c.args.setting.now.outer in
    let scope = c.args.scope.now in
    let same : tree_needs setting c.as_slice-in-Cache.result.now outer scope.typing scope.standing ≡ node_needs setting c.args.node.now outer scope.typing scope.standing =
    ap (λ b. tree_needs setting b outer scope.typing scope.standing) c.as_slice-in-Cache.ensures
    ∙ sym (ap (λ n. node_needs setting n outer scope.typing scope.standing) c.in-Cache.is ∙ needed_cache setting c.in-Cache.at c.in-Cache.block c.in-Cache.key c.in-Cache.body outer scope.typing scope.standing) in
    subst (λ n. OnOk c.add_needs-in-Cache.result (c.add_needs-in-Cache.new.needs ≡ c.args.needs.now ++ n)) same c.add_needs-in-Cache.ensures.needs

pub add_node_needs-returns-in_ok-add_arms_needs-in-If-clause-needs : goal.add_node_needs-returns-in_ok-add_arms_needs-in-If-clause-needs
add_node_needs-returns-in_ok-add_arms_needs-in-If-clause-needs t c =
    let setting = setting_of c.args.setting.now in
    let outer = c.args.setting.now.outer in
    let scope = c.args.scope.now in
    let after = c.add_arms_needs.new.scope in
    then_ok c.add_needs.result c.add_needs.new.needs c.args.needs.now c.add_arms_needs.new.needs
    (arms_need setting c.as_slice.result.now outer scope.typing scope.standing)
    (tree_needs setting c.as_slice-in-If.result.now outer after.typing after.standing)
    (tree_needs setting c.in-If.otherwise outer scope.typing scope.standing)
    (node_needs setting c.args.node.now outer scope.typing scope.standing)
    c.add_needs.ensures.needs c.in_ok-add_arms_needs-in-If.ensures.needs
    (ap (λ n. tree_needs setting n outer after.typing after.standing) c.as_slice-in-If.ensures ∙ ap (λ (s : Scope). tree_needs setting c.in-If.otherwise outer s.typing s.standing) c.in_ok-add_arms_needs-in-If.ensures.scope)
    (ap (λ a. arms_need setting a outer scope.typing scope.standing ++ tree_needs setting c.in-If.otherwise outer scope.typing scope.standing) c.as_slice.ensures
    ∙ sym (ap (λ n. node_needs setting n outer scope.typing scope.standing) c.in-If.is ∙ needed_if setting c.in-If.at c.in-If.arms c.in-If.otherwise outer scope.typing scope.standing))
