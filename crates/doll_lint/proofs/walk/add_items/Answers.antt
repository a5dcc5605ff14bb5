use Rattle.std.proofs.Common.{[], OnOk, ap, sym, subst, ◌∙◌}
use Rattle.doll_set.specs.Dependencies.{names_of, partial_of}
use Rattle.doll_set.specs.Digests.{name_at}
use Rattle.doll_lint.specs.Blocks.{collection_blocks}
use Rattle.doll_lint.specs.Found.{Grows}
use Rattle.doll_lint.proofs.Blocks.{grows_as, item_there, no_items, no_partial_there, none_grows, not_cached}
use Rattle.doll_lint.proofs.walk.add_items.Goals as goal

pub returns-then-not-cached : goal.returns-then-not-cached
returns-then-not-cached c =
    let g = c.args.ground.now in
    grows_as g.set.now g.schema.now [] (collection_blocks g.schema.now g.set.now.templates g.number c.args.name.now c.args.list.now c.args.item.now c.args.cached c.args.typing.now) c.args.found.now c.args.found.now
    (sym (not_cached g.schema.now g.set.now.templates g.number c.args.name.now c.args.list.now c.args.item.now c.args.cached c.args.typing.now c.if-not-cached.true))
    (none_grows g.set.now g.schema.now c.args.found.now)

pub returns-in_default : goal.returns-in_default
returns-in_default c =
    let g = c.args.ground.now in
    grows_as g.set.now g.schema.now [] (collection_blocks g.schema.now g.set.now.templates g.number c.args.name.now c.args.list.now c.args.item.now c.args.cached c.args.typing.now) c.args.found.now c.args.found.now
    (sym (no_items g.schema.now g.set.now.templates g.number c.args.name.now c.args.list.now c.args.item.now c.args.cached c.args.typing.now c.in_default.field-0 (sym c.in_ok-of.ensures ∙ c.in_default.is)))
    (none_grows g.set.now g.schema.now c.args.found.now)

pub returns-in_default-partial : goal.returns-in_default-partial
returns-in_default-partial c =
    let g = c.args.ground.now in
    let names = names_of g.set.now.templates in
    let there = sym (c.in_ok-partial.ensures ∙ ap (λ t. partial_of names t c.as_bytes.result.now) c.name_of.ensures ∙ ap (λ n. partial_of names (name_at g.set.now.templates g.number) n) c.as_bytes.ensures) in
    grows_as g.set.now g.schema.now [] (collection_blocks g.schema.now g.set.now.templates g.number c.args.name.now c.args.list.now c.args.item.now c.args.cached c.args.typing.now) c.args.found.now c.args.found.now
    (sym (no_partial_there g.schema.now g.set.now.templates g.number c.args.name.now c.args.list.now c.args.item.now c.args.cached c.args.typing.now (there ∙ c.in_default-partial.is)))
    (none_grows g.set.now g.schema.now c.args.found.now)

pub returns : goal.returns
returns c =
    let g = c.args.ground.now in
    let names = names_of g.set.now.templates in
    let there = sym (c.in_ok-partial.ensures ∙ ap (λ t. partial_of names t c.as_bytes.result.now) c.name_of.ensures ∙ ap (λ n. partial_of names (name_at g.set.now.templates g.number) n) c.as_bytes.ensures) in
    subst (λ bs. OnOk c.add_item.result (Grows g.set.now g.schema.now bs c.args.found.now c.add_item.new.found))
    (sym (item_there g.schema.now g.set.now.templates g.number c.args.name.now c.args.list.now c.args.item.now c.args.cached c.args.typing.now c.in-Some.partial c.in-Ok.of c.if-not-cached.false (there ∙ c.in-Some.is) (sym c.in_ok-of.ensures ∙ c.in-Ok.is)))
    c.add_item.ensures
