use Rattle.std.proofs.Common.{◌≡◌, ◌+◌, None, sym, subst, arith}
use Rattle.std.specs.Prelude.{slice_get}
use Rattle.std.proofs.lemmas.Option.{slice_get_within}
use Rattle.doll_commit.specs.Walk.{steps_from}
use Rattle.doll_commit.proofs.Walks.{IsOnWay, lives_between, way_begins, way_goes_on, way_ends, way_is_short}
use Rattle.doll_commit.proofs.walk.reached.Goals as goal

pub loop-one-init : goal.loop-one-init
loop-one-init c = way_begins (steps_from c.args.step c.args.table.now c.args.schema.now) c.args.table.now (lives_between c.args.step c.args.table.now c.args.schema.now) c.args.seeds

pub overflow_add-at : goal.overflow_add-at
overflow_add-at c = omega (arith, slice_get_within c.loop-one.all c.loop-one.at c.in-Some.one (sym c.in-Some.ensures.value), c.in-Some.ensures.short)

pub loop-one-smaller : goal.loop-one-smaller
loop-one-smaller c =
    let within = slice_get_within c.loop-one.all c.loop-one.at c.in-Some.one (sym c.in-Some.ensures.value) in
    let short = way_is_short (steps_from c.args.step c.args.table.now c.args.schema.now) c.args.table.now (lives_between c.args.step c.args.table.now c.args.schema.now) c.args.seeds c.loop-one.all c.loop-one.at c.loop-one.invariant in
    omega (arith, within, short)

pub loop-one-preserved : goal.loop-one-preserved
loop-one-preserved c =
    let next = steps_from c.args.step c.args.table.now c.args.schema.now in
    subst (λ all. IsOnWay next c.args.table.now (lives_between c.args.step c.args.table.now c.args.schema.now) c.args.seeds all (c.loop-one.at + 1)) (sym c.in_ok-add_next.ensures)
    (way_goes_on next c.args.table.now (lives_between c.args.step c.args.table.now c.args.schema.now) c.args.seeds c.loop-one.all c.loop-one.at c.in-Some.one (sym c.in-Some.ensures.value) c.loop-one.invariant)

pub returns : goal.returns
returns c =
    let none : slice_get c.loop-one.all c.loop-one.at ≡ None = cc in
    way_ends (steps_from c.args.step c.args.table.now c.args.schema.now) c.args.table.now (lives_between c.args.step c.args.table.now c.args.schema.now) c.args.seeds c.loop-one.all c.loop-one.at none c.loop-one.invariant
