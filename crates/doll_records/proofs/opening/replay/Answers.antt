use Rattle.std.proofs.Common.{◌≡◌, ◌+◌, ◌<◌, ◌≤◌, length, Some, None, ◌∙◌, sym, refl, le_refl, le_trans, arith}
use Rattle.std.proofs.lemmas.Result.{err_from_is_err_and}
use Rattle.doll_keep.proofs.Serving.{serves_none, serves_more}
use Rattle.doll_records.specs.declared.fault.OpenFault.TheVariants as faults
use Rattle.doll_records.proofs.Loads.{serves_next, not_loaded, faulty_item}
use Rattle.doll_records.proofs.Replays.{replays_none, replays_more, one_more, at_place, ends, stops, faulty, too_long}
use Rattle.doll_records.specs.declared.limits.TheConstants.{MOST_COMMITS}
use Rattle.doll_records.proofs.opening.replay.Goals as goal

pub loop-index-init : goal.loop-index-init
loop-index-init g c = (
  record {
    holds = c.in_ok-past.ensures.holds;
    index = rw c.in_ok-past.ensures.none refl;
    replays = replays_none c.args.schema.now (g.K.Keeper.kept c.args.keeper.now) c.in_ok-past.past.history.items c.in_ok-past.ensures.none;
    same = refl;
    count = le_refl _;
  },
  serves_none g.K.Keeper.called c.args.keeper.now,
)

pub returns-in_default-clause-exact : goal.returns-in_default-clause-exact
returns-in_default-clause-exact g c =
    let inv = c.loop-index.invariant.0 in
    let kept = g.K.Keeper.kept c.args.keeper.now in
    (ends c.args.schema.now kept c.loop-index.past.history.items
    (at_place kept (g.K.Keeper.kept c.loop-index.keeper) c.loop-index.past.history.items c.loop-index.index c.in_ok-item.field-0 None inv.same inv.index c.in_default.is c.in_ok-item.ensures.item) inv.replays).0

pub returns-in_default-clause-spelled : goal.returns-in_default-clause-spelled
returns-in_default-clause-spelled g c =
    let inv = c.loop-index.invariant.0 in
    let kept = g.K.Keeper.kept c.args.keeper.now in
    (ends c.args.schema.now kept c.loop-index.past.history.items
    (at_place kept (g.K.Keeper.kept c.loop-index.keeper) c.loop-index.past.history.items c.loop-index.index c.in_ok-item.field-0 None inv.same inv.index c.in_default.is c.in_ok-item.ensures.item) inv.replays).1

pub returns-in_err-past-2-clause-exact : goal.returns-in_err-past-2-clause-exact
returns-in_err-past-2-clause-exact g c =
    let inv = c.loop-index.invariant.0 in
    let kept = g.K.Keeper.kept c.args.keeper.now in
    let room : length c.loop-index.past.history.items < MOST_COMMITS = rw (← inv.index) c.loop-index-test.true in
    let p = err_from_is_err_and c.from_residual-in_err-past-2.result c.from_residual-in_err-past-2.ensures.1 in
    rw (p.1, p.2) (stops c.args.schema.now kept c.loop-index.past.history.items c.in-Some.item c.in_err-past-2.field-0.0
    (at_place kept (g.K.Keeper.kept c.loop-index.keeper) c.loop-index.past.history.items c.loop-index.index c.in_ok-item.field-0 (Some c.in-Some.item) inv.same inv.index c.in-Some.is c.in_ok-item.ensures.item) inv.replays
    (λ other rest. faulty c.args.schema.now c.loop-index.past.history.items c.in-Some.item.items rest c.in_err-past-2.field-0.0 room (rw c.as_slice.ensures.value at (c.in_err-past-2.ensures.exact other))))

pub loop-index-preserved : goal.loop-index-preserved
loop-index-preserved g c =
    let inv = c.loop-index.invariant.0 in
    let kept = g.K.Keeper.kept c.args.keeper.now in
    let history = c.loop-index.past.history.items in
    let next = c.in_ok-past-2.past.history.items in
    let room : length c.loop-index.past.history.items < MOST_COMMITS = rw (← inv.index) c.loop-index-test.true in
    let more = rw c.as_slice.ensures.value at c.in_ok-past-2.ensures.item in
    let count : length c.in_ok-past-2.past.history.items ≡ length c.loop-index.past.history.items + 1 = one_more c.loop-index.past.history.items c.in_ok-past-2.past.history.items c.in-Some.item.items more in (
      record {
        holds = c.in_ok-past-2.ensures.holds;
        index = omega arith;
        replays = replays_more c.args.schema.now kept c.loop-index.past.history.items c.in_ok-past-2.past.history.items c.in-Some.item room more (rw c.as_slice.ensures.value at c.in_ok-past-2.ensures.exact)
            (at_place kept (g.K.Keeper.kept c.loop-index.keeper) c.loop-index.past.history.items c.loop-index.index c.in_ok-item.field-0 (Some c.in-Some.item) inv.same inv.index c.in-Some.is c.in_ok-item.ensures.item) inv.replays;
        same = c.load.ensures.same ∙ inv.same;
        count = le_trans inv.count c.load.ensures.count;
      },
      serves_more g.K.Keeper.called c.loop-index.index c.args.keeper.now c.loop-index.keeper c.load.new.self c.loop-index.invariant.1 c.in_ok-item.ensures.called,
    )

pub returns-in-Some-2-clause-exact : goal.returns-in-Some-2-clause-exact
returns-in-Some-2-clause-exact g c =
    let inv = c.loop-index.invariant.0 in
    let kept = g.K.Keeper.kept c.args.keeper.now in
    let full : MOST_COMMITS ≡ length c.loop-index.past.history.items = omega arith in
    stops c.args.schema.now kept c.loop-index.past.history.items c.in-Some-2.field-0 (faults.TooLong MOST_COMMITS)
    (at_place kept (g.K.Keeper.kept c.loop-index.keeper) c.loop-index.past.history.items MOST_COMMITS c.in_ok-load.field-0 (Some c.in-Some-2.field-0) inv.same full c.in-Some-2.is c.in_ok-load.ensures.item) inv.replays
    (λ _ rest. too_long c.args.schema.now c.loop-index.past.history.items c.in-Some-2.field-0.items rest (sym full))

pub returns-in-None-clause-exact : goal.returns-in-None-clause-exact
returns-in-None-clause-exact g c =
    let inv = c.loop-index.invariant.0 in
    let kept = g.K.Keeper.kept c.args.keeper.now in
    let full : MOST_COMMITS ≡ length c.loop-index.past.history.items = omega arith in
    (ends c.args.schema.now kept c.loop-index.past.history.items
    (at_place kept (g.K.Keeper.kept c.loop-index.keeper) c.loop-index.past.history.items MOST_COMMITS c.in_ok-load.field-0 None inv.same full c.in-None.is c.in_ok-load.ensures.item) inv.replays).0

pub returns-in-None-clause-spelled : goal.returns-in-None-clause-spelled
returns-in-None-clause-spelled g c =
    let inv = c.loop-index.invariant.0 in
    let kept = g.K.Keeper.kept c.args.keeper.now in
    let full : MOST_COMMITS ≡ length c.loop-index.past.history.items = omega arith in
    (ends c.args.schema.now kept c.loop-index.past.history.items
    (at_place kept (g.K.Keeper.kept c.loop-index.keeper) c.loop-index.past.history.items MOST_COMMITS c.in_ok-load.field-0 None inv.same full c.in-None.is c.in_ok-load.ensures.item) inv.replays).1

pub returns-in_default-clause-served : goal.returns-in_default-clause-served
returns-in_default-clause-served g c =
    rw (← c.loop-index.invariant.0.index) (serves_more g.K.Keeper.called c.loop-index.index c.args.keeper.now c.loop-index.keeper c.load.new.self c.loop-index.invariant.1 c.in_ok-item.ensures.called)

pub returns-in-None-clause-served : goal.returns-in-None-clause-served
returns-in-None-clause-served g c =
    let full : MOST_COMMITS ≡ length c.loop-index.past.history.items = omega arith in
    let at : MOST_COMMITS ≡ c.loop-index.index = omega arith in
    rw (← full) (serves_next g.K.Keeper.called c.loop-index.index MOST_COMMITS c.args.keeper.now c.loop-index.keeper c.load-2.new.self at c.loop-index.invariant.1 c.in_ok-load.ensures.called)

pub returns-in-Some-2-clause-failed : goal.returns-in-Some-2-clause-failed
returns-in-Some-2-clause-failed g c =
    let at : MOST_COMMITS ≡ c.loop-index.index = omega arith in
    serves_next g.K.Keeper.called c.loop-index.index MOST_COMMITS c.args.keeper.now c.loop-index.keeper c.load-2.new.self at c.loop-index.invariant.1 c.in_ok-load.ensures.called

pub returns-in_err-past-2-clause-failed : goal.returns-in_err-past-2-clause-failed
returns-in_err-past-2-clause-failed g c =
    let p = err_from_is_err_and c.from_residual-in_err-past-2.result c.from_residual-in_err-past-2.ensures.1 in
    rw (p.1, p.2) (faulty_item g.K.Keeper.called c.loop-index.index c.args.keeper.now c.loop-index.keeper c.load.new.self c.in_err-past-2.field-0.0
    c.loop-index-test.true c.in_err-past-2.ensures.at c.loop-index.invariant.1 c.in_ok-item.ensures.called)

pub returns-in_err-past-clause-failed : goal.returns-in_err-past-clause-failed
returns-in_err-past-clause-failed g c =
    let p = err_from_is_err_and c.from_residual.result c.from_residual.ensures.1 in
    rw (p.1, p.2) (0, omega arith, serves_none g.K.Keeper.called c.args.keeper.now)

pub returns-in_err-item-clause-failed : goal.returns-in_err-item-clause-failed
returns-in_err-item-clause-failed g c =
    let p = err_from_is_err_and c.from_residual-in_err-item.result c.from_residual-in_err-item.ensures.1 in
    let within : c.loop-index.index ≤ MOST_COMMITS = omega arith in
    rw (p.1, p.2) (not_loaded g.K.Keeper.called c.loop-index.index c.loop-index.index c.args.keeper.now c.loop-index.keeper c.load.new.self c.in_err-item.field-0.0 refl within c.loop-index.invariant.1 c.in_err-item.ensures.called)

pub returns-in_err-load-clause-failed : goal.returns-in_err-load-clause-failed
returns-in_err-load-clause-failed g c =
    let p = err_from_is_err_and c.from_residual-in_err-load.result c.from_residual-in_err-load.ensures.1 in
    let at : MOST_COMMITS ≡ c.loop-index.index = omega arith in
    rw (p.1, p.2) (not_loaded g.K.Keeper.called c.loop-index.index MOST_COMMITS c.args.keeper.now c.loop-index.keeper c.load-2.new.self c.in_err-load.field-0.0 at (le_refl MOST_COMMITS) c.loop-index.invariant.1 c.in_err-load.ensures.called)
