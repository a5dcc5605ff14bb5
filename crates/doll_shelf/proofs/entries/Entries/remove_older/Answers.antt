use Rattle.std.proofs.Common.{◌≡◌, ◌+◌, ◌-◌, ap, arith, drop, suc, sym, take, ◌∙◌}
use Rattle.std.proofs.lemmas.List.{drop-drop}
use Rattle.std.specs.List.{prefix_len}
use Rattle.doll_shelf.specs.Batches.{is_older}
use Rattle.doll_shelf.proofs.Keeping.{none_pass, one_passes}
use Rattle.doll_shelf.proofs.entries.Entries.remove_older.Goals as goal

pub loop-count-preserved : goal.loop-count-preserved
loop-count-preserved c =
    let test = is_older c.args.age c.args.time in
    let more = c.args.most - (c.loop-count.count + 1) in
    let room : c.args.most - c.loop-count.count ≡ suc more = omega (arith, c.loop-count-test.true) in
    let step = ap (λ n. prefix_len test (take n c.loop-count.self)) room ∙ one_passes test c.loop-count.self more (sym c.if-not-begins_older.ensures) in
    let next = ap (λ entries. prefix_len test (take more entries)) c.pop.ensures in
    record {
      left = c.pop.ensures ∙ ap (drop 1) c.loop-count.invariant.left ∙ drop-drop 1 c.loop-count.count c.args.self.now;
      counted = omega (arith, step, next, c.loop-count.invariant.counted);
    }

pub returns-then-not-begins_older-clause-count : goal.returns-then-not-begins_older-clause-count
returns-then-not-begins_older-clause-count c =
    let none = none_pass (is_older c.args.age c.args.time) c.loop-count.self (c.args.most - c.loop-count.count) (sym c.if-not-begins_older.ensures) in
    omega (arith, none, c.loop-count.invariant.counted)

pub returns-clause-count : goal.returns-clause-count
returns-clause-count c =
    let test = is_older c.args.age c.args.time in
    let none : c.args.most - c.loop-count.count ≡ 0 = omega (arith, c.loop-count-test.false) in
    let nothing = ap (λ n. prefix_len test (take n c.loop-count.self)) none in
    omega (arith, nothing, c.loop-count.invariant.counted, c.loop-count.auto.count-end, c.loop-count-test.false)
