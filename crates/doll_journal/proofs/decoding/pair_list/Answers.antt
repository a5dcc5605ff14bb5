use Rattle.std.proofs.Common.{◌≡◌, ◌-◌, arith}
use Rattle.std.proofs.lemmas.Result.{err_from_is_err_and}
use Rattle.doll_journal.specs.declared.fault.JournalFault.TheVariants.{Memory}
use Rattle.doll_journal.specs.Fields.{repeated}
use Rattle.doll_journal.specs.Reading.{pair_field}
use Rattle.doll_journal.proofs.Repeated.{fronted_starts, fronted_more, fronted_fails, fronted_done}
use Rattle.doll_journal.proofs.decoding.pair_list.Goals as goal

pub loop-init : goal.loop-init
loop-init c =
    let all : c.args.count - 0 ≡ c.args.count = omega arith in
    rw (c.new-given.ensures, all) (fronted_starts (repeated (pair_field c.args.total) c.args.count c.args.bytes.now))

pub returns-in_err-pair : goal.returns-in_err-pair
returns-in_err-pair c =
    let p = err_from_is_err_and c.from_residual.result c.from_residual.ensures.1 in
    rw (p.1, p.2) (fronted_fails (pair_field c.args.total) c.loop.given c.args.count c.loop.counter c.loop.rest.now c.in_err-pair.field-0.0 Memory (repeated (pair_field c.args.total) c.args.count c.args.bytes.now) c.loop-test.true c.in_err-pair.ensures c.loop.invariant)

pub loop-preserved : goal.loop-preserved
loop-preserved c =
    rw c.in_ok-push.ensures.ok (fronted_more (pair_field c.args.total) c.loop.given c.args.count c.loop.counter c.loop.rest.now c.in_ok-pair.after.now c.in_ok-pair.pair (repeated (pair_field c.args.total) c.args.count c.args.bytes.now) c.loop-test.true c.in_ok-pair.ensures c.loop.invariant)

pub returns : goal.returns
returns c = fronted_done (pair_field c.args.total) c.loop.given c.args.count c.loop.counter c.loop.rest.now (repeated (pair_field c.args.total) c.args.count c.args.bytes.now) c.loop-test.false c.loop.invariant
