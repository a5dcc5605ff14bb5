use Rattle.std.proofs.Common.{sym}
use Rattle.std.proofs.lemmas.Result.{err_from_is_err_and}
use Rattle.doll_records.proofs.Growing.{holds_grown, follows_by}
use Rattle.doll_records.proofs.Taken.{unread, early, unapplied, taken, is_applied, spelled_more}
use Rattle.doll_records.proofs.opening.with_item.Goals as goal

pub returns-in_err-commit-clause-exact : goal.returns-in_err-commit-clause-exact
returns-in_err-commit-clause-exact c =
    let p = err_from_is_err_and c.from_residual.result c.from_residual.ensures.1 in
    rw (p.1, p.2) (λ other. unread c.args.schema.now c.args.past.history.items c.args.index c.args.item.now c.in_err-commit.field-0.0 c.requires.index (c.in_err-commit.ensures.exact other))

pub returns-then-not-follows-clause-exact : goal.returns-then-not-follows-clause-exact
returns-then-not-follows-clause-exact c =
    λ _. early c.args.schema.now c.args.past.history.items c.args.past.table c.args.past.moment c.args.index c.args.item.now c.in_ok-commit.commit c.requires.holds c.requires.index c.in_ok-commit.ensures.exact (sym c.if-not-follows.ensures)

pub returns-in_err-applied-clause-exact : goal.returns-in_err-applied-clause-exact
returns-in_err-applied-clause-exact c =
    let p = err_from_is_err_and c.from_residual-in_err-applied.result c.from_residual-in_err-applied.ensures.1 in
    rw (p.1, p.2) (λ other. unapplied c.args.schema.now c.args.past.history.items c.args.past.table c.args.past.moment c.args.index c.args.item.now c.in_ok-commit.commit c.in_err-applied.field-0.0 c.requires.holds c.requires.index c.in_ok-commit.ensures.exact (sym c.if-not-follows.ensures) (c.in_err-applied.ensures.exact other))

pub returns-clause-exact : goal.returns-clause-exact
returns-clause-exact c =
    rw c.in_ok-push.ensures.items (taken c.args.schema.now c.args.past.history.items c.args.past.table c.args.past.moment c.args.index c.args.item.now c.in_ok-commit.commit c.in_ok-applied.applied c.requires.holds c.requires.index c.in_ok-commit.ensures.exact (sym c.if-not-follows.ensures) c.in_ok-applied.ensures.exact)

pub returns-clause-holds : goal.returns-clause-holds
returns-clause-holds c =
    let by = follows_by c.args.past.moment c.in_ok-commit.commit (sym c.if-not-follows.ensures) in
    rw c.in_ok-push.ensures.items
    (holds_grown c.args.schema.now c.args.past.history.items c.args.past.table c.args.past.moment c.in_ok-commit.commit c.in_ok-applied.applied c.requires.holds (rw c.requires.index at c.requires.room) by.0 by.1
    c.in_ok-commit.ensures.spelled.1 (is_applied c.args.index _ c.in_ok-applied.applied c.in_ok-applied.ensures.exact) c.in_ok-applied.ensures.fits)

pub returns-clause-item : goal.returns-clause-item
returns-clause-item c = spelled_more c.args.past.history.items c.push.new.self.items c.in_ok-commit.commit c.args.item.now c.in_ok-push.ensures.items c.in_ok-commit.ensures.spelled.0
