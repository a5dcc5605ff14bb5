use Rattle.std.proofs.Common.{◌≡◌, ◌+◌, get_or, subst, sym, ◌∙◌, rules}
use Rattle.doll_frames.specs.declared.frame.Frame.TheVariants as frame
use Rattle.doll_frames.proofs.Lives.{frame_pushed}
use Rattle.doll_job.proofs.Leads.{missed_ends, missed_stops}
use Rattle.doll_job.proofs.steps.end_missed.Goals as goal

pub returns-then-not-is_done-clause-goes : goal.returns-then-not-is_done-clause-goes
returns-then-not-is_done-clause-goes c =
    λ table item old looks later before missed goes.
    missed_stops c.args.context.now table item c.args.kept c.args.own.now before c.args.written old c.args.stack.now c.push.new.self looks later c.args.out.now c.args.flow missed (sym c.is_done.ensures ∙ c.if-not-is_done.true) c.in_ok-push.ensures.frames goes

pub returns-then-not-is_done-clause-frames : goal.returns-then-not-is_done-clause-frames
returns-then-not-is_done-clause-frames c =
    λ table lives live.
    frame_pushed table (frame.Missed c.args.kept c.args.written) c.args.stack.now.frames c.push.new.self.frames c.in_ok-push.ensures.frames lives live

pub returns-clause-goes : goal.returns-clause-goes
returns-clause-goes c =
    λ table item old looks later before missed goes.
    missed_ends c.args.context.now table item c.args.kept c.args.own.now c.index-as_slice-kept.result before c.args.written c.args.stack.now.frames c.in_ok-fresh.fresh old c.args.stack.now c.push-2.new.self looks later c.args.out.now c.append.new.self c.args.flow missed (sym c.is_done.ensures ∙ c.if-not-is_done.false) c.in_ok-push-2.ensures.frames
    (subst (λ items. c.index-as_slice-kept.result ≡ get_or items c.args.kept.at c.index-as_slice-kept.result) c.as_slice-2.ensures c.index-as_slice-kept.is) (search rules) (search rules) goes

pub returns-clause-frames : goal.returns-clause-frames
returns-clause-frames c =
    λ table lives live.
    frame_pushed table (frame.HandedIn (record { partial = c.args.kept.partial; of = c.args.kept.of; model = c.args.kept.model; items = c.args.kept.items; at = c.args.kept.at + 1; found = c.args.kept.found })) c.args.stack.now.frames c.push-2.new.self.frames c.in_ok-push-2.ensures.frames lives live
