use Rattle.std.proofs.Common.{subst, None, Some}
use Rattle.std.specs.Prelude.{IfSome}
use Rattle.doll_eval.specs.Living.{AreLiving}
use Rattle.doll_frames.specs.declared.scope.Scope.{Scope}
use Rattle.doll_set.specs.Digests.{name_at}
use Rattle.doll_frames.specs.declared.frame.Frame.TheVariants as frame
use Rattle.doll_frames.proofs.Lives.{frame_here, frames_behind, no_frames}
use Rattle.doll_job.proofs.Facts.{partial_is}
use Rattle.doll_job.proofs.Leads.{render_again, render_lost, render_started, render_typeless}
use Rattle.doll_job.proofs.steps.render_place.Goals as goal

pub returns-in-Some-clause-leads : goal.returns-in-Some-clause-leads
returns-in-Some-clause-leads g c =
    λ before.
    render_again c.args.context.now (g.R.Rows.table c.args.rows.now) c.args.name.now c.args.locals.now c.args.scope.now c.in-Some.at c.args.stack.now c.pop_partial.new.self (g.R.Rows.looks c.args.rows.now) before c.in-Some.ensures.some c.pop_partial.ensures.answer

pub returns-in-Some-clause-living : goal.returns-in-Some-clause-living
returns-in-Some-clause-living g c =
    frame_here (g.R.Rows.table c.args.rows.now) (frame.Partial c.in-Some.at.0 c.in-Some.at.1) c.pop_partial.new.self.frames c.args.stack.now.frames c.in-Some.ensures.some c.requires.frames

pub returns-in-Some-clause-frames : goal.returns-in-Some-clause-frames
returns-in-Some-clause-frames g c =
    frames_behind (g.R.Rows.table c.args.rows.now) (frame.Partial c.in-Some.at.0 c.in-Some.at.1) c.pop_partial.new.self.frames c.args.stack.now.frames c.in-Some.ensures.some c.requires.frames

pub returns-in_default-2-clause-leads : goal.returns-in_default-2-clause-leads
returns-in_default-2-clause-leads g c =
    λ before.
    let begins = c.pop_partial.ensures.none c.in_default.is in
    render_typeless c.args.context.now (g.R.Rows.table c.args.rows.now) c.args.name.now c.args.locals.now c.args.scope.now c.in_ok-own.field-0 c.args.stack.now c.pop_partial.new.self (g.R.Rows.looks c.args.rows.now) (g.R.Rows.looks c.locals_scope.new.rows) before begins.0 c.in_ok-own.ensures.value c.in_ok-own.ensures.looks c.in_default-2.is begins.1

pub returns-in_default-2-clause-frames : goal.returns-in_default-2-clause-frames
returns-in_default-2-clause-frames g c =
    no_frames (g.R.Rows.table c.args.rows.now) c.pop_partial.new.self.frames (c.pop_partial.ensures.none c.in_default.is).1

pub returns-in_default-3-clause-leads : goal.returns-in_default-3-clause-leads
returns-in_default-3-clause-leads g c =
    λ before.
    let begins = c.pop_partial.ensures.none c.in_default.is in
    render_lost c.args.context.now (g.R.Rows.table c.args.rows.now) c.args.name.now c.args.locals.now c.args.scope.now c.in_ok-own.field-0 c.args.stack.now c.pop_partial.new.self (g.R.Rows.looks c.args.rows.now) (g.R.Rows.looks c.locals_scope.new.rows) before begins.0 c.in_ok-own.ensures.value c.in_ok-own.ensures.looks (partial_is c.args.context.now.set.now.templates (name_at c.args.context.now.set.now.templates c.args.context.now.number) c.in_ok-number.field-0 None c.as_bytes.ensures c.in_ok-number.ensures c.in_default-3.is) begins.1

pub returns-in_default-3-clause-frames : goal.returns-in_default-3-clause-frames
returns-in_default-3-clause-frames g c =
    no_frames (g.R.Rows.table c.args.rows.now) c.pop_partial.new.self.frames (c.pop_partial.ensures.none c.in_default.is).1

pub returns-clause-leads : goal.returns-clause-leads
returns-clause-leads g c =
    λ before.
    let begins = c.pop_partial.ensures.none c.in_default.is in
    render_started c.args.context.now (g.R.Rows.table c.args.rows.now) c.args.name.now c.args.locals.now c.args.scope.now c.in_ok-own.field-0 c.in-Some-2.own c.in-Some-3.number c.args.stack.now c.pop_partial.new.self (g.R.Rows.looks c.args.rows.now) (g.R.Rows.looks c.locals_scope.new.rows) before begins.0 c.in_ok-own.ensures.value c.in_ok-own.ensures.looks c.in-Some-2.is (partial_is c.args.context.now.set.now.templates (name_at c.args.context.now.set.now.templates c.args.context.now.number) c.in_ok-number.field-0 (Some c.in-Some-3.number) c.as_bytes.ensures c.in_ok-number.ensures c.in-Some-3.is) begins.1

pub returns-clause-living : goal.returns-clause-living
returns-clause-living g c =
    subst (λ o. IfSome o (λ (own : Scope). AreLiving (g.R.Rows.table c.args.rows.now) own.vars)) c.in-Some-2.is c.in_ok-own.ensures.living

pub returns-clause-frames : goal.returns-clause-frames
returns-clause-frames g c =
    no_frames (g.R.Rows.table c.args.rows.now) c.pop_partial.new.self.frames (c.pop_partial.ensures.none c.in_default.is).1
