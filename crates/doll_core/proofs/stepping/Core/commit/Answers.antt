use Rattle.std.proofs.Common.{◌∷◌, [], ◌∙◌, ap, sym, length}
use Rattle.doll_records.specs.Commitments.{asked}
use Rattle.doll_types.specs.Sets.{TypedSet}
use Rattle.doll_core.specs.declared.event.TheConstants.{AUTHOR}
use Rattle.doll_core.proofs.Committing.{commits}
use Rattle.doll_core.proofs.Keeping.{core_stays}
use Rattle.doll_core.proofs.stepping.Core.commit.Goals as goal

pub invariant_of-self : goal.invariant_of-self
invariant_of-self c =
    let inside = c.self.inside in
    let done = c.commit in (
      core_stays inside.world done.new.self (asked inside.world.records.history AUTHOR (length c.history.result.now) c.args.changes c.args.now ∷ []) done.result inside.sessions.entries
          done.ensures.checked done.ensures.history done.ensures.same c.self.invariant.0,
      c.self.invariant.1 ∙ ap (λ (t : TypedSet). t.routes) (sym done.ensures.checked),
    )

pub returns-clause-exact : goal.returns-clause-exact
returns-clause-exact c =
    let inside = c.self.inside in
    let done = c.commit in
    rw (← c.self.view_is)
    (commits (record { world = inside.world; sessions = inside.sessions.entries }) done.new.self c.args.changes c.args.now done.result done.ensures.checked
    (length c.history.result.now) c.told_of.result (ap length c.history.ensures.commits) c.told_of.ensures.told c.told_of.ensures.remembered
    done.ensures.exact done.ensures.called done.ensures.history done.ensures.same done.ensures.schema done.ensures.shelf)
