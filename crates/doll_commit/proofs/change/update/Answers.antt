use Rattle.std.proofs.Common.{◌∙◌}
use Rattle.doll_commit.specs.Answers.{seen}
use Rattle.doll_commit.proofs.Making.{updated_went, updated_fits}
use Rattle.doll_commit.proofs.change.update.Goals as goal

pub returns-clause-exact : goal.returns-clause-exact
returns-clause-exact c =
    updated_went c.args.schema.now (seen c.args.course.now) (seen c.note_parents.new.self) c.args.given.now c.args.one c.in_ok-row.row c.note.new.self.table c.put.new.self c.note.new.self.touched c.in_ok-row.ensures.exact c.in_ok-note.ensures.table c.in_ok-put.ensures.ok c.in_ok-note_parents.ensures.table
    c.in_ok-note.ensures.touched c.in_ok-note_parents.ensures.touched (c.in_ok-note_parents.ensures.ids ∙ c.in_ok-note.ensures.ids)

pub returns-clause-fits : goal.returns-clause-fits
returns-clause-fits c =
    updated_fits c.args.schema.now c.args.course.now.table c.note_parents.new.self.table c.args.given.now c.args.one c.in_ok-row.row c.note.new.self.table c.put.new.self c.requires.fits c.requires.within c.in_ok-row.ensures.exact c.in_ok-row.ensures.fits c.in_ok-note.ensures.table c.in_ok-put.ensures.ok
    c.in_ok-note_parents.ensures.table
