use Rattle.std.proofs.Common.{◌∙◌, sym}
use Rattle.doll_commit.specs.Answers.{seen}
use Rattle.doll_commit.proofs.Making.{touched_went}
use Rattle.doll_commit.proofs.change.touch.Goals as goal

pub returns-clause-exact : goal.returns-clause-exact
returns-clause-exact c =
    touched_went c.args.schema.now (seen c.args.course.now) (seen c.note_parents.new.self) c.args.one c.note.new.self.table c.note.new.self.touched (sym c.lives.ensures ∙ c.if-not-lives.false) c.in_ok-note.ensures.table c.in_ok-note_parents.ensures.table c.in_ok-note.ensures.touched c.in_ok-note_parents.ensures.touched
    (c.in_ok-note_parents.ensures.ids ∙ c.in_ok-note.ensures.ids)
