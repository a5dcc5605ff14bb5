use Rattle.std.proofs.Common.{◌≡◌, ◌++◌, ◌∷◌, [], ◌∙◌, ap}
use Rattle.doll_commit.specs.Commits.{Course}
use Rattle.doll_commit.specs.Answers.{seen}
use Rattle.doll_commit.proofs.Making.{created_went, created_fits}
use Rattle.doll_commit.proofs.change.create.Goals as goal

pub returns-clause-exact : goal.returns-clause-exact
returns-clause-exact c =
    let before = seen c.args.course.now in
    let after : Course = record { table = c.note_parents.new.self.table; touched = c.note_parents.new.self.touched; ids = c.push.new.self } in
    let ids : after.ids ≡ before.ids ++ c.next-id.result ∷ [] = c.in_ok-push.ensures.ok ∙ ap (λ xs. xs ++ c.next-id.result ∷ []) (c.in_ok-note_parents.ensures.ids ∙ c.in_ok-note.ensures.ids) in
    created_went c.args.schema.now before after c.args.given.now c.args.model c.next-id.result c.in_ok-row.row c.note.new.self.table c.set_next.new.self c.put.new.self c.note.new.self.touched c.next-id.ensures c.if-id.false c.in_ok-row.ensures.exact c.in_ok-note.ensures.table c.set_next.ensures
    c.in_ok-put.ensures.ok c.in_ok-note_parents.ensures.table c.in_ok-note.ensures.touched c.in_ok-note_parents.ensures.touched ids

pub returns-clause-fits : goal.returns-clause-fits
returns-clause-fits c =
    created_fits c.args.schema.now c.args.course.now.table c.note_parents.new.self.table c.args.model c.next-id.result c.in_ok-row.row c.note.new.self.table c.set_next.new.self c.put.new.self c.requires.fits c.requires.within c.in_ok-row.ensures.fits c.next-id.ensures c.in_ok-note.ensures.table
    c.set_next.ensures c.in_ok-put.ensures.ok c.in_ok-note_parents.ensures.table
