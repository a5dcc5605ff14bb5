use Rattle.std.proofs.Common.{sym, ◌∙◌, ap}
use Rattle.std.specs.List.{flat_map}
use Rattle.doll_commit.specs.Refs.{with_refs}
use Rattle.doll_table.specs.Tables.{without_rows}
use Rattle.doll_commit.specs.Commits.{Course, touch_parents}
use Rattle.doll_commit.specs.Answers.{seen}
use Rattle.doll_commit.proofs.Making.{restricted_is, destroyed_went, destroyed_fits, removed_within}
use Rattle.doll_commit.proofs.change.destroy.Goals as goal

pub returns-then-is_restricted-clause-exact : goal.returns-then-is_restricted-clause-exact
returns-then-is_restricted-clause-exact c =
    restricted_is c.args.course.now.table c.args.schema.now c.args.one c.in_ok-removed.removed (sym c.lives.ensures ∙ c.if-not-lives.false) c.in_ok-removed.ensures (sym c.is_restricted.ensures ∙ c.if-is_restricted.true)

pub remove_all-requires : goal.remove_all-requires
remove_all-requires c = removed_within c.args.schema.now c.args.course.now.table c.note_all.new.self.table c.args.one c.in_ok-removed.removed c.as_slice-2.result.now c.requires.fits (sym c.lives.ensures ∙ c.if-not-lives.false) c.in_ok-removed.ensures c.as_slice-2.ensures.items c.in_ok-note_all.ensures.table

pub returns-clause-exact : goal.returns-clause-exact
returns-clause-exact c =
    let before = seen c.args.course.now in
    let after : Course = record { table = c.remove_all.new.table; touched = c.note_all.new.self.touched; ids = c.note_all.new.self.ids } in
    destroyed_went c.args.schema.now before after c.args.one c.in_ok-removed.removed c.note_all.new.self.table (sym c.lives.ensures ∙ c.if-not-lives.false) c.in_ok-removed.ensures (sym c.is_restricted.ensures ∙ c.if-is_restricted.false) c.in_ok-note_all.ensures.table
    (c.in_ok-remove_all.ensures ∙ ap (without_rows c.note_all.new.self.table) c.as_slice-2.ensures.items)
    (c.in_ok-note_all.ensures.touched ∙ ap (λ xs. with_refs (with_refs before.touched xs) (flat_map (touch_parents before.table c.args.schema.now) xs)) c.as_slice.ensures.items) c.in_ok-note_all.ensures.ids

pub returns-clause-fits : goal.returns-clause-fits
returns-clause-fits c =
    destroyed_fits c.args.schema.now c.args.course.now.table c.remove_all.new.table c.in_ok-removed.removed c.note_all.new.self.table c.requires.fits (sym c.is_restricted.ensures ∙ c.if-is_restricted.false) c.in_ok-note_all.ensures.table
    (c.in_ok-remove_all.ensures ∙ ap (without_rows c.note_all.new.self.table) c.as_slice-2.ensures.items)
