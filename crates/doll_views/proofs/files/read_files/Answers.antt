use Rattle.doll_views.specs.Seen.{seen_listing}
use Rattle.doll_views.proofs.Givens.{files_answer, files_refused}
use Rattle.doll_views.proofs.files.read_files.Goals as goal

pub returns-in-Ok-clause-answer : goal.returns-in-Ok-clause-answer
returns-in-Ok-clause-answer g c =
    files_answer (g.F.Folder.files c.args.folder.now) (seen_listing c.args.listing.now) c.in-Ok.read c.with_sources.result (rw (c.as_slice-files.ensures.value, c.as_slice-wanted.ensures.value) at c.in-Ok.ensures.answer) (rw (c.as_slice.ensures.value, c.as_slice-files.ensures.value) at c.with_sources.ensures)

pub returns-in-Err-clause-answer : goal.returns-in-Err-clause-answer
returns-in-Err-clause-answer g c = files_refused (g.F.Folder.files c.args.folder.now) (seen_listing c.args.listing.now) c.in-Err.why (rw (c.as_slice-files.ensures.value, c.as_slice-wanted.ensures.value) at c.in-Err.ensures.answer)
