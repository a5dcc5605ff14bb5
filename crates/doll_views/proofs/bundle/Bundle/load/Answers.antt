use Rattle.std.proofs.Common.{Vec}
use Rattle.std.specs.declared.alloc.Global.{Global}
use Rattle.doll_base.specs.declared.in_memory.ViewFile.{ViewFile}
use Rattle.doll_views.specs.Files.{wanted_names}
use Rattle.doll_views.specs.Seen.{seen_bundle, seen_loaded}
use Rattle.doll_views.proofs.Givens.{load_answer, load_refused}
use Rattle.doll_views.proofs.bundle.Bundle.load.Goals as goal

pub returns-in-Ok-clause-answer : goal.returns-in-Ok-clause-answer
returns-in-Ok-clause-answer g c =
    load_answer (λ (files : Vec ViewFile Global). files.items) seen_loaded (g.F.Folder.files c.args.folder.now) (wanted_names c.args.self.listing.wanted.items) (seen_bundle c.args.self) c.in-Ok.files c.with_files.result c.in-Ok.ensures.answer (rw c.as_slice.ensures.value at c.with_files.ensures.exact)

pub returns-clause-answer : goal.returns-clause-answer
returns-clause-answer g c =
    load_refused (λ (files : Vec ViewFile Global). files.items) seen_loaded (g.F.Folder.files c.args.folder.now) (wanted_names c.args.self.listing.wanted.items) (seen_bundle c.args.self) c.in-Err.why c.in-Err.ensures.answer
