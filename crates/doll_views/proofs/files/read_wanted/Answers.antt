use Rattle.std.proofs.Common.{◌≡◌, ◌+◌, ◌∙◌, Err, Vec, arith, rules}
use Rattle.std.specs.declared.alloc.Global.{Global}
use Rattle.doll_base.specs.declared.in_memory.ViewFile.{ViewFile}
use Rattle.doll_views.specs.declared.refusal.Refusal.TheVariants.{Memory}
use Rattle.doll_views.proofs.Readings.{asked_more, read_all, read_more, read_refused, read_unfinished}
use Rattle.doll_views.proofs.files.read_wanted.Goals as goal

pub returns-in-Err-clause-answer : goal.returns-in-Err-clause-answer
returns-in-Err-clause-answer g c =
    read_refused (λ (read : Vec ViewFile Global). read.items) (g.F.Folder.files c.args.folder.now) c.args.files.now c.args.wanted.now c.loop-file.read.items c.loop-file.file-index c.file-item.result c.in-Err.why c.loop-file-test.true c.file-item.is c.loop-file.invariant.so_far
    (rw c.loop-file.invariant.kept at c.in-Err.ensures.answer)

pub returns-in-Err-clause-asked : goal.returns-in-Err-clause-asked
returns-in-Err-clause-asked g c = (
  c.loop-file.file-index + 1,
  asked_more (g.F.Folder.asked c.args.folder.now) (g.F.Folder.asked c.loop-file.folder) (g.F.Folder.asked c.read_one.new.folder) c.args.wanted.now c.loop-file.file-index c.file-item.result c.loop-file-test.true c.file-item.is c.loop-file.invariant.asked c.read_one.ensures.asked,
)

pub returns-in_err-push-in-Ok-clause-asked : goal.returns-in_err-push-in-Ok-clause-asked
returns-in_err-push-in-Ok-clause-asked g c = (
  c.loop-file.file-index + 1,
  asked_more (g.F.Folder.asked c.args.folder.now) (g.F.Folder.asked c.loop-file.folder) (g.F.Folder.asked c.read_one.new.folder) c.args.wanted.now c.loop-file.file-index c.file-item.result c.loop-file-test.true c.file-item.is c.loop-file.invariant.asked c.read_one.ensures.asked,
)

pub returns-in_err-push-in-Ok-clause-answer : goal.returns-in_err-push-in-Ok-clause-answer
returns-in_err-push-in-Ok-clause-answer g c =
    let is : c.from_residual.result ≡ Err Memory = search rules in
    rw is (read_unfinished (λ (read : Vec ViewFile Global). read.items) (g.F.Folder.files c.args.folder.now) c.args.files.now c.args.wanted.now c.loop-file.read.items c.loop-file.file-index c.loop-file.invariant.so_far)

pub loop-file-preserved : goal.loop-file-preserved
loop-file-preserved g c = record {
  so_far = rw c.in_ok-push-in-Ok.ensures.items (read_more (g.F.Folder.files c.args.folder.now) c.args.files.now c.args.wanted.now c.loop-file.read.items c.loop-file.file-index c.file-item.result c.in-Ok.one c.loop-file-test.true c.file-item.is c.loop-file.invariant.so_far (rw c.loop-file.invariant.kept at c.in-Ok.ensures.answer));
  asked = asked_more (g.F.Folder.asked c.args.folder.now) (g.F.Folder.asked c.loop-file.folder) (g.F.Folder.asked c.read_one.new.folder) c.args.wanted.now c.loop-file.file-index c.file-item.result c.loop-file-test.true c.file-item.is c.loop-file.invariant.asked c.read_one.ensures.asked;
  kept = c.read_one.ensures.kept ∙ c.loop-file.invariant.kept;
  count = omega arith;
}

pub returns-clause-answer : goal.returns-clause-answer
returns-clause-answer g c =
    read_all (λ (read : Vec ViewFile Global). read.items) (g.F.Folder.files c.args.folder.now) c.args.files.now c.args.wanted.now c.loop-file.file-index c.loop-file.read (omega arith) c.loop-file.invariant.so_far
