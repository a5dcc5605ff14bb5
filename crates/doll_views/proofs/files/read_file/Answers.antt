use Rattle.std.proofs.Common.{◌≤◌, length, rules}
use Rattle.doll_views.specs.Files.{number_in_folder}
use Rattle.doll_views.proofs.Founds.{found_text, found_refused}
use Rattle.doll_views.proofs.files.read_file.Goals as goal

pub returns-in-Ok-clause-answer : goal.returns-in-Ok-clause-answer
returns-in-Ok-clause-answer g c =
    let short : length c.in-Ok.bytes.items ≤ 16777216 = search rules in
    found_text (g.F.Folder.files c.args.folder.now) (number_in_folder c.args.files.now c.args.name.now) c.args.name.now c.in-Ok.bytes.items c.text_file.result c.in-Ok.ensures.told short c.text_file.ensures

pub returns-in-Err-clause-answer : goal.returns-in-Err-clause-answer
returns-in-Err-clause-answer g c =
    rw c.folder_refusal.ensures (rw c.number_in_folder.ensures (found_refused (g.F.Folder.files c.args.folder.now) (number_in_folder c.args.files.now c.args.name.now) c.args.name.now c.in-Err.fault c.in-Err.ensures.told))
