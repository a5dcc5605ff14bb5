use Rattle.std.proofs.Common.{◌≡◌, ◌+◌, drop}
use Rattle.std.specs.List.{prefix_len}
use Rattle.doll_views.specs.Files.{is_other}
use Rattle.doll_views.proofs.files.number_in_folder.Given as goal

-- those so far are others
abbrev pub invariant-loop-file : goal.invariant-loop-file
invariant-loop-file l = record {
  place : l.number + prefix_len (is_other l.name) (drop l.file-index l.files) ≡ prefix_len (is_other l.name) l.files;
  at : l.number ≡ l.file-index;
}
