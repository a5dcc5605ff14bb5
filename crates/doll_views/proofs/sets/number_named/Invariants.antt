use Rattle.std.proofs.Common.{◌≡◌, ◌+◌, drop}
use Rattle.std.specs.List.{prefix_len}
use Rattle.doll_views.specs.Sets.{is_named_otherwise}
use Rattle.doll_views.proofs.sets.number_named.Given as goal

-- those so far have other names
abbrev pub invariant-loop-file : goal.invariant-loop-file
invariant-loop-file l = record {
  place : l.number + prefix_len (is_named_otherwise l.name) (drop l.file-index l.files) ≡ prefix_len (is_named_otherwise l.name) l.files;
  at : l.number ≡ l.file-index;
}
