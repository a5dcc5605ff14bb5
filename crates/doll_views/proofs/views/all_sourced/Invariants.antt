use Rattle.std.proofs.Common.{◌≡◌, drop}
use Rattle.doll_views.specs.Views.{all_sourced}
use Rattle.doll_views.proofs.views.all_sourced.Given as goal

-- those that are left decide
abbrev pub invariant-loop-file : goal.invariant-loop-file
invariant-loop-file l = record {
  left : all_sourced l.number (drop l.file-index l.files) ≡ all_sourced 0 l.files;
  at : l.number ≡ l.file-index;
}
