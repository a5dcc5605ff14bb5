use Rattle.std.proofs.Common.{◌≡◌, ◌+◌, drop, map}
use Rattle.std.specs.List.{prefix_len}
use Rattle.doll_set.specs.Order.{isnt_above}
use Rattle.doll_set.proofs.files.place_of_file.Given as goal

-- those so far aren't above
abbrev pub invariant-loop-file : goal.invariant-loop-file
invariant-loop-file l = record {
  place : l.at + prefix_len (λ other. isnt_above other.name l.name) (map (λ file. file.now) (drop l.file-index l.files)) ≡ prefix_len (λ other. isnt_above other.name l.name) (map (λ file. file.now) l.files);
  at : l.at ≡ l.file-index;
}
