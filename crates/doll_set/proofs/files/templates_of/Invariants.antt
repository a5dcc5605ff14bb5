use Rattle.std.proofs.Common.{◌≡◌, ◌≤◌, [], drop, length, map}
use Rattle.doll_set.specs.Files.{templates_from}
use Rattle.doll_set.proofs.files.templates_of.Given as goal

-- those so far, and those of the files that are left
abbrev pub invariant-loop-file : goal.invariant-loop-file
invariant-loop-file l = record {
  answer : templates_from l.number l.templates.items (map (λ file. file.now) (drop l.file-index l.files)) ≡ templates_from 0 [] (map (λ file. file.now) l.files);
  number : l.number ≡ l.file-index;
  count : length l.templates.items ≤ l.file-index;
}
