use Rattle.std.proofs.Common.{◌≡◌, drop, length, map}
use Rattle.std.specs.List.{fold}
use Rattle.doll_set.specs.Files.{in_order, put_file}
use Rattle.doll_set.proofs.files.in_order.Given as goal

-- those so far, and those that are left put among them, are all in order
abbrev pub invariant-loop-file : goal.invariant-loop-file
invariant-loop-file l = record {
  order : fold put_file (map (λ file. file.now) l.ordered.items) (drop l.file-index l.files) ≡ in_order l.files;
  count : length l.ordered.items ≡ l.file-index;
}
