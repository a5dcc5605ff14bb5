use Rattle.std.proofs.Common.{◌≡◌, ◌+◌, ◌≤◌, length, take}
use Rattle.std.specs.Prelude.{not}
use Rattle.std.specs.List.{suffix_len}
use Rattle.doll_text.specs.Segments.{is_slash}
use Rattle.doll_set.proofs.dependencies.folder_of.Given as goal

-- no byte so far, from the end on, is a slash
abbrev pub invariant-loop-at : goal.invariant-loop-at
invariant-loop-at l = record {
  within : l.at ≤ length l.name;
  passed : suffix_len (λ byte. not (is_slash byte)) (take l.at l.name) + length l.name ≡ suffix_len (λ byte. not (is_slash byte)) l.name + l.at;
}

abbrev pub decreases-loop-at : goal.decreases-loop-at
decreases-loop-at l = l.at
