use Rattle.std.proofs.Common.{◌≡◌, ◌++◌, take}
use Rattle.std.specs.List.{flat_map}
use Rattle.std.specs.Io.{StartsWith}
use Rattle.doll_report.specs.Lines.{id_words}
use Rattle.doll_report.proofs.lines.put_committed.Given as goal

-- the ids so far stand behind the moment
abbrev pub invariant-loop-id : goal.invariant-loop-id
invariant-loop-id l = record {
  words : l.out.items ≡ l.initial.out.items ++ flat_map id_words (take l.id-index l.committed.ids);
  kept : StartsWith l.out.items l.fn.out.items;
}
