use Rattle.std.proofs.Common.{◌≡◌, IsSome, drop}
use Rattle.std.specs.Io.{StartsWith}
use Rattle.doll_report.specs.Appending.{appended}
use Rattle.doll_report.specs.Lines.{answers_words}
use Rattle.doll_report.proofs.lines.put_answers.Given as goal

-- the words so far and those of the answers that are left are all
abbrev pub invariant-loop-answer : goal.invariant-loop-answer
invariant-loop-answer l = record {
  told : IsSome (answers_words (drop l.answer-index l.answers));
  words : appended l.out.items (answers_words (drop l.answer-index l.answers)) ≡ appended l.fn.out.items (answers_words l.answers);
  kept : StartsWith l.out.items l.fn.out.items;
}
