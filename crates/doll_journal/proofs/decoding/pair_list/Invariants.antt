use Rattle.std.proofs.Common.{◌≡◌, ◌-◌}
use Rattle.doll_journal.specs.Fields.{repeated}
use Rattle.doll_journal.specs.Reading.{pair_field}
use Rattle.doll_journal.proofs.Repeated.{fronted}
use Rattle.doll_journal.proofs.decoding.pair_list.Given as goal

-- what is read and what is left give the whole
abbrev pub invariant-loop : goal.invariant-loop
invariant-loop l = fronted l.given (repeated (pair_field l.total) (l.count - l.counter) l.rest) ≡ repeated (pair_field l.total) l.count l.bytes
