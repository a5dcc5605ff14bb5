use Rattle.std.proofs.Common.{arith}
use Rattle.doll_journal.specs.declared.fault.JournalFault.TheVariants.{Memory}
use Rattle.doll_journal.proofs.Commits.{is_found, is_read}
use Rattle.doll_journal.proofs.decoding.decode.Goals as goal

pub returns-clause-found : goal.returns-clause-found
returns-clause-found c = is_found Memory c.args.bytes.now c.commit_in.result (λ i. omega (arith, c.type_inv.bytes i)) c.commit_in.ensures

pub returns-clause-only : goal.returns-clause-only
returns-clause-only c = λ commit fits is. is_read Memory c.args.bytes.now c.commit_in.result commit c.commit_in.ensures fits is
