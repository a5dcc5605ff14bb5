use Rattle.std.proofs.Common.{ap, ◌∙◌}
use Rattle.std.specs.Prelude.{reverse}
use Rattle.std.specs.Str.{bytes_eq}
use Rattle.doll_shelf.proofs.Queued.{distinct_less, found_there, now_distinct, removed_there, still_distinct, still_endless}
use Rattle.doll_shelf.proofs.queue.Queue.remove.Goals as goal

pub invariant_of-self-2 : goal.invariant_of-self-2
invariant_of-self-2 c =
    let left = ap (λ m. reverse m.entries) c.pop_entry.ensures.entries ∙ removed_there c.self.inside.map c.in-Some.map c.in-Some.is c.args.self.now c.self.view_is c.self.invariant.1 c.args.key.now in
    let distinct = distinct_less (bytes_eq c.args.key.now) c.args.self.now (now_distinct c.self.inside.map c.in-Some.map c.in-Some.is c.args.self.now c.self.view_is c.self.invariant.1) in
    (ap (λ m. m.cap) c.pop_entry.ensures.entries ∙ still_endless c.self.inside.map c.in-Some.map c.in-Some.is c.args.self.now c.self.view_is c.self.invariant.1 c.self.invariant.0, still_distinct _ _ left distinct)

pub returns-clause-value : goal.returns-clause-value
returns-clause-value c = c.pop_entry.ensures.value ∙ found_there c.self.inside.map c.in-Some.map c.in-Some.is c.args.self.now c.self.view_is c.self.invariant.1 c.args.key.now

pub returns-clause-left : goal.returns-clause-left
returns-clause-left c = ap (λ m. reverse m.entries) c.pop_entry.ensures.entries ∙ removed_there c.self.inside.map c.in-Some.map c.in-Some.is c.args.self.now c.self.view_is c.self.invariant.1 c.args.key.now
