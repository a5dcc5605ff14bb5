use Rattle.std.proofs.Common.{ap, ◌∙◌}
use Rattle.std.specs.Prelude.{reverse}
use Rattle.doll_shelf.proofs.Queued.{distinct_rest, now_distinct, oldest_less, oldest_there, still_distinct, still_endless}
use Rattle.doll_shelf.proofs.queue.Queue.pop.Goals as goal

pub invariant_of-self-2 : goal.invariant_of-self-2
invariant_of-self-2 c =
    let left = ap (λ m. reverse m.entries) c.pop_lru.ensures.entries ∙ oldest_less c.self.inside.map c.in-Some.map c.in-Some.is c.args.self.now c.self.view_is c.self.invariant.1 in
    (ap (λ m. m.cap) c.pop_lru.ensures.entries ∙ still_endless c.self.inside.map c.in-Some.map c.in-Some.is c.args.self.now c.self.view_is c.self.invariant.1 c.self.invariant.0, still_distinct _ _ left (distinct_rest c.args.self.now (now_distinct c.self.inside.map c.in-Some.map c.in-Some.is c.args.self.now c.self.view_is c.self.invariant.1)))

pub returns-clause-value : goal.returns-clause-value
returns-clause-value c = c.pop_lru.ensures.value ∙ oldest_there c.self.inside.map c.in-Some.map c.in-Some.is c.args.self.now c.self.view_is c.self.invariant.1

pub returns-clause-left : goal.returns-clause-left
returns-clause-left c = ap (λ m. reverse m.entries) c.pop_lru.ensures.entries ∙ oldest_less c.self.inside.map c.in-Some.map c.in-Some.is c.args.self.now c.self.view_is c.self.invariant.1
