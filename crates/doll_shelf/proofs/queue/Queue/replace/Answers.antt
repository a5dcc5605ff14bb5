use Rattle.std.proofs.Common.{sym, ◌∙◌}
use Rattle.std.specs.Str.{bytes_eq}
use Rattle.doll_shelf.proofs.Queued.{distinct_set, looked_up, now_distinct, seen, set_absent, set_there, still_distinct, still_endless}
use Rattle.doll_shelf.proofs.queue.Queue.replace.Goals as goal

pub returns-in_default-peek_mut : goal.returns-in_default-peek_mut
returns-in_default-peek_mut c =
    let none = c.in_default-peek_mut.ensures.value ∙ looked_up c.self.inside.map c.in-Some.map c.in-Some.is c.args.self.now c.self.view_is c.self.invariant.1 c.args.key.now in
    seen c.self.inside.map c.in-Some.map c.in-Some.is c.args.self.now c.self.view_is c.self.invariant.1 ∙ sym (set_absent c.args.key.now c.args.self.now c.args.kept none)

pub invariant_of-self-2 : goal.invariant_of-self-2
invariant_of-self-2 c =
    let distinct = distinct_set (bytes_eq c.args.key.now) c.args.self.now c.args.kept (now_distinct c.self.inside.map c.in-Some.map c.in-Some.is c.args.self.now c.self.view_is c.self.invariant.1) in
    (still_endless c.self.inside.map c.in-Some.map c.in-Some.is c.args.self.now c.self.view_is c.self.invariant.1 c.self.invariant.0, still_distinct _ _ (set_there c.self.inside.map c.in-Some.map c.in-Some.is c.args.self.now c.self.view_is c.self.invariant.1 c.args.key.now c.args.kept) distinct)

pub returns : goal.returns
returns c = set_there c.self.inside.map c.in-Some.map c.in-Some.is c.args.self.now c.self.view_is c.self.invariant.1 c.args.key.now c.args.kept
