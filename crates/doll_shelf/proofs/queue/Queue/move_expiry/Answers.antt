use Rattle.std.proofs.Common.{ap, ◌∙◌}
use Rattle.std.specs.Map.{set_value}
use Rattle.std.specs.Option.{option_map_or}
use Rattle.std.specs.Str.{bytes_eq}
use Rattle.doll_shelf.specs.Queue.{kept_until}
use Rattle.doll_shelf.proofs.Queued.{distinct_set, looked_up, now_distinct, seen, set_there, still_distinct, still_endless}
use Rattle.doll_shelf.proofs.queue.Queue.move_expiry.Goals as goal

pub returns-in_default-peek_mut : goal.returns-in_default-peek_mut
returns-in_default-peek_mut c =
    let none = c.in_default-peek_mut.ensures.value ∙ looked_up c.self.inside.map c.in-Some.map c.in-Some.is c.args.self.now c.self.view_is c.self.invariant.1 c.args.key.now in
    seen c.self.inside.map c.in-Some.map c.in-Some.is c.args.self.now c.self.view_is c.self.invariant.1 ∙ ap (λ o. option_map_or (λ kept. set_value (bytes_eq c.args.key.now) c.args.self.now (kept_until c.args.expiry kept)) o c.args.self.now) none

pub invariant_of-self-2 : goal.invariant_of-self-2
invariant_of-self-2 c =
    let new = kept_until c.args.expiry c.in-Some-peek_mut.kept.now in
    let distinct = distinct_set (bytes_eq c.args.key.now) c.args.self.now new (now_distinct c.self.inside.map c.in-Some.map c.in-Some.is c.args.self.now c.self.view_is c.self.invariant.1) in
    (still_endless c.self.inside.map c.in-Some.map c.in-Some.is c.args.self.now c.self.view_is c.self.invariant.1 c.self.invariant.0, still_distinct _ _ (set_there c.self.inside.map c.in-Some.map c.in-Some.is c.args.self.now c.self.view_is c.self.invariant.1 c.args.key.now new) distinct)

pub returns : goal.returns
returns c =
    let one = c.in-Some-peek_mut.ensures.value ∙ looked_up c.self.inside.map c.in-Some.map c.in-Some.is c.args.self.now c.self.view_is c.self.invariant.1 c.args.key.now in
    set_there c.self.inside.map c.in-Some.map c.in-Some.is c.args.self.now c.self.view_is c.self.invariant.1 c.args.key.now (kept_until c.args.expiry c.in-Some-peek_mut.kept.now)
    ∙ ap (λ o. option_map_or (λ kept. set_value (bytes_eq c.args.key.now) c.args.self.now (kept_until c.args.expiry kept)) o c.args.self.now) one
