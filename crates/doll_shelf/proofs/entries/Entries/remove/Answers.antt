use Rattle.std.proofs.Common.{ap, arith, sym, ◌∙◌}
use Rattle.std.specs.List.{remove}
use Rattle.std.specs.Option.{option_map_or}
use Rattle.doll_shelf.specs.Entries.{total_size}
use Rattle.doll_shelf.specs.Kept.{entries_of}
use Rattle.doll_shelf.proofs.Keeping.{entries_removed, less, no_place, not_removed, place_at, place_seen}
use Rattle.doll_shelf.proofs.entries.Entries.remove.Goals as goal

pub overflow_sub-self : goal.overflow_sub-self
overflow_sub-self c =
    let known = place_at c.args.key.now c.self.inside.queue c.in-Some.key c.in-Some.kept (sym c.in-Some.ensures.value) in
    omega (arith, less c.args.key.now c.self.inside.queue c.in-Some.key c.in-Some.kept known, c.size_kept.ensures, c.self.invariant)

pub invariant_of-self : goal.invariant_of-self
invariant_of-self c =
    let known = place_at c.args.key.now c.self.inside.queue c.in-Some.key c.in-Some.kept (sym c.in-Some.ensures.value) in
    let left = ap (λ kept. total_size (entries_of kept)) c.in-Some.ensures.left in
    omega (arith, left, less c.args.key.now c.self.inside.queue c.in-Some.key c.in-Some.kept known, c.size_kept.ensures, c.self.invariant)

pub invariant_of-self-in_default : goal.invariant_of-self-in_default
invariant_of-self-in_default c =
    let same = c.in_default.ensures.left ∙ (not_removed c.args.key.now c.self.inside.queue (sym c.in_default.ensures.value)).0 in
    c.self.invariant ∙ ap (λ kept. total_size (entries_of kept)) (sym same)

pub returns-in-Some : goal.returns-in-Some
returns-in-Some c =
    let known = place_at c.args.key.now c.self.inside.queue c.in-Some.key c.in-Some.kept (sym c.in-Some.ensures.value) in
    let there = place_seen c.args.key.now c.self.inside.queue c.args.self.now c.self.view_is ∙ known.found in
    ap entries_of c.in-Some.ensures.left
    ∙ entries_removed c.args.key.now c.self.inside.queue c.in-Some.key c.in-Some.kept known
    ∙ ap (λ entries. remove entries known.place) c.self.view_is
    ∙ sym (ap (λ o. option_map_or (remove c.args.self.now) o c.args.self.now) there)

pub returns-in_default : goal.returns-in_default
returns-in_default c =
    let none = not_removed c.args.key.now c.self.inside.queue (sym c.in_default.ensures.value) in
    let there = place_seen c.args.key.now c.self.inside.queue c.args.self.now c.self.view_is ∙ no_place c.args.key.now c.self.inside.queue none.1 in
    ap entries_of (c.in_default.ensures.left ∙ none.0)
    ∙ c.self.view_is
    ∙ sym (ap (λ o. option_map_or (remove c.args.self.now) o c.args.self.now) there)
