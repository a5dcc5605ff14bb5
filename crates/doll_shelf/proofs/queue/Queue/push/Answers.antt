use Rattle.std.proofs.Common.{◌≤◌, ◌-◌, ap, arith, length, ◌∙◌}
use Rattle.std.specs.Prelude.{reverse}
use Rattle.doll_shelf.proofs.Queued.{distinct_more, put_behind, still_distinct}
use Rattle.doll_shelf.proofs.queue.Queue.push.Goals as goal

pub invariant_of-self-2 : goal.invariant_of-self-2
invariant_of-self-2 c =
    let room : length c.in_ok-map.map.entries ≤ c.in_ok-map.map.cap - 1 = omega (arith, c.len-count.ensures.fits, c.len-count.ensures.len, c.in_ok-map.ensures.endless) in
    let distinct = c.in_ok-map.ensures.distinct in
    let put = put_behind c.in_ok-map.map c.args.key c.args.kept c.args.self.now c.in_ok-map.ensures.taken distinct c.requires room in
    let new = ap (λ m. reverse m.entries) c.in_ok-added.ensures.entries ∙ put in (
      ap (λ m. m.cap) c.in_ok-added.ensures.entries ∙ c.in_ok-map.ensures.endless,
      still_distinct _ _ new (distinct_more c.args.self.now c.args.key c.args.kept distinct c.requires),
    )

pub returns-clause-ok : goal.returns-clause-ok
returns-clause-ok c =
    let room : length c.in_ok-map.map.entries ≤ c.in_ok-map.map.cap - 1 = omega (arith, c.len-count.ensures.fits, c.len-count.ensures.len, c.in_ok-map.ensures.endless) in
    ap (λ m. reverse m.entries) c.in_ok-added.ensures.entries
    ∙ put_behind c.in_ok-map.map c.args.key c.args.kept c.args.self.now c.in_ok-map.ensures.taken c.in_ok-map.ensures.distinct c.requires room
