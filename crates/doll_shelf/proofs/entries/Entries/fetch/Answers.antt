use Rattle.std.proofs.Common.{◌+◌, ap, arith, length, sym, ◌∙◌}
use Rattle.std.specs.List.{remove, slice_set}
use Rattle.std.specs.Option.{option_map_or}
use Rattle.doll_entry.specs.declared.judging.Judged.TheVariants as becomes
use Rattle.doll_shelf.specs.Entries.{total_size}
use Rattle.doll_shelf.specs.Fetches.{with_expiry}
use Rattle.doll_shelf.specs.Kept.{entries_of, entry_kept}
use Rattle.doll_shelf.specs.Queue.{kept_until}
use Rattle.doll_shelf.proofs.Keeping.{answered_absent, answered_found, place_of_value, place_seen, resized, set_kept, set_length, shared_fetches, shared_tells}
use Rattle.doll_shelf.proofs.entries.Entries.fetch.Goals as goal

pub returns-in_default-clause-found : goal.returns-in_default-clause-found
returns-in_default-clause-found c =
    let e = answered_absent c.args.key.now c.args.versions.now c.args.now c.args.ttl c.self.inside.queue c.args.self.now c.self.view_is c.in_default.ensures in
    (sym (ap (λ p. p.0) e), sym (ap (λ p. p.1) e))

pub returns-in-Live-clause-found : goal.returns-in-Live-clause-found
returns-in-Live-clause-found c =
    let known = place_of_value c.args.key.now c.self.inside.queue c.in-Some.kept.now (sym c.in-Some.ensures) in
    let e = answered_found c.args.key.now c.args.versions.now c.args.now c.args.ttl c.self.inside.queue c.args.self.now c.self.view_is known.1.place known.0 c.in-Some.kept.now (sym known.1.found) known.1.stands becomes.Live c.in-Live.ensures in
    shared_fetches c.in-Some.kept.now.value _ c.shared.result c.args.self.now e c.shared.ensures

pub returns-in-Live-clause-tells : goal.returns-in-Live-clause-tells
returns-in-Live-clause-tells c =
    let known = place_of_value c.args.key.now c.self.inside.queue c.in-Some.kept.now (sym c.in-Some.ensures) in
    let e = answered_found c.args.key.now c.args.versions.now c.args.now c.args.ttl c.self.inside.queue c.args.self.now c.self.view_is known.1.place known.0 c.in-Some.kept.now (sym known.1.found) known.1.stands becomes.Live c.in-Live.ensures in
    shared_tells c.in-Some.kept.now.value _ c.shared.result c.args.self.now e c.shared.ensures

pub returns-in-Mismatch-clause-found : goal.returns-in-Mismatch-clause-found
returns-in-Mismatch-clause-found c =
    let known = place_of_value c.args.key.now c.self.inside.queue c.in-Some.kept.now (sym c.in-Some.ensures) in
    let e = answered_found c.args.key.now c.args.versions.now c.args.now c.args.ttl c.self.inside.queue c.args.self.now c.self.view_is known.1.place known.0 c.in-Some.kept.now (sym known.1.found) known.1.stands becomes.Mismatch c.in-Mismatch.ensures in
    (sym (ap (λ p. p.0) e), sym (ap (λ p. p.1) e))

pub invariant_of-self : goal.invariant_of-self
invariant_of-self c =
    let known = place_of_value c.args.key.now c.self.inside.queue c.in-Some.kept.now (sym c.in-Some.ensures) in
    let new = kept_until (c.counted_time.result + c.args.ttl) c.in-Some.kept.now in
    let set = set_kept c.args.key.now c.self.inside.queue c.in-Some.kept.now (c.counted_time.result + c.args.ttl) c.move_expiry.new.self c.move_expiry.ensures (sym c.in-Some.ensures) in
    omega (arith, c.self.invariant, ap (λ kept. total_size (entries_of kept)) set, resized c.args.key.now c.self.inside.queue known.0 c.in-Some.kept.now known.1 new)

pub returns-in-Bump-clause-found : goal.returns-in-Bump-clause-found
returns-in-Bump-clause-found c =
    let known = place_of_value c.args.key.now c.self.inside.queue c.in-Some.kept.now (sym c.in-Some.ensures) in
    let e = answered_found c.args.key.now c.args.versions.now c.args.now c.args.ttl c.self.inside.queue c.args.self.now c.self.view_is known.1.place known.0 c.in-Some.kept.now (sym known.1.found) known.1.stands becomes.Bump c.in-Bump.ensures in
    let set = set_kept c.args.key.now c.self.inside.queue c.in-Some.kept.now (c.counted_time.result + c.args.ttl) c.move_expiry.new.self c.move_expiry.ensures (sym c.in-Some.ensures) in
    let entry = entry_kept (known.0, c.in-Some.kept.now) in (
      sym (ap (λ p. p.0) e),
      ap entries_of set
          ∙ known.1.set (kept_until (c.counted_time.result + c.args.ttl) c.in-Some.kept.now)
          ∙ ap (λ entries. slice_set entries known.1.place (with_expiry (c.counted_time.result + c.args.ttl) entry)) c.self.view_is
          ∙ ap (λ time. slice_set c.args.self.now known.1.place (with_expiry (time + c.args.ttl) entry)) c.counted_time.ensures.value
          ∙ sym (ap (λ p. p.1) e),
    )

pub returns-in-Bump-clause-fewer : goal.returns-in-Bump-clause-fewer
returns-in-Bump-clause-fewer c =
    let set = set_kept c.args.key.now c.self.inside.queue c.in-Some.kept.now (c.counted_time.result + c.args.ttl) c.move_expiry.new.self c.move_expiry.ensures (sym c.in-Some.ensures) in
    let same = set_length c.args.key.now c.self.inside.queue (kept_until (c.counted_time.result + c.args.ttl) c.in-Some.kept.now) in
    omega (arith, same, ap (λ kept. length (entries_of kept)) set, ap length c.self.view_is)

pub returns-in-Dead-clause-found : goal.returns-in-Dead-clause-found
returns-in-Dead-clause-found c =
    let known = place_of_value c.args.key.now c.self.inside.queue c.in-Some.kept.now (sym c.in-Some.ensures) in
    let e = answered_found c.args.key.now c.args.versions.now c.args.now c.args.ttl c.self.inside.queue c.args.self.now c.self.view_is known.1.place known.0 c.in-Some.kept.now (sym known.1.found) known.1.stands becomes.Dead c.in-Dead.ensures in
    let there = place_seen c.args.key.now c.self.inside.queue c.args.self.now c.self.view_is ∙ known.1.found in
    (sym (ap (λ p. p.0) e), c.remove.ensures ∙ ap (λ o. option_map_or (remove c.args.self.now) o c.args.self.now) there ∙ sym (ap (λ p. p.1) e))
