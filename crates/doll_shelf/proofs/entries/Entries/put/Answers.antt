use Rattle.std.proofs.Common.{ap, arith, length, ◌∙◌}
use Rattle.doll_shelf.specs.Entries as spec
use Rattle.doll_shelf.specs.Kept.{entries_of, entry_kept}
use Rattle.doll_shelf.proofs.Keeping.{less, none_under, put_absent, put_present, resized, set_length, under}
use Rattle.doll_shelf.proofs.entries.Entries.put.Goals as goal

pub overflow_sub-self-inside : goal.overflow_sub-self-inside
overflow_sub-self-inside c =
    let known = under c.args.key c.self.inside.queue c.in-Some.old c.in-Some.ensures in
    omega (arith, less c.args.key c.self.inside.queue known.stored known.at known.known, known.sized, c.self.invariant)

pub invariant_of-self : goal.invariant_of-self
invariant_of-self c =
    let known = under c.args.key c.self.inside.queue c.in-Some.old c.in-Some.ensures in
    let after = ap (λ kept. spec.total_size (entries_of kept)) c.replace.ensures in
    let same = ap (λ key. spec.size_of (entry_kept (key, c.args.kept))) known.known.same in
    omega (
      arith,
      after,
      same,
      resized c.args.key c.self.inside.queue known.stored known.at known.known c.args.kept,
      less c.args.key c.self.inside.queue known.stored known.at known.known,
      known.sized,
      c.in_ok-self-inside-in-Some.ensures,
      c.size_kept-size.ensures,
      c.self.invariant,
    )

pub returns-in_ok-self-inside-in-Some-clause-ok : goal.returns-in_ok-self-inside-in-Some-clause-ok
returns-in_ok-self-inside-in-Some-clause-ok c =
    let known = under c.args.key c.self.inside.queue c.in-Some.old c.in-Some.ensures in
    ap entries_of c.replace.ensures
    ∙ put_present c.self.inside.queue c.args.key c.args.kept known.at known.one
    ∙ ap (spec.put (entry_kept (c.args.key, c.args.kept))) c.self.view_is

pub returns-in_ok-self-inside-in-Some-clause-more : goal.returns-in_ok-self-inside-in-Some-clause-more
returns-in_ok-self-inside-in-Some-clause-more c =
    omega (arith, ap (λ kept. length (entries_of kept)) c.replace.ensures, set_length c.args.key c.self.inside.queue c.args.kept, ap length c.self.view_is)

pub returns-in_ok-push-in-None-clause-ok : goal.returns-in_ok-push-in-None-clause-ok
returns-in_ok-push-in-None-clause-ok c =
    ap entries_of c.in_ok-push-in-None.ensures.ok
    ∙ put_absent c.self.inside.queue c.args.key c.args.kept (none_under c.args.key c.self.inside.queue c.in-None.ensures)
    ∙ ap (spec.put (entry_kept (c.args.key, c.args.kept))) c.self.view_is
