use Rattle.std.proofs.Common.{◌≡◌, ◌+◌, ◌-◌, ◌<◌, length, drop, get_or, sym, ap, subst, ◌∙◌, arith}
use Rattle.doll_schema.specs.declared.model.Schema.{Schema}
use Rattle.doll_table.specs.Tables.{TableMap, without_row, without_rows}
use Rattle.doll_commit.specs.Refs.{Ref}
use Rattle.doll_commit.proofs.Closures.{has_at}
use Rattle.doll_commit.proofs.Removing.{without_at}
use Rattle.doll_commit.proofs.removal.remove_each.Goals as goal

pub remove-requires : goal.remove-requires
remove-requires c =
    let removed = c.args.removed.now in
    let at = c.loop-left.left - 1 in
    let within : at < length removed = omega (arith, c.loop-left.invariant.within, c.loop-left-test.true) in
    subst (λ (s : Schema). (get_or removed at (0, 0)).0 < length s.models) (sym c.loop-left.invariant.schema) (c.requires (get_or removed at (0, 0)) (has_at removed at (0, 0) within))

pub loop-left-preserved : goal.loop-left-preserved
loop-left-preserved c =
    let first = c.args.table.now in
    let removed = c.args.removed.now in
    let at = c.loop-left.left - 1 in
    let one : Ref = get_or removed at (0, 0) in
    let within : at < length removed = omega (arith, c.loop-left.invariant.within, c.loop-left-test.true) in
    let next : c.loop-left.left ≡ at + 1 = omega (arith, c.loop-left-test.true) in
    record {
      so_far = c.in_ok-remove.ensures.ok
          ∙ (ap (λ (t : TableMap). without_row t one.0 one.1) c.loop-left.invariant.so_far
          ∙ (ap (λ n. without_row (without_rows first (drop n removed)) one.0 one.1) next ∙ without_at first removed at (0, 0) within));
      within = omega (arith, c.loop-left.invariant.within, c.loop-left-test.true);
      schema = ap (λ (t : TableMap). t.schema) c.in_ok-remove.ensures.ok ∙ c.loop-left.invariant.schema;
    }
