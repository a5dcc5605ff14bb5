use Rattle.std.proofs.Common.{◌≡◌, ◌++◌, ◌∷◌, [], true, false, is_ok, ap, sym, ◌∙◌, arith}
use Rattle.doll_commit.specs.Refs.{has}
use Rattle.doll_commit.proofs.Members.{more_beside}
use Rattle.doll_commit.proofs.refs.Refs.add.Goals as goal

pub invariant_of-self-2 : goal.invariant_of-self-2
invariant_of-self-2 c =
    let old = c.self.inside.list.items in
    let ok : is_ok c.push.result ≡ true = c.push.ensures.succeeds (omega (arith, c.in_ok-reserve.ensures.ok)) in
    let pushed : c.push.new.self.items ≡ c.reserve.new.self.items ++ c.args.item ∷ [] = rw ok at c.push.ensures.items in
    let new : has old c.args.item ≡ false = ap (λ xs. has xs c.args.item) c.self.view_is ∙ (sym c.contains.ensures ∙ c.if-contains.false) in
    more_beside c.self.inside.members c.insert.new.self old c.push.new.self.items c.args.item c.self.invariant new c.in_ok-insert.ensures.updates (pushed ∙ ap (λ xs. xs ++ c.args.item ∷ []) c.reserve.ensures.items)
