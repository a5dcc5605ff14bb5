use Rattle.std.proofs.Common.{rules, ◌+◌, take, drop, length, ◌≡◌, ◌-◌, ◌++◌, ◌∙◌, sym, ap, List, ℕ}
use Rattle.std.proofs.lemmas.List.{take_at}
use Rattle.doll_base.proofs.Streams.{left_from}
use Rattle.doll_base.proofs.in_memory.MemSourceSource.read.Goals as goal

pub returns-clause-bytes : goal.returns-clause-bytes
returns-clause-bytes c =
    let bytes = c.self.inside.bytes.items in
    let at = c.self.inside.at in
    let n = c.min-count.result in
    let front = take n (take (length bytes - at) (drop at bytes)) in
    let moved : c.copy_from_slice.new.self ≡ front = search rules in
    let size : length c.copy_from_slice.new.self ≡ n = search rules in
    let taken : take n (c.copy_from_slice.new.self ++ drop n c.args.into.now) ≡ front = take_at _ _ n size ∙ moved in
    let left : c.args.self.now.left ≡ drop at bytes = search rules in
    left ∙ left_from bytes at n ∙ ap (λ (l : List ℕ). l ++ drop (at + n) bytes) (sym taken)
