use Rattle.std.proofs.Common.{◌≡◌, ◌+◌, ◌-◌, drop, take}
use Rattle.std.specs.List.{prefix_len}
use Rattle.doll_shelf.specs.Batches.{is_older}
use Rattle.doll_shelf.proofs.entries.Entries.remove_older.Given as goal

abbrev pub invariant-loop-count : goal.invariant-loop-count
invariant-loop-count l = record {
  left : l.self ≡ drop l.count l.fn.self;
  counted : l.count + prefix_len (is_older l.age l.time) (take (l.most - l.count) l.self) ≡ prefix_len (is_older l.age l.time) (take l.most l.fn.self);
}
