use Rattle.std.proofs.Common.{◌≡◌, ◌≤◌, ◌++◌, List, false, drop, length, vec_capacity}
use Rattle.doll_entry.specs.declared.asks.Fetched.{Fetched}
use Rattle.doll_entry.specs.declared.entry.Entry.{Entry}
use Rattle.doll_shelf.specs.Fetches.{ReadsAll, any_failed}
use Rattle.doll_shelf.proofs.entries.Entries.fetch_all.Given as goal

abbrev pub invariant-loop-ask : goal.invariant-loop-ask
invariant-loop-ask l = record {
  room : length l.asks ≤ vec_capacity l.found;
  counted : length l.found.items ≡ l.ask-index;
  read : (more : List Fetched) (final : List Entry) → ReadsAll (drop l.ask-index l.asks) l.now more l.self final → ReadsAll l.asks l.now (l.found.items ++ more) l.fn.self final;
  failed : any_failed l.found.items ≡ false;
  fewer : length l.self ≤ length l.fn.self;
}
