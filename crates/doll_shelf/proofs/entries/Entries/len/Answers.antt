use Rattle.std.proofs.Common.{subst, sym}
use Rattle.std.specs.List.{IsDistinct}
use Rattle.std.specs.Str.{bytes_eq}
use Rattle.doll_shelf.specs.Calls.{AreDistinct}
use Rattle.doll_shelf.proofs.Keeping.{keys_seen}
use Rattle.doll_shelf.proofs.entries.Entries.len.Goals as goal

pub returns-clause-distinct : goal.returns-clause-distinct
returns-clause-distinct c =
    subst AreDistinct c.self.view_is (subst (IsDistinct bytes_eq) (sym (keys_seen c.self.inside.queue)) c.len.ensures.distinct)
