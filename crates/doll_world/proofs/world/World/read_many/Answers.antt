use Rattle.std.specs.Prelude.{Vec}
use Rattle.std.specs.declared.alloc.Global.{Global}
use Rattle.doll_entry.specs.declared.asks.Fetched.{Fetched}
use Rattle.doll_world.proofs.Worlds.{after_read_many, read_many_shown}
use Rattle.doll_world.proofs.world.World.read_many.Goals as goal

pub invariant_of-self : goal.invariant_of-self
invariant_of-self g c =
    let inside = c.self.inside in
    let read = c.read_multi in
    after_read_many inside.checked inside.records (g.H.Shelf.entries inside.shelf) (g.H.Shelf.entries read.new.self) c.self.invariant
    (λ (found : Vec Fetched Global). found.items) c.args.asks.now c.args.now read.result read.ensures.found read.ensures.same

pub returns-clause-shown : goal.returns-clause-shown
returns-clause-shown g c =
    let inside = c.self.inside in
    let read = c.read_multi in
    rw (← c.self.view_is) (read_many_shown inside.checked inside.records (g.H.Shelf.entries inside.shelf) (g.H.Shelf.entries read.new.self) c.self.invariant
    (λ (found : Vec Fetched Global). found.items) c.args.asks.now c.args.now read.result read.ensures.found)
