use Rattle.doll_world.proofs.Worlds.{after_read, read_shown}
use Rattle.doll_world.proofs.world.World.read.Goals as goal

pub invariant_of-self : goal.invariant_of-self
invariant_of-self g c =
    let inside = c.self.inside in
    after_read inside.checked inside.records (g.H.Shelf.entries inside.shelf) (g.H.Shelf.entries c.fetch-found.new.self) c.self.invariant
    c.args.ask.now c.args.now (g.H.Shelf.settings inside.shelf).race_ttl c.fetch-found.result c.fetch-found.ensures.found

pub returns-clause-shown : goal.returns-clause-shown
returns-clause-shown g c =
    let inside = c.self.inside in
    rw (← c.self.view_is) (read_shown inside.checked inside.records (g.H.Shelf.entries inside.shelf) (g.H.Shelf.entries c.fetch-found.new.self) c.self.invariant
    c.args.ask.now c.args.now (g.H.Shelf.settings inside.shelf).race_ttl c.fetch-found.result c.fetch-found.ensures.found)
