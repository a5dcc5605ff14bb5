use Rattle.doll_world.proofs.Worlds.{after_write_call}
use Rattle.doll_world.proofs.world.World.write.Goals as goal

pub invariant_of-self : goal.invariant_of-self
invariant_of-self g c =
    let inside = c.self.inside in
    let write = c.write in
    let sound = rw (← c.self.view_is) at c.requires.sound in
    after_write_call inside.checked inside.records (g.H.Shelf.entries inside.shelf) (g.H.Shelf.entries write.new.self) c.self.invariant
    (g.H.Shelf.settings inside.shelf) (g.H.Shelf.writes inside.shelf) (g.H.Shelf.writes write.new.self) c.args.fresh c.args.now write.result
    sound write.ensures.written write.ensures.refused
