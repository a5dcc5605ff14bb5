use Rattle.doll_pages.proofs.Mapped.{map_changed}
use Rattle.doll_pages.proofs.map.PageMap.edit.Goals as goal

pub returns-clause-ok : goal.returns-clause-ok
returns-clause-ok g c = map_changed c.args.id (g.E.Edit.gives c.args.edit) c.self.inside.root c.edit.new.self c.args.self.now c.self.view_is c.in_ok-edit.ensures.ok
