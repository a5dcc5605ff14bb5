use Rattle.std.proofs.Common.{◌∙◌, ap}
use Rattle.doll_pages.specs.Maps.{map_of}
use Rattle.doll_pages.proofs.Mapped.{map_of_none}
use Rattle.doll_pages.proofs.map.PageMap.new.Goals as goal

pub returns : goal.returns
returns g c = ap map_of c.in_ok-root.ensures ∙ map_of_none
