use Rattle.std.proofs.Common.{◌∙◌}
use Rattle.doll_pages.proofs.Mapped.{none_first, none_second, none_third, some_page}
use Rattle.doll_pages.proofs.map.PageMap.get.Goals as goal

pub returns-in_default : goal.returns-in_default
returns-in_default g c = none_first c.self.inside.root c.args.self.now c.args.id c.self.view_is c.in_default.ensures

pub returns-in_default-get : goal.returns-in_default-get
returns-in_default-get g c = none_second c.self.inside.root c.args.self.now c.args.id c.self.view_is c.in-Some.first.now c.in-Some.ensures c.in_default-get.ensures

pub returns-in_default-get-2 : goal.returns-in_default-get-2
returns-in_default-get-2 g c = none_third c.self.inside.root c.args.self.now c.args.id c.self.view_is c.in-Some.first.now c.in-Some-get.second.now c.in-Some.ensures c.in-Some-get.ensures c.in_default-get-2.ensures

pub returns : goal.returns
returns g c =
    c.get-4.ensures
    ∙ some_page c.self.inside.root c.args.self.now c.args.id c.self.view_is c.in-Some.first.now c.in-Some-get.second.now c.in-Some-get-2.page.now c.in-Some.ensures c.in-Some-get.ensures c.in-Some-get-2.ensures
