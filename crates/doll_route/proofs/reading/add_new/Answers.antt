use Rattle.std.proofs.Common.{ap, ◌∙◌, not, bytes_eq}
use Rattle.std.specs.List.{list_any}
use Rattle.doll_route.specs.Routes.{texts_in}
use Rattle.doll_route.proofs.Distinct.{among_seen}
use Rattle.doll_route.proofs.reading.add_new.Goals as goal

pub returns-clause-told : goal.returns-clause-told
returns-clause-told c =
    c.in_ok-insert.ensures.added
    ∙ ap not (among_seen (λ key. key.items) c.in_ok-name.name.items c.args.seen.now.keys)
    ∙ ap (λ name. not (list_any (bytes_eq name) (texts_in c.args.seen.now.keys))) c.in_ok-name.ensures.items
