use Rattle.std.proofs.Common.{ap, ◌∙◌, not, map}
use Rattle.std.specs.List.{list_any}
use Rattle.std.specs.Str.{bytes_eq}
use Rattle.doll_digest.specs.Registries.{name_added, names_in}
use Rattle.doll_digest.proofs.Names.{among_seen, inserted_names}
use Rattle.doll_views.proofs.views.add_new.Goals as goal

pub returns-clause-told : goal.returns-clause-told
returns-clause-told c =
    c.in_ok-insert.ensures.added
    ∙ ap not (among_seen (λ key. key.items) c.in_ok-name.name.items c.args.seen.now.keys)
    ∙ ap (λ name. not (list_any (bytes_eq name) (names_in c.args.seen.now.keys))) c.in_ok-name.ensures.items

pub returns-clause-added : goal.returns-clause-added
returns-clause-added c =
    ap (map (λ key. key.items)) c.in_ok-insert.ensures.keys
    ∙ inserted_names (λ key. key.items) c.args.seen.now.keys c.in_ok-name.name
    ∙ ap (name_added (names_in c.args.seen.now.keys)) c.in_ok-name.ensures.items
