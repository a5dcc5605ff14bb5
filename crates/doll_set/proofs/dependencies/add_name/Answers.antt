use Rattle.std.proofs.Common.{ap, ◌∙◌, map}
use Rattle.doll_digest.specs.Registries.{name_added}
use Rattle.doll_digest.proofs.Names.{inserted_names}
use Rattle.doll_set.proofs.dependencies.add_name.Goals as goal

pub returns : goal.returns
returns c =
    ap (map (λ name. name.items)) c.in_ok-insert_full.ensures.keys
    ∙ inserted_names (λ name. name.items) c.args.names.now.keys c.in_ok-name.name
    ∙ ap (name_added (map (λ name. name.items) c.args.names.now.keys)) c.in_ok-name.ensures.items
