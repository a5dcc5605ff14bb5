use Rattle.std.proofs.Common.{ap, ◌∙◌, map}
use Rattle.std.specs.List.{position_or_len}
use Rattle.std.specs.Str.{bytes_eq}
use Rattle.doll_digest.specs.Registries.{name_added}
use Rattle.doll_digest.proofs.Names.{number_seen, found_number, found_names, inserted_names}
use Rattle.doll_digest.proofs.registry.number_in.Goals as goal

pub returns-in-Some-clause-number : goal.returns-in-Some-clause-number
returns-in-Some-clause-number c = found_number (λ name. name.items) c.args.name.now c.args.names.now.keys c.in-Some.number c.in-Some.ensures.index

pub returns-in-Some-clause-names : goal.returns-in-Some-clause-names
returns-in-Some-clause-names c = found_names (λ name. name.items) c.args.name.now c.args.names.now.keys c.in-Some.ensures.found

pub returns-clause-number : goal.returns-clause-number
returns-clause-number c =
    c.in_ok-number.ensures.index
    ∙ ap (λ name. position_or_len (λ known. bytes_eq name known.items) c.args.names.now.keys) c.in_ok-from_slice.ensures.items
    ∙ number_seen (λ name. name.items) c.args.name.now c.args.names.now.keys

pub returns-clause-names : goal.returns-clause-names
returns-clause-names c =
    ap (map (λ name. name.items)) c.in_ok-number.ensures.keys
    ∙ inserted_names (λ name. name.items) c.args.names.now.keys c.in_ok-from_slice.field-0
    ∙ ap (name_added (map (λ name. name.items) c.args.names.now.keys)) c.in_ok-from_slice.ensures.items
