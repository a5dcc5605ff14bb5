use Rattle.std.proofs.Common.{◌<◌, ap, length, subst, sym, ◌∙◌}
use Rattle.doll_digest.specs.Registries.{name_at, names_in, number_of}
use Rattle.doll_digest.proofs.Names.{named_at, number_within}
use Rattle.doll_digest.proofs.registry.Registry.name.Goals as goal

pub returns-clause-within : goal.returns-clause-within
returns-clause-within g c =
    let known = names_in c.self.inside.names.keys in
    subst (λ number. number < length (names_in c.number_in.new.names.keys)) (sym c.in_ok-number.ensures.number)
    (subst (λ names. number_of known c.args.name.now < length names) (sym c.in_ok-number.ensures.names) (number_within known c.args.name.now))

pub returns-clause-at : goal.returns-clause-at
returns-clause-at g c =
    let known = names_in c.self.inside.names.keys in
    ap (name_at (names_in c.number_in.new.names.keys)) c.in_ok-number.ensures.number
    ∙ ap (λ names. name_at names (number_of known c.args.name.now)) c.in_ok-number.ensures.names
    ∙ named_at known c.args.name.now
