use Rattle.std.proofs.Common.{ap, ◌∙◌}
use Rattle.doll_digest.proofs.Texts.{are_apart}
use Rattle.doll_digest.proofs.registry.Registry.keep.Goals as goal

pub returns-clause-apart : goal.returns-clause-apart
returns-clause-apart g c =
    are_apart g.H.Hash16.hash_of c.self.inside.texts.entries c.keep_in.new.texts.entries c.from_bytes-digest.result c.args.text
    (c.from_bytes-digest.ensures.bytes ∙ c.hash.ensures ∙ ap g.H.Hash16.hash_of c.as_bytes.ensures)
    c.self.invariant c.keep_in.result c.keep_in.ensures.entered c.keep_in.ensures.same c.keep_in.ensures.unique
