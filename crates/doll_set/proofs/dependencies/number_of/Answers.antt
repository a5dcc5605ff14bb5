use Rattle.std.proofs.Common.{◌∙◌}
use Rattle.doll_set.proofs.Numbers.{place_seen}
use Rattle.doll_set.proofs.dependencies.number_of.Goals as goal

pub returns : goal.returns
returns c = c.get_index_of.ensures.index ∙ place_seen (λ key. key.items) c.args.path.now c.args.names.now.keys
