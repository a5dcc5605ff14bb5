use Rattle.std.proofs.lemmas.List.Sorted.{searched}
use Rattle.doll_table.proofs.id_list.seek.Goals as goal

pub returns : goal.returns
returns c = searched c.args.ids.now c.args.id c.binary_search.result c.binary_search.ensures.position c.requires
