use Rattle.std.proofs.Common.{map}
use Rattle.std.specs.List.{zip}
use Rattle.std.proofs.lemmas.Slice.Zip.{either_empty_from_Zip}
use Rattle.doll_commit.specs.Rows.{key_after}
use Rattle.doll_commit.proofs.Pairs.{all_mapped}
use Rattle.doll_commit.proofs.rows.keys_after.Goals as goal

pub returns : goal.returns
returns c =
    let at = c.loop-association.association-iterator in
    all_mapped (key_after c.args.given.now) c.loop-association.keys (map (key_after c.args.given.now) (zip c.args.associations.now c.args.old.now)) at.a.rest.now at.b.rest.now (either_empty_from_Zip at c.next.new.self c.next.result c.in-None.is c.next.ensures.steps) c.loop-association.invariant
