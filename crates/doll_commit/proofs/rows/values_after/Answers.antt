use Rattle.std.proofs.Common.{map}
use Rattle.std.specs.List.{zip}
use Rattle.std.proofs.lemmas.Slice.Zip.{either_empty_from_Zip}
use Rattle.doll_commit.specs.Rows.{value_after}
use Rattle.doll_commit.proofs.Pairs.{all_mapped}
use Rattle.doll_commit.proofs.rows.values_after.Goals as goal

pub returns : goal.returns
returns c =
    let at = c.loop-attribute.attribute-iterator in
    all_mapped (value_after c.args.given.now) c.loop-attribute.values (map (value_after c.args.given.now) (zip c.args.attributes.now c.args.old.now)) at.a.rest.now at.b.rest.now (either_empty_from_Zip at c.next.new.self c.next.result c.in-None.is c.next.ensures.steps) c.loop-attribute.invariant
