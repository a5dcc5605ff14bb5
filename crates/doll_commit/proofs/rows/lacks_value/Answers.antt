use Rattle.std.specs.List.{list_any, zip}
use Rattle.std.proofs.lemmas.Slice.Zip.{either_empty_from_Zip}
use Rattle.doll_commit.specs.Rows.{lacks_value}
use Rattle.doll_commit.proofs.Pairs.{none_passed}
use Rattle.doll_commit.proofs.rows.lacks_value.Goals as goal

pub returns : goal.returns
returns c =
    let at = c.loop-attribute.attribute-iterator in
    none_passed lacks_value (list_any lacks_value (zip c.args.attributes.now c.args.values.now)) at.a.rest.now at.b.rest.now (either_empty_from_Zip at c.next.new.self c.next.result c.in-None.is c.next.ensures.steps) c.loop-attribute.invariant
