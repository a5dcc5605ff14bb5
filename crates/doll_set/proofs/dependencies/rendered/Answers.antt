use Rattle.std.proofs.lemmas.Slice.Zip.{either_empty_from_Zip}
use Rattle.doll_set.specs.Dependencies.{rendered}
use Rattle.doll_set.proofs.Beside.{all_rendered}
use Rattle.doll_set.proofs.dependencies.rendered.Goals as goal

pub returns : goal.returns
returns c =
    let at = c.loop-tag.tag-iterator in
    all_rendered c.loop-tag.ids (rendered c.args.tags.now c.args.numbers.now) at.a.rest.now at.b.rest.now (either_empty_from_Zip at c.next.new.self c.next.result c.in-None.is c.next.ensures.steps) c.loop-tag.invariant
