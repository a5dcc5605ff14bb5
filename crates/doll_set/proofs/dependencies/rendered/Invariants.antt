use Rattle.std.proofs.Common.{◌≡◌, ◌++◌}
use Rattle.doll_set.specs.Dependencies as spec
use Rattle.doll_set.proofs.dependencies.rendered.Given as goal

-- the numbers so far and those beside the tags left are those of all
abbrev pub invariant-loop-tag : goal.invariant-loop-tag
invariant-loop-tag l = l.ids ++ spec.rendered l.tag-iterator.a.rest.now l.tag-iterator.b.rest.now ≡ spec.rendered l.tags l.numbers
