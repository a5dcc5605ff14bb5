use Rattle.std.proofs.Common.{◌≡◌, ◌++◌, take}
use Rattle.std.specs.List.{flat_map}
use Rattle.doll_lint.specs.Needs.{local_needs, local_standing, place}
use Rattle.doll_lint.proofs.needs.add_locals_needs.Given as goal

-- what the locals so far need, and what they stand for
abbrev pub invariant-loop-local : goal.invariant-loop-local
invariant-loop-local l = record {
  needs : l.needs ≡ l.fn.needs ++ flat_map (local_needs l.setting.schema.now l.scope.typing l.scope.standing (place l.setting.outer l.at)) (take l.local-index l.locals);
  standing : l.standing ≡ local_standing l.setting.schema.now l.scope.typing l.scope.standing (take l.local-index l.locals);
}
