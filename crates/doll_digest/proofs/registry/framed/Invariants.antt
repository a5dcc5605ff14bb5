use Rattle.std.proofs.Common.{◌≡◌, ◌++◌, take, drop}
use Rattle.std.specs.List.{flat_map}
use Rattle.doll_digest.specs.Framing.{net, framed_dependency}
use Rattle.doll_digest.specs.Registries.{AreNumbered, named, names_in}
use Rattle.doll_digest.proofs.registry.framed.Given as goal

abbrev pub invariant-loop-id : goal.invariant-loop-id
invariant-loop-id l = record {
  made : l.out.items ≡ net l.source ++ flat_map framed_dependency (named (names_in l.names.keys) (take l.id-index l.deps));
  numbered : AreNumbered (names_in l.names.keys) (drop l.id-index l.deps);
}
