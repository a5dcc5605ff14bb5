use Rattle.std.proofs.Common.{◌≡◌, ◌≤◌, ◌-◌, length}
use Rattle.std.specs.List.{flat_map, range_with_len}
use Rattle.doll_digest.specs.Registries.{TextsStay}
use Rattle.doll_graph.specs.Graphs.{layer}
use Rattle.doll_set.specs.Digests.{AreKnown, in_layers, these_entered}
use Rattle.doll_set.proofs.digests.enter_layers.Given as goal

-- entering the layers that are left gives what entering all gives; what is in the layers so far is known
abbrev pub invariant-loop-length : goal.invariant-loop-length
invariant-loop-length g l = record {
  answer : these_entered g.H.Hash16.hash_of l.templates l.graph l.registry (flat_map (layer l.graph) (range_with_len l.length (l.most - l.length)))
      ≡ these_entered g.H.Hash16.hash_of l.templates l.graph l.initial.registry (in_layers l.graph l.most);
  known : AreKnown g.H.Hash16.hash_of l.templates l.graph l.digests l.length;
  long : length l.digests ≡ length l.initial.digests;
  names : l.registry.names ≡ l.initial.registry.names;
  texts : TextsStay l.initial.registry.texts l.registry.texts;
  within : l.length ≤ l.most;
}
