use Rattle.std.proofs.Common.{◌≡◌, drop, length}
use Rattle.doll_digest.specs.Registries.{TextsStay}
use Rattle.doll_set.specs.Digests.{AreReady, KnownStay, these_entered}
use Rattle.doll_set.proofs.Known.{AllKnownOnce}
use Rattle.doll_set.proofs.digests.enter_all.Given as goal

-- entering those that are left gives what entering all gives
abbrev pub invariant-loop-number : goal.invariant-loop-number
invariant-loop-number g l = record {
  answer : these_entered g.H.Hash16.hash_of l.templates l.graph l.registry (drop l.number-index l.numbers) ≡ these_entered g.H.Hash16.hash_of l.templates l.graph l.initial.registry l.numbers;
  long : length l.digests ≡ length l.initial.digests;
  stay : KnownStay g.H.Hash16.hash_of l.templates l.graph l.initial.digests l.digests;
  known : AllKnownOnce g.H.Hash16.hash_of l.templates l.graph l.digests (drop l.number-index l.numbers) l.numbers;
  ready : AreReady g.H.Hash16.hash_of l.templates l.graph l.digests (drop l.number-index l.numbers);
  names : l.registry.names ≡ l.initial.registry.names;
  texts : TextsStay l.initial.registry.texts l.registry.texts;
}
