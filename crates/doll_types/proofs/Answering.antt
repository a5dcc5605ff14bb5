-- What is answered once all that pages reach is there.
use Rattle.std.proofs.Common.{◌≡◌, ◌≤◌, List, [], length, subst, arith}
use Rattle.std.specs.List.{Contains}
use Rattle.doll_route.specs.declared.route.Route.{Route}
use Rattle.doll_schema.specs.Models.{ModelList}
use Rattle.doll_set.specs.Sets.{ReadSet}
use Rattle.doll_types.specs.declared.fault.TypeFault.{TypeFault}
use Rattle.doll_types.specs.declared.reaching.Reach.{Reach}
use Rattle.doll_types.specs.Faults.{AreInOrder, AreTypeFaults, IsTyped}
use Rattle.doll_types.specs.Reachings.{IsReaching}
use Rattle.doll_types.specs.Sets.{IsTypedSet}
use Rattle.doll_types.proofs.Expanding.{all_there, faults_there}

none_among : (x : TypeFault) → Contains [] x → ⊥
none_among x h = absurd (omega (arith, h.1))

module _ (set : ReadSet) (schema : ModelList) (routes : List Route) (reach : Reach) (r : IsReaching set schema routes reach) (full : length reach.reached ≤ length reach.calls) where
  module _ (once : List TypeFault) (o : AreInOrder reach.faults.items once) where
    pub refused : (once ≡ [] → ⊥) → AreTypeFaults set schema routes once × (once ≡ [] → ⊥)
    refused some = (record { ascend = o.ascend; each = λ fault h. r.faulty fault (o.only fault h); all = λ fault h. o.kept fault (faults_there set schema routes reach r full fault h) }, some)

    pub no_faults : once ≡ [] → IsTyped set schema routes
    no_faults none fault h = none_among fault (subst (λ fs. Contains fs fault) none (o.kept fault (faults_there set schema routes reach r full fault h)))

    pub typed_set : once ≡ [] → IsTypedSet (record { set = set; schema = schema; routes = routes; reached = reach.reached; calls = reach.calls })
    typed_set none = record {
      typed = no_faults none;
      reached = record { each = r.sound; all = all_there set schema routes reach r full };
      each = omega (arith, full, r.within);
      calls = r.numbered;
    }
