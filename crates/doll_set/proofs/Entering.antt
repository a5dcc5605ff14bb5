-- Layers of templates entered one after another.
use Rattle.std.proofs.Common.{◌≡◌, ℕ, ◌+◌, ◌-◌, ◌<◌, ◌≤◌, List, Ok, Err, ap, sym, subst, ◌∙◌, arith}
use Rattle.std.specs.List.{flat_map, range_with_len}
use Rattle.doll_digest.specs.declared.registry.DigestFault.{DigestFault}
use Rattle.doll_digest.specs.Registries.{Registered}
use Rattle.doll_graph.specs.Graphs.{Graph, layer}
use Rattle.doll_set.specs.declared.template.Template.{Template}
use Rattle.doll_set.specs.Digests.{in_layers, these_entered}
use Rattle.doll_set.proofs.Entries.{fault_of_these, layers_from, more_of_these}

-- the layers from n on
abbrev pub layers_since : Graph → ℕ → ℕ → List ℕ
layers_since graph most n = flat_map (layer graph) (range_with_len n (most - n))

module _ (hash : List ℕ → List ℕ) (templates : List Template) (graph : Graph) (first : Registered) (most n : ℕ) (registry : Registered)
    (so_far : these_entered hash templates graph registry (layers_since graph most n) ≡ these_entered hash templates graph first (in_layers graph most)) where
  pub layer_entered : (new : Registered) (ns : List ℕ) → n < most → ns ≡ layer graph n → these_entered hash templates graph registry ns ≡ Ok new
      → these_entered hash templates graph new (layers_since graph most (n + 1)) ≡ these_entered hash templates graph first (in_layers graph most)
  layer_entered new ns within is done =
      sym (more_of_these hash templates graph registry new (layer graph n) (layers_since graph most (n + 1))
      (subst (λ ks. these_entered hash templates graph registry ks ≡ Ok new) is done))
      ∙ ap (these_entered hash templates graph registry) (sym (layers_from graph n most within)) ∙ so_far

  pub layer_refused : (fault : DigestFault) (ns : List ℕ) → n < most → ns ≡ layer graph n → these_entered hash templates graph registry ns ≡ Err fault
      → these_entered hash templates graph first (in_layers graph most) ≡ Err fault
  layer_refused fault ns within is failed =
      sym so_far ∙ ap (these_entered hash templates graph registry) (layers_from graph n most within)
      ∙ fault_of_these hash templates graph registry (layer graph n) (layers_since graph most (n + 1)) fault
      (subst (λ ks. these_entered hash templates graph registry ks ≡ Err fault) is failed)

  pub layers_entered : most ≤ n → these_entered hash templates graph first (in_layers graph most) ≡ Ok registry
  unfolding these_entered
  layers_entered over = sym so_far ∙ ap (λ k. these_entered hash templates graph registry (flat_map (layer graph) (range_with_len n k))) none
    where
      none : most - n ≡ 0
      none = omega arith
