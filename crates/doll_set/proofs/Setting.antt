-- The set that files make, step by step.
use Rattle.std.proofs.Common.{◌≡◌, ℕ, List, length, Result, Ok, Err, ap, sym, ◌∙◌}
use Rattle.std.specs.List.{range_with_len}
use Rattle.std.specs.Result.{IsErrAnd}
use Rattle.std.proofs.lemmas.List.{length-map}
use Rattle.std.proofs.lemmas.List.FromFn.{length-range_with_len}
use Rattle.doll_text.specs.Gives.{Gives}
use Rattle.doll_text.specs.Steps.{◌>>=◌, ◌>>◌}
use Rattle.doll_base.specs.declared.in_memory.ViewFile.{ViewFile}
use Rattle.doll_digest.specs.Registries.{Registered}
use Rattle.doll_digest.specs.declared.registry.DigestFault.{DigestFault}
use Rattle.doll_digest.specs.declared.registry.DigestFault.TheVariants as digest_fault
use Rattle.doll_graph.specs.Graphs.{Graph}
use Rattle.doll_set.specs.declared.fault.SetFault.{SetFault}
use Rattle.doll_set.specs.declared.fault.SetFault.TheVariants.{Memory}
use Rattle.doll_set.specs.declared.template.Template.{Template}
use Rattle.doll_set.specs.Dependencies.{names_of}
use Rattle.doll_set.specs.Digests.{digest_of, digests_of, registered}
use Rattle.doll_set.specs.Faults.{set_fault}
use Rattle.doll_set.specs.Order.{Ascend}
use Rattle.doll_set.specs.Sets.{IsSet, ReadSet, linked_graph, or_refused, set_of, templates_of}
use Rattle.doll_set.proofs.Linking.{links_behind}
use Rattle.doll_set.proofs.Reading.{read_holds}

-- a clash that a registry tells
pub clashes : {X : Type 0} (expected result : Result X SetFault) (fault : DigestFault) → IsErrAnd result (λ e. e ≡ set_fault fault) → ((fault ≡ digest_fault.Memory → ⊥) → expected ≡ Err (set_fault fault)) → Gives Memory expected result
clashes expected (Ok x) fault is gives = absurd is
clashes expected (Err e) fault is gives = λ known. gives (λ same. known (is ∙ ap set_fault same)) ∙ ap Err (sym is)

pub names_ascend : (files : List ViewFile) (templates : List Template) → templates_of files ≡ Ok templates → Ascend (names_of templates)
names_ascend files templates read = (read_holds files templates read).0

-- what is made of slices is made of what they hold
pub of_held : {X Y R : Type 0} (make : X → Y → R) (x slice : X) (y other : Y) (r : R) → slice ≡ x → other ≡ y → make slice other ≡ r → make x y ≡ r
of_held make x slice y other r same alike made = ap (λ one. make one y) (sym same) ∙ ap (make slice) (sym alike) ∙ made

module _ (hash : List ℕ → List ℕ) (registry : Registered) (files : List ViewFile) where
  abbrev digested : List Template → Graph → Result Registered DigestFault → Result ReadSet SetFault
  digested templates graph made = or_refused made >> Ok (record { templates = templates; graph = graph; digests = digests_of hash templates graph })

  abbrev with_graph : List Template → Result Graph SetFault → Result ReadSet SetFault
  with_graph templates made = made >>= (λ graph. digested templates graph (registered hash registry templates graph))

  abbrev with_templates : Result (List Template) SetFault → Result ReadSet SetFault
  with_templates made = made >>= (λ templates. with_graph templates (linked_graph templates))

  pub no_templates : (fault : SetFault) → templates_of files ≡ Err fault → set_of hash registry files ≡ Err fault
  unfolding set_of
  no_templates fault read = ap with_templates read

  pub no_graph : (templates : List Template) (fault : SetFault) → templates_of files ≡ Ok templates → linked_graph templates ≡ Err fault → set_of hash registry files ≡ Err fault
  unfolding set_of
  no_graph templates fault read linked = ap with_templates read ∙ ap (with_graph templates) linked

  pub no_digests : (templates : List Template) (graph : Graph) (fault : DigestFault) → templates_of files ≡ Ok templates → linked_graph templates ≡ Ok graph → registered hash registry templates graph ≡ Err fault → set_of hash registry files ≡ Err (set_fault fault)
  unfolding set_of
  no_digests templates graph fault read linked entered = ap with_templates read ∙ ap (with_graph templates) linked ∙ ap (digested templates graph) entered

  pub whole_set : (templates : List Template) (graph : Graph) (digests : List (List ℕ)) (after : Registered) → templates_of files ≡ Ok templates → linked_graph templates ≡ Ok graph → registered hash registry templates graph ≡ Ok after → digests ≡ digests_of hash templates graph
      → set_of hash registry files ≡ Ok (record { templates = templates; graph = graph; digests = digests })
  unfolding set_of
  whole_set templates graph digests after read linked entered are =
      ap with_templates read ∙ ap (with_graph templates) linked ∙ ap (digested templates graph) entered ∙ ap (λ ds. Ok (record { templates = templates; graph = graph; digests = ds })) (sym are)

  pub is_set : (templates : List Template) (graph : Graph) (digests : List (List ℕ)) → templates_of files ≡ Ok templates → linked_graph templates ≡ Ok graph → digests ≡ digests_of hash templates graph → IsSet templates graph digests
  is_set templates graph digests read linked are =
      let holds = read_holds files templates read in
      let behind = links_behind templates graph linked in
      record {
        ascend = holds.0;
        parsed = holds.1;
        links = behind.0;
        linked_so = behind.1.0;
        graph_is = behind.1.1;
        digests_long = ap length are ∙ length-map (range_with_len 0 (length templates)) (digest_of hash templates graph) ∙ length-range_with_len 0 (length templates);
      }
