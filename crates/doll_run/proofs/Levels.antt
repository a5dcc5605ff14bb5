-- What a template of a set runs writes what it writes directly.
use Rattle.std.proofs.Common.{◌≡◌, ℕ, zero, suc, ◌<◌, ◌||◌, Bool, true, false, List, [], ◌∷◌, length, Option, None, Some, refl, sym, subst, ◌∙◌, arith}
use Rattle.std.specs.Prelude.{slice_get}
use Rattle.std.specs.List.{AllByRecursion, Contains, list_any}
use Rattle.std.specs.Option.{option_map_or}
use Rattle.std.proofs.lemmas.List.{get_or-map}
use Rattle.doll_graph.specs.Graphs.{Graph, dependencies, has_longer}
use Rattle.doll_route.specs.declared.route.Route.{Route}
use Rattle.doll_set.specs.Sets.{IsSet, ReadSet, tree_at}
use Rattle.doll_set.specs.declared.limits.TheConstants.{LONGEST_CHAIN}
use Rattle.doll_set.specs.declared.template.Template.{Template}
use Rattle.doll_set.proofs.Shallow.{each_there, graph_long, none_longer}
use Rattle.doll_plain.specs.Direct.{Variables, direct}
use Rattle.doll_plain.specs.Pages.{levels_write, scene_in, template_writes}
use Rattle.doll_plain.proofs.Levels.{more_levels}
use Rattle.doll_erb.specs.declared.node.KeyPart.{KeyPart}
use Rattle.doll_schema.specs.Models.{ModelList}
use Rattle.doll_table.specs.Fits.{Fits}
use Rattle.doll_table.specs.Tables.{TableMap}
use Rattle.doll_types.specs.declared.findings.Finding.{Finding}
use Rattle.doll_types.specs.declared.findings.Finding.TheVariants.{Fault, Call}
use Rattle.doll_types.specs.declared.reached.Reached.{Reached}
use Rattle.doll_types.specs.Faults.{IsTyped}
use Rattle.doll_types.specs.Findings.{findings}
use Rattle.doll_types.specs.Reached.{IsReached, called_at, called_by, findings_at}
use Rattle.doll_types.specs.Sound.{HaveTypes}
use Rattle.doll_types.specs.Types.{Typing}
use Rattle.doll_types.proofs.Depending.{calls_depend}
use Rattle.doll_lint.specs.Blocks.{Block, nodes_blocks}
use Rattle.doll_lint.specs.Faults.{IsBlock}
use Rattle.doll_agree.proofs.Lists.{each_of, into_flat, of_each}
use Rattle.doll_agree.proofs.Parts.{AreGood, IsGood}
use Rattle.doll_agree.proofs.Reaching.{reached_good}
use Rattle.doll_entry.specs.declared.asks.Ask.{Ask}
use Rattle.doll_entry.specs.declared.entry.Fresh.{Fresh}
use Rattle.doll_run.specs.Direct.{IsRight, WritesOnly}
use Rattle.doll_run.specs.Pages.{Ground, ground_of, levels_run, template_runs}
use Rattle.doll_run.specs.Rendering.{Keyed}
use Rattle.doll_run.proofs.Nodes.{IsSound, tree_well}
use Rattle.doll_run.proofs.Parts.{written_as}

left_false : (a b : Bool) → (a || b) ≡ false → a ≡ false
left_false true b e = e
left_false false b e = refl

right_false : (a b : Bool) → (a || b) ≡ false → b ≡ false
right_false true b e = absurd (cc e)
right_false false b e = e

-- where none passes a test, each fails it
each_fails : (p : ℕ → Bool) (xs : List ℕ) → list_any p xs ≡ false → AllByRecursion (λ x. p x ≡ false) xs
each_fails p [] none = tt
each_fails p (x ∷ xs) none = (left_false (p x) (list_any p xs) none, each_fails p xs (right_false (p x) (list_any p xs) none))

-- a dependency begins a shorter chain
dependency_short : (graph : Graph) (k number d : ℕ) → number < length graph → has_longer graph (suc k) number ≡ false → Contains (dependencies graph number) d → has_longer graph k d ≡ false
dependency_short graph k number d within short among =
    of_each (λ x. has_longer graph k x ≡ false) (dependencies graph number) d
    (each_fails (has_longer graph k) (dependencies graph number) (sym (get_or-map (list_any (has_longer graph k)) graph number [] false within) ∙ short)) among

module _ (set : ReadSet) (routes : List Route) (schema : ModelList) (table : TableMap) (moment tree : ℕ) (keyed : ℕ → Typing → List KeyPart → Variables → Keyed) (Found : Ask → List ℕ → Type 0) (Made : Fresh → Type 0)
    (s : IsSet set.templates set.graph set.digests) (typed : IsTyped set schema routes) (fits : Fits schema table) (right : (block : Block) → IsBlock set schema routes block → IsRight (ground_of set schema table moment tree keyed) Found Made block) where
  abbrev over : Ground
  over = ground_of set schema table moment tree keyed

  abbrev writes : ℕ → Variables → List ℕ
  writes = template_writes schema table set.templates

  -- a template is its tree, with partials by as many levels
  whole_template : (number : ℕ) (vars : Variables) → direct (scene_in schema table set.templates writes number) (tree_at set.templates number) vars ≡ writes number vars
  unfolding levels_write
  whole_template number vars = more_levels schema table set.templates set.graph set.digests s 1 number vars

  abbrev RunsWell : ℕ → Type 0
  RunsWell levels =
      (number : ℕ) (types : Typing) (vars : Variables) → has_longer set.graph levels number ≡ false → number < length set.templates → IsReached set schema routes (record { template = number; typing = types }) → HaveTypes table types vars
      → WritesOnly Found Made (writes number vars) (levels_run over levels number types vars)

  module _ (levels : ℕ) (well : RunsWell levels) (number : ℕ) (types : Typing) (short : has_longer set.graph (suc levels) number ≡ false) (within : number < length set.templates) (reached : IsReached set schema routes (record { template = number; typing = types })) where
    abbrev own : Reached
    own = record { template = number; typing = types }

    inside : number < length set.graph
    inside = subst (λ n. number < n) (sym (graph_long set.templates set.graph set.digests s)) within

    -- a partial that is rendered here
    call_well : (name : List ℕ) (called : Typing) → Contains (findings_at set schema own) (Call name called) → IsSound over (levels_run over levels) Found Made number (Call name called)
    unfolding called_by
    call_well name called among partial is vars have =
        let one : Reached = record { template = partial; typing = called } in
        let there : Contains (called_by set schema own) one =
        into_flat (called_at set number) (findings_at set schema own) (Call name called) one among
        (subst (λ o. Contains (option_map_or (λ partial. record { template = partial; typing = called } ∷ []) o []) one) (sym is) (0, omega arith, refl)) in
        let depends : Contains (dependencies set.graph number) partial = calls_depend set schema own one s there in
        well partial called vars (dependency_short set.graph levels number partial inside short depends)
        (subst (λ n. partial < n) (graph_long set.templates set.graph set.digests s) (of_each (λ d. d < length set.graph) (dependencies set.graph number) partial (each_there set.templates set.graph set.digests s number) depends))
        (IsReached.by_call own one reached there) have

    finding_well : (f : Finding) → IsGood set schema routes number f → Contains (findings_at set schema own) f → IsSound over (levels_run over levels) Found Made number f
    finding_well (Fault at kind) good among = good
    finding_well (Call name called) good among = call_well name called among

    findings_well : AllByRecursion (IsSound over (levels_run over levels) Found Made number) (findings schema (tree_at set.templates number) types)
    findings_well = by (slice_get set.templates number) refl
      where
        by : (o : Option Template) → slice_get set.templates number ≡ o → AllByRecursion (IsSound over (levels_run over levels) Found Made number) (findings schema (option_map_or (λ (t : Template). t.tree) o []) types)
        by None is = tt
        by (Some t) is =
            each_of (IsSound over (levels_run over levels) Found Made number) (findings schema t.tree types)
            (λ f among.
            finding_well f
            (of_each (IsGood set schema routes number) (findings schema t.tree types) f (subst (λ (o : Option Template). AreGood set schema routes number (findings schema (option_map_or (λ (t : Template). t.tree) o []) types)) is (reached_good set schema routes typed number types reached)) among)
            (subst (λ (o : Option Template). Contains (option_map_or (λ (t : Template). findings schema t.tree types) o []) f) (sym is) among))

    blocks_right : AllByRecursion (IsRight over Found Made) (nodes_blocks schema set.templates number (tree_at set.templates number) types)
    blocks_right =
        each_of (IsRight over Found Made) (nodes_blocks schema set.templates number (tree_at set.templates number) types)
        (λ block among. right block (record { reached = own; is_reached = reached; stands = among }))

    tree_writes : (vars : Variables) → HaveTypes table types vars → WritesOnly Found Made (writes number vars) (levels_run over (suc levels) number types vars)
    unfolding levels_run
    tree_writes vars have =
        written_as Found Made (direct (scene_in schema table set.templates writes number) (tree_at set.templates number) vars) (writes number vars) (levels_run over (suc levels) number types vars) (whole_template number vars)
        (tree_well over (levels_run over levels) Found Made number fits whole_template (tree_at set.templates number) types vars findings_well blocks_right have)

  runs_well : (levels : ℕ) → RunsWell levels
  runs_well zero number types vars short within reached have =
      absurd (cc (sym (get_or-map (λ _. true) set.graph number [] false (subst (λ n. number < n) (sym (graph_long set.templates set.graph set.digests s)) within)) ∙ short))
  runs_well (suc levels) number types vars short within reached have = tree_writes levels (runs_well levels) number types short within reached vars have

  -- the whole of it
  pub template_well : (number : ℕ) (types : Typing) (vars : Variables) → number < length set.templates → IsReached set schema routes (record { template = number; typing = types }) → HaveTypes table types vars
      → WritesOnly Found Made (writes number vars) (template_runs over number types vars)
  template_well number types vars within reached have =
      runs_well LONGEST_CHAIN number types vars (none_longer set.templates set.graph set.digests s number (subst (λ n. number < n) (sym (graph_long set.templates set.graph set.digests s)) within)) within reached have
