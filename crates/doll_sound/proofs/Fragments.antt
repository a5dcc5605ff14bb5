-- Pages that ask by one key are shown the same bytes.
use Rattle.std.proofs.Common.{◌≡◌, ◌<◌, ◌≤◌, ◌-◌, ◌^◌, ℕ, zero, suc, Bool, true, false, cond, List, [], ◌∷◌, ◌++◌, length, map, Option, None, Some, Ok, ◌⊎◌, inl, inr, refl, sym, ap, subst, ◌∙◌, arith}
use Rattle.std.specs.Prelude.{find, nat_le, nat_lt, reverse, slice_get}
use Rattle.std.proofs.lemmas.Bool.Decides.{nat_tests}
use Rattle.std.proofs.lemmas.List.{reverse-append}
use Rattle.std.specs.List.{AllByRecursion, Contains}
use Rattle.std.specs.Option.{option_map_or}
use Rattle.std.specs.Str.{bytes_eq}
use Rattle.std.proofs.lemmas.Slice.Eq.{bytes_eq-Decides}
use Rattle.doll_expr.specs.declared.expr.Expr.{Expr}
use Rattle.doll_expr.specs.declared.expr.Expr.TheVariants as expr
use Rattle.doll_schema.specs.Models.{ModelList}
use Rattle.doll_schema.specs.declared.value.Val.{Val}
use Rattle.doll_schema.specs.declared.value.Val.TheVariants as val
use Rattle.doll_erb.specs.declared.node.KeyPart.{KeyPart}
use Rattle.doll_erb.specs.declared.node.KeyPart.TheVariants as part
use Rattle.doll_erb.specs.Trees.{tree_of}
use Rattle.doll_graph.specs.Graphs.{Graph}
use Rattle.doll_journal.specs.declared.change.Commit.{Commit}
use Rattle.doll_records.specs.Histories.{IsHistory, table_at}
use Rattle.doll_route.specs.declared.route.Route.{Route}
use Rattle.doll_set.specs.declared.template.Template.{Template}
use Rattle.doll_set.specs.Sets.{IsParsed, IsSet, ReadSet, tree_at}
use Rattle.doll_table.specs.Tables.{TableMap}
use Rattle.doll_plain.specs.Direct.{Variables}
use Rattle.doll_lint.specs.Blocks.{Block, blocks_of, item_key, shape_of}
use Rattle.doll_lint.specs.Faults.{IsBlock, IsClean, IsLintFault, shared_fault}
use Rattle.doll_eval.specs.Operations.{nil}
use Rattle.doll_eval.specs.Values.{Meaning, meaning_step, value_of, variable}
use Rattle.doll_expr.specs.declared.expr.Expr.TheFolds.{fold-roll-Expr}
use Rattle.doll_expr.specs.declared.expr.Expr.TheVariants.{rolls-Var}
use Rattle.doll_expr.specs.declared.expr.Expr.TheOpen.{Expr-F}
use Rattle.doll_table.specs.Fits.{Fits}
use Rattle.doll_plain.specs.Direct.{direct}
use Rattle.doll_types.specs.Sound.{HaveTypes}
use Rattle.doll_agree.specs.Bodies.{AreOfOneHistory, body_writes, scene_over}
use Rattle.doll_agree.specs.Keys.{HasSameRow, KeysAgree, PartAgrees}
use Rattle.doll_agree.proofs.Agreeing.{bodies_agree}
use Rattle.doll_agree.proofs.Lists.{each_of}
use Rattle.doll_agree.proofs.Reaching.{block_fine}
use Rattle.doll_past.proofs.Along.{tables_are_along}
use Rattle.doll_set.specs.Dependencies.{names_of}
use Rattle.doll_key.specs.declared.parts.KeyParts.{KeyParts}
use Rattle.doll_key.proofs.Uniqueness.{one_key}
use Rattle.doll_run.specs.Keys.{part_component}
use Rattle.doll_sound.specs.Keys.{key_of}
use Rattle.doll_sound.proofs.Keys.{one_place}
use Rattle.doll_sound.specs.Fragments.{SameBytes, fragment}
use Rattle.doll_sound.specs.Sites.{IsSite}
use Rattle.doll_sound.proofs.Parts.{AreSame, IsTypedPart, all_same, key_same, shapes_same}
use Rattle.doll_sound.proofs.Blocks.{HasSameTag, IsItem, IsTag, tree_numbered}
use Rattle.doll_sound.proofs.Counting.{few_tags}
use Rattle.doll_sound.proofs.Numbers.{IsRun, run_length, run_within, template_runs, tree_numbers}

-- ---- one block of the text

-- a template of a set is parsed
parsed_at : (templates : List Template) (n : ℕ) (t : Template) → AllByRecursion IsParsed templates → slice_get templates n ≡ Some t → (tree_of t.source ≡ Ok t.tree) × (n < length templates)
parsed_at [] n t all is = absurd (cc is)
parsed_at (first ∷ templates) zero t all is = let same : first ≡ t = cc in (subst IsParsed same all.0, omega arith)
parsed_at (first ∷ templates) (suc n) t all is = let rest = parsed_at templates n t all.1 is in (rest.0, omega (arith, rest.1))

module _ (templates : List Template) (graph : Graph) (digests : List (List ℕ)) (s : IsSet templates graph digests) where
  -- the tags of each template are numbered, with numbers that no item has
  pub numbered_at : (n : ℕ) → (to : ℕ) × IsRun 0 (tree_numbers (tree_at templates n)) to × (to < 2 ^ 32 - 1)
  numbered_at n = by (slice_get templates n) refl
    where
      by : (found : Option Template) → slice_get templates n ≡ found → (to : ℕ) × IsRun 0 (tree_numbers (option_map_or (λ (t : Template). t.tree) found [])) to × (to < 2 ^ 32 - 1)
      by None is = (0, refl, omega arith)
      by (Some t) is =
          let info = parsed_at templates n t s.parsed is in
          let runs = template_runs t.source t.tree info.0 in
          let tree : tree_at templates n ≡ t.tree = ap (λ (found : Option Template). option_map_or (λ (t : Template). t.tree) found []) is in
          let few = few_tags templates graph digests s n info.1 in
          (runs.0, runs.1, omega (arith, few, ap (λ nodes. length (tree_numbers nodes)) tree, run_length 0 runs.0 (tree_numbers t.tree) runs.1))

module _ (set : ReadSet) (schema : ModelList) (routes : List Route) (s : IsSet set.templates set.graph set.digests) where
  abbrev IsItemOf : Block → Type 0
  IsItemOf = IsItem schema set.templates 0

  -- no tag has the number of an item
  no_item : (n : ℕ) (block : Block) → IsTag schema set.templates n (tree_numbers (tree_at set.templates n)) block → IsItemOf block → ⊥
  no_item n block tag item =
      let run = numbered_at set.templates set.graph set.digests s n in
      omega (arith, run.2, run_within 0 run.0 (tree_numbers (tree_at set.templates n)) block.number run.1 tag.1, ap (λ (b : Block). b.number) item.3)

  -- two blocks of one template with one number are one tag, or both are items
  pub one_block : (one other : Block) → IsBlock set schema routes one → IsBlock set schema routes other → one.template ≡ other.template → one.number ≡ other.number
      → HasSameTag one other ⊎ (IsItemOf one × IsItemOf other)
  one_block one other is it template number =
      by ((tree_numbered schema set.templates is.reached.template (tree_at set.templates is.reached.template)).each is.reached.typing one is.stands)
      ((tree_numbered schema set.templates it.reached.template (tree_at set.templates it.reached.template)).each it.reached.typing other it.stands)
    where
      by : IsItemOf one ⊎ IsTag schema set.templates is.reached.template (tree_numbers (tree_at set.templates is.reached.template)) one
          → IsItemOf other ⊎ IsTag schema set.templates it.reached.template (tree_numbers (tree_at set.templates it.reached.template)) other → HasSameTag one other ⊎ (IsItemOf one × IsItemOf other)
      by (inl item) (inl twin) = inr (item, twin)
      by (inl item) (inr tag) =
          let run = numbered_at set.templates set.graph set.digests s it.reached.template in
          absurd (omega (arith, run.2, number, run_within 0 run.0 (tree_numbers (tree_at set.templates it.reached.template)) other.number run.1 tag.1, ap (λ (b : Block). b.number) item.3))
      by (inr tag) (inl item) =
          let run = numbered_at set.templates set.graph set.digests s is.reached.template in
          absurd (omega (arith, run.2, number, run_within 0 run.0 (tree_numbers (tree_at set.templates is.reached.template)) one.number run.1 tag.1, ap (λ (b : Block). b.number) item.3))
      by (inr tag) (inr twin) =
          let n = is.reached.template in
          let run = numbered_at set.templates set.graph set.digests s n in
          let there : it.reached.template ≡ n = sym twin.0 ∙ sym template ∙ tag.0 in
          inl ((tree_numbered schema set.templates n (tree_at set.templates n)).one 0 run.0 run.1 is.reached.typing it.reached.typing one other is.stands
          (subst (λ m. Contains (blocks_of schema set.templates m it.reached.typing) other) there it.stands) (no_item n one tag) (no_item it.reached.template other twin) number)

  -- blocks of one template whose keys have one shape have one number
  pub same_number : IsClean set schema routes → (one other : Block) → IsBlock set schema routes one → IsBlock set schema routes other → one.template ≡ other.template
      → shape_of schema one ≡ shape_of schema other → one.number ≡ other.number
  same_number clean one other is it template shape = by (nat_lt one.number other.number) (nat_lt other.number one.number) refl refl
    where
      by : (below above : Bool) → nat_lt one.number other.number ≡ below → nat_lt other.number one.number ≡ above → one.number ≡ other.number
      by true above e f = let lower : one.number < other.number = grind (arith, nat_tests) in absurd (clean (shared_fault set one other) (IsLintFault.of_pair one other is it template lower shape))
      by false true e f = let lower : other.number < one.number = grind (arith, nat_tests) in absurd (clean (shared_fault set other one) (IsLintFault.of_pair other one it is (sym template) lower (sym shape)))
      by false false e f = grind (arith, nat_tests)

-- ---- variables

-- the value of a variable by itself
var_value : (name : List ℕ) (vars : Variables) (schema : ModelList) (table : TableMap) → value_of (expr.Var name) vars schema table ≡ variable vars name
var_value name vars schema table =
    ap (λ e. value_of e vars schema table) (sym (rolls-Var name)) ∙ ap (λ (m : Meaning). (m vars schema table).value) (fold-roll-Expr Meaning meaning_step (Expr-F.Var name))

last_variable : (vars : Variables) (name : List ℕ) (v : Val) (wanted : List ℕ) (b : Bool) → bytes_eq name wanted ≡ b → variable (vars ++ (name, v) ∷ []) wanted ≡ cond b v (variable vars wanted)
last_variable vars name v wanted b e =
    ap (λ r. option_map_or (λ (b : List ℕ × Val). b.1) (find (λ (b : List ℕ × Val). bytes_eq b.0 wanted) r) nil) (reverse-append vars ((name, v) ∷ []))
    ∙ ap (λ t. option_map_or (λ (b : List ℕ × Val). b.1) (cond t (Some (name, v)) (find (λ (b : List ℕ × Val). bytes_eq b.0 wanted) (reverse vars))) nil) e
    ∙ by b
  where
    by : (b : Bool) → option_map_or (λ (b : List ℕ × Val). b.1) (cond b (Some (name, v)) (find (λ (b : List ℕ × Val). bytes_eq b.0 wanted) (reverse vars))) nil ≡ cond b v (variable vars wanted)
    by true = refl
    by false = refl

-- of a variable behind others its own value counts
variable_behind : (vars : Variables) (name : List ℕ) (v : Val) → variable (vars ++ (name, v) ∷ []) name ≡ v
variable_behind vars name v = last_variable vars name v name true ((bytes_eq-Decides name name).1 refl)

-- a variable behind others that has the value of another leaves that one its value
variable_kept : (vars : Variables) (name other : List ℕ) → variable (vars ++ (name, variable vars other) ∷ []) other ≡ variable vars other
variable_kept vars name other = by (bytes_eq name other) refl
  where
    by : (b : Bool) → bytes_eq name other ≡ b → variable (vars ++ (name, variable vars other) ∷ []) other ≡ variable vars other
    by true e = last_variable vars name (variable vars other) other true e
    by false e = last_variable vars name (variable vars other) other false e

-- ---- pages

same_rows : (table : TableMap) (v : Val) → HasSameRow table table v
same_rows table (val.Plain v) = tt
same_rows table (val.Record model id) = refl
same_rows table (val.List model ids) = tt

-- the only part of an item's key that isn't a literal is its variable
item_part : (item : List ℕ) (e : Expr) → Contains (item_key item) (part.Path e) → e ≡ expr.Var item
item_part item e (zero, within, same) = cc
item_part item e (suc zero, within, same) = absurd (cc same)
item_part item e (suc (suc n), within, same) = absurd (omega (arith, within))

module _ (set : ReadSet) (schema : ModelList) (routes : List Route) (site : IsSite set schema routes) (table later : TableMap) (history : AreOfOneHistory schema table later) (still : AreOfOneHistory schema later later)
    (fits : Fits schema table) (fits_later : Fits schema later) (block twin : Block) (is : IsBlock set schema routes block) (it : IsBlock set schema routes twin)
    (vars more : Variables) (have : HaveTypes table block.typing vars) (had : HaveTypes later twin.typing more) (template : block.template ≡ twin.template) where
  abbrev Agree : List KeyPart → List KeyPart → Type 0
  Agree = AreSame schema table later history site.plurals block.typing twin.typing vars more fits fits_later have had

  -- the writing of a body goes by its template and its nodes
  writes_same : (over : TableMap) (with : Variables) → block.body ≡ twin.body → body_writes schema over set.templates block with ≡ body_writes schema over set.templates twin with
  writes_same over with body = λ i. direct (scene_over schema over set.templates (template i)) (body i) with

  tags_agree : HasSameTag block twin → Agree block.key twin.key → fragment set schema block table vars ≡ fragment set schema twin later more
  tags_agree tag agree =
      bodies_agree set schema routes block table later vars more site.typed site.clean is fits fits_later history have
      (key_same schema table later history site.plurals block.typing twin.typing vars more fits fits_later have had block.key (subst (Agree block.key) (sym tag.0) agree))
      ∙ writes_same later more tag.1

  -- Items of one partial may have variables of different names. The page with both variables joins the two.
  items_agree : IsItem schema set.templates 0 block → IsItem schema set.templates 0 twin → Agree block.key twin.key → fragment set schema block table vars ≡ fragment set schema twin later more
  items_agree item other agree =
      bodies_agree set schema routes block table later vars wide site.typed site.clean is fits fits_later history have here_agree
      ∙ writes_same later wide body
      ∙ sym (bodies_agree set schema routes twin later later more wide site.typed site.clean it fits_later fits_later still had there_agree)
    where
      name : List ℕ
      name = item.1

      twin_name : List ℕ
      twin_name = other.1

      wide : Variables
      wide = more ++ (name, variable more twin_name) ∷ []

      key_is : block.key ≡ item_key name
      key_is = ap (λ (b : Block). b.key) item.3

      twin_key_is : twin.key ≡ item_key twin_name
      twin_key_is = ap (λ (b : Block). b.key) other.3

      partials : item.0 ≡ other.0
      partials = sym (ap (λ (b : Block). b.template) item.3) ∙ template ∙ ap (λ (b : Block). b.template) other.3

      body : block.body ≡ twin.body
      body = ap (λ (b : Block). b.body) item.3 ∙ ap (tree_at set.templates) partials ∙ sym (ap (λ (b : Block). b.body) other.3)

      items : Agree (item_key name) (item_key twin_name)
      items = subst (λ k. Agree k (item_key twin_name)) key_is (subst (Agree block.key) twin_key_is agree)

      here_agree : KeysAgree schema table later vars wide block.key
      here_agree e among =
          subst (PartAgrees schema table later vars wide) (sym (item_part name e (subst (λ k. Contains k (part.Path e)) key_is among)))
          (record {
            value = items.0.0 ∙ var_value twin_name more schema later ∙ sym (variable_behind more name (variable more twin_name)) ∙ sym (var_value name wide schema later);
            row = items.0.1;
          })

      there_agree : KeysAgree schema later later more wide twin.key
      there_agree e among =
          subst (PartAgrees schema later later more wide) (sym (item_part twin_name e (subst (λ k. Contains k (part.Path e)) twin_key_is among)))
          (record {
            value = var_value twin_name more schema later ∙ sym (variable_kept more name twin_name) ∙ sym (var_value twin_name wide schema later);
            row = same_rows later (value_of (expr.Var twin_name) more schema later);
          })

-- ---- histories

-- two tables of a history are of one history, and fit the schema
record AreOf (schema : ModelList) (table later : TableMap) : Type 0 where
  history : AreOfOneHistory schema table later
  fits : Fits schema table
  fits_later : Fits schema later

along : (schema : ModelList) (history : List Commit) (i j : ℕ) (table later : TableMap) → IsHistory schema history → i ≤ length history → j ≤ length history
    → table_at schema history i ≡ Some table → table_at schema history j ≡ Some later → AreOf schema table later
along schema history i j table later is within_i within_j at_i at_j = by (nat_le i j) refl
  where
    by : (b : Bool) → nat_le i j ≡ b → AreOf schema table later
    by true e =
        let order : i ≤ j = grind (arith, nat_tests) in
        let a = tables_are_along schema history i j table later is order within_j at_i at_j in
        record { history = inl a.later; fits = a.fits_before; fits_later = a.fits_after }
    by false e =
        let order : j ≤ i = grind (arith, nat_tests) in
        let a = tables_are_along schema history j i later table is order within_i at_j at_i in
        record { history = inr a.later; fits = a.fits_after; fits_later = a.fits_before }

pub same_bytes : SameBytes
same_bytes set schema routes history site is_history i j table later block twin vars more text versions asks asked = by (one_block set schema routes site.read block twin asks.reached asked.reached template number)
  where
    tables : AreOf schema table later
    tables = along schema history i j table later is_history asks.within asked.within asks.table_is asked.table_is

    still : AreOf schema later later
    still = along schema history j j later later is_history asked.within asked.within asked.table_is asked.table_is

    keys : key_of set schema block table vars ≡ key_of set schema twin later more
    keys = one_key (key_of set schema block table vars) (key_of set schema twin later more) asks.key.is_key asked.key.is_key (asks.key.text_is ∙ sym asked.key.text_is)

    template : block.template ≡ twin.template
    template = one_place (names_of set.templates) site.read.ascend block.template twin.template asks.key.is_key.path (ap (λ (k : KeyParts). k.path) keys)

    components : map (part_component schema table block.typing vars) block.key ≡ map (part_component schema later twin.typing more) twin.key
    components = ap (λ (k : KeyParts). k.components) keys

    number : block.number ≡ twin.number
    number =
        same_number set schema routes site.read site.clean block twin asks.reached asked.reached template
        (shapes_same schema site.plurals table later block.typing twin.typing vars more block.key twin.key asks.key.is_key.components components)

    typed_parts : (one : Block) → IsBlock set schema routes one → AllByRecursion (IsTypedPart schema table later tables.history site.plurals block.typing twin.typing vars more tables.fits tables.fits_later asks.key.types asked.key.types one.typing) one.key
    typed_parts one is = each_of _ one.key (λ p among. part_typed p among)
      where
        part_typed : (p : KeyPart) → Contains one.key p → IsTypedPart schema table later tables.history site.plurals block.typing twin.typing vars more tables.fits tables.fits_later asks.key.types asked.key.types one.typing p
        part_typed (part.Path e) among = (block_fine set schema routes site.typed one is).parts e among
        part_typed (part.Literal text) among = tt

    agree : AreSame schema table later tables.history site.plurals block.typing twin.typing vars more tables.fits tables.fits_later asks.key.types asked.key.types block.key twin.key
    agree =
        all_same schema table later tables.history site.plurals block.typing twin.typing vars more tables.fits tables.fits_later asks.key.types asked.key.types block.key twin.key
        (typed_parts block asks.reached) (typed_parts twin asked.reached) asks.key.is_key.components components (asks.key.versions_are ∙ sym asked.key.versions_are)

    by : HasSameTag block twin ⊎ (IsItemOf set schema routes site.read block × IsItemOf set schema routes site.read twin) → fragment set schema block table vars ≡ fragment set schema twin later more
    by (inl tag) =
        tags_agree set schema routes site table later tables.history still.history tables.fits tables.fits_later block twin asks.reached asked.reached vars more asks.key.types asked.key.types template tag agree
    by (inr items) =
        items_agree set schema routes site table later tables.history still.history tables.fits tables.fits_later block twin asks.reached asked.reached vars more asks.key.types asked.key.types template items.0 items.1 agree
