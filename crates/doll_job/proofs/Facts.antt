-- Small facts that several parts of the recursion want.
use Rattle.std.proofs.Common.{◌≡◌, ℕ, ◌-◌, ◌<◌, ◌≤◌, true, false, List, [], ◌∷◌, ◌++◌, take, length, get_or, Option, None, Some, Result, Ok, Err, refl, ap, sym, subst, ◌∙◌}
use Rattle.std.specs.Prelude.{IfOk, IsSome, OnOk, nat_lt, slice_get}
use Rattle.std.proofs.lemmas.Bool.{ltb-false, ltb-true}
use Rattle.std.proofs.lemmas.List.{length-map}
use Rattle.std.proofs.lemmas.Option.{slice_get_past, slice_get_read}
use Rattle.doll_erb.specs.declared.node.Node.{Node}
use Rattle.doll_set.specs.declared.template.Template.{Template}
use Rattle.doll_set.specs.Dependencies.{names_of, partial_of}
use Rattle.doll_set.proofs.Depending.{position_within}
use Rattle.doll_schema.specs.declared.value.Val.{Val}
use Rattle.doll_schema.specs.declared.value.Val.TheVariants as val
use Rattle.doll_table.specs.Tables.{TableMap, row_of}
use Rattle.doll_eval.specs.Living.{AreLiving}
use Rattle.doll_plain.proofs.Parts.{alone_lives, front_is}
use Rattle.doll_types.specs.declared.types.ValueType.{ValueType}
use Rattle.doll_frames.specs.Carried.{NodeGoes, NodesGo, TemplateGoes}
use Rattle.doll_frames.specs.Flows.{is_done}
use Rattle.doll_frames.specs.Stacks.{KeptLives, Stopped}
use Rattle.doll_frames.specs.declared.context.Context.{Context}
use Rattle.doll_frames.specs.declared.flow.Flow.{Flow}
use Rattle.doll_frames.specs.declared.flow.Flow.TheVariants as flow
use Rattle.doll_frames.specs.declared.frame.Kept.{Kept}
use Rattle.doll_frames.specs.declared.frame.KeptItem.{KeptItem}
use Rattle.doll_frames.specs.declared.scope.Scope.{Scope}
use Rattle.doll_job.specs.Steps.{IsMissed}

-- what is so of any answer is so of another's
pub if_ok : {X E : Type 0} {P Q : X → Type 0} (r : Result X E) → ((x : X) → P x → Q x) → IfOk r P → IfOk r Q
if_ok (Ok x) so h = so x h
if_ok (Err e) so h = tt

pub template_within : (templates listed : List Template) (number : ℕ) → listed ≡ templates → true ≡ nat_lt number (length listed) → number < length templates
template_within templates listed number same within = subst (λ (ts : List Template). number < length ts) same (ltb-true number (length listed) (sym within))

pub node_there : (nodes : List Node) (at : ℕ) (one : Node) → true ≡ nat_lt at (length nodes) → one ≡ get_or nodes at one → slice_get nodes at ≡ Some one
node_there nodes at one within is = slice_get_read nodes (length nodes) at one refl (ltb-true at (length nodes) (sym within)) is

pub node_within : (nodes : List Node) (at : ℕ) → true ≡ nat_lt at (length nodes) → at < length nodes
node_within nodes at within = ltb-true at (length nodes) (sym within)

pub node_past : (nodes : List Node) (at : ℕ) → false ≡ nat_lt at (length nodes) → length nodes ≤ at
node_past nodes at past = ltb-false at (length nodes) (sym past)

pub node_none : (nodes : List Node) (at : ℕ) → false ≡ nat_lt at (length nodes) → slice_get nodes at ≡ None
node_none nodes at past = slice_get_past nodes at (ltb-false at (length nodes) (sym past))

pub partial_within : (templates : List Template) (template name : List ℕ) (number : ℕ) → partial_of (names_of templates) template name ≡ Some number → number < length templates
partial_within templates template name number is = subst (λ n. number < n) (length-map templates (λ (t : Template). t.name)) (position_within _ (names_of templates) number is)

-- the partial that a name means, by an equal name
pub partial_is : (templates : List Template) (template : List ℕ) {asked name : List ℕ} (found other : Option ℕ) → asked ≡ name → found ≡ partial_of (names_of templates) template asked → found ≡ other → partial_of (names_of templates) template name ≡ other
partial_is templates template found other same is there = ap (λ n. partial_of (names_of templates) template n) (sym same) ∙ sym is ∙ there

-- the same where there is nothing to be told of the answer
pub on_ok : {X E P Q : Type 0} (r : Result X E) → (P → Q) → OnOk r P → OnOk r Q
on_ok (Ok x) so h = so h
on_ok (Err e) so h = tt

pub on_any : {X E P : Type 0} (r : Result X E) → P → OnOk r P
on_any (Ok x) h = h
on_any (Err e) h = tt

-- what is done by two facts
pub if_done : {E A B : Type 0} (Q : Flow → Type 0) (r : Result Flow E) → (A → B → Q flow.Done) → IfOk r (λ stop. stop ≡ flow.Done) → OnOk r A → OnOk r B → IfOk r Q
if_done Q (Ok stop) so is a b = subst Q (sym is) (so a b)
if_done Q (Err e) so is a b = tt

-- a scope from which the last variable was taken away is that before it was bound
pub scope_back : (back after bound before : Scope) (t : List ℕ × ValueType) (v : List ℕ × Val) → back.typing ≡ take (length after.typing - 1) after.typing → back.vars ≡ take (length after.vars - 1) after.vars → after ≡ bound
    → bound.typing ≡ before.typing ++ t ∷ [] → bound.vars ≡ before.vars ++ v ∷ [] → back ≡ before
scope_back back after bound before t v types values same typed valued =
    let first : back.typing ≡ before.typing = types ∙ sym (front_is after.typing before.typing t (ap (λ (s : Scope). s.typing) same ∙ typed)) in
    let second : back.vars ≡ before.vars = values ∙ sym (front_is after.vars before.vars v (ap (λ (s : Scope). s.vars) same ∙ valued)) in
    λ i. record { typing = first i; vars = second i }

-- the record of an item that missed is in the table
pub missed_lives : (table : TableMap) (item : List ℕ) (kept : Kept) (own : Scope) → IsMissed item kept own → KeptLives table kept → AreLiving table own.vars
missed_lives table item kept own missed lives =
    subst (λ (s : Scope). AreLiving table s.vars) (sym missed.is)
    (alone_lives table item (val.Record kept.model missed.one.id) (subst (λ (o : KeptItem). IsSome (row_of table kept.model o.id)) (sym missed.there) (lives.1 kept.at missed.one missed.within)))

-- over an equal table, and in an equal scope
pub moved : (P : TableMap → Scope → Type 0) {t u : TableMap} {a b : Scope} → t ≡ u → a ≡ b → P t a → P u b
moved P {u = u} {a = a} same alike h = subst (P u) alike (subst (λ t. P t a) same h)

module _ (context : Context) (table : TableMap) where
  -- a part that is done leaves no frame
  pub nodes_ended : (nodes : List Node) (scope : Scope) (old new : Stopped) (looks later : ℕ) (before after : List ℕ) (stop : Flow) → is_done stop ≡ true → NodesGo context table nodes scope old new looks later before after stop → new.frames ≡ []
  unfolding NodesGo
  nodes_ended nodes scope old new looks later before after stop ends goes = goes.ended ends

  pub node_ended : (one : Node) (scope : Scope) (old new : Stopped) (looks later : ℕ) (before after : List ℕ) (stop : Flow) → is_done stop ≡ true → NodeGoes context table one scope old new looks later before after stop → new.frames ≡ []
  unfolding NodeGoes
  node_ended one scope old new looks later before after stop ends goes = goes.ended ends

  pub template_ended : (number : ℕ) (scope : Scope) (old new : Stopped) (looks later : ℕ) (before after : List ℕ) (stop : Flow) → is_done stop ≡ true → TemplateGoes context table number scope old new looks later before after stop → new.frames ≡ []
  unfolding TemplateGoes
  template_ended number scope old new looks later before after stop ends goes = goes.ended ends
