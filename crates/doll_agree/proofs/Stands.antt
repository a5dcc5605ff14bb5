-- Values that stand at some of a list of paths.
use Rattle.std.proofs.Common.{◌≡◌, ℕ, true, List, [], ◌∷◌, ◌++◌, inl, inr, refl, sym, subst, ◌∙◌}
use Rattle.doll_erb.specs.declared.node.KeyPart.{KeyPart}
use Rattle.doll_schema.specs.declared.value.Val.{Val}
use Rattle.doll_schema.specs.declared.value.Val.TheVariants as val
use Rattle.doll_schema.specs.declared.value.Value.{Value}
use Rattle.doll_table.specs.Tables.{TableMap}
use Rattle.doll_eval.specs.declared.member.Member.TheVariants as member
use Rattle.doll_eval.specs.Values.{step}
use Rattle.doll_types.specs.declared.types.ValueType.{ValueType}
use Rattle.doll_types.specs.declared.types.ValueType.TheVariants as type
use Rattle.doll_types.specs.Sound.{HasType}
use Rattle.doll_types.specs.Types.{Typing}
use Rattle.doll_lint.specs.declared.path.Path.{Path}
use Rattle.doll_lint.specs.declared.path.PathStep.TheVariants as along
use Rattle.doll_lint.specs.declared.reading.Grade.{Grade}
use Rattle.doll_lint.specs.declared.reading.Grade.TheVariants as grade
use Rattle.doll_lint.specs.Faults.{meets}
use Rattle.doll_lint.specs.Readings.{looked_at, member_at, paths_to, variable_reading, wanted}
use Rattle.std.specs.Prelude.{Ok}
use Rattle.doll_agree.specs.Standing.{AreAsked, AreMet, AreSingle, At, AtSome, EachItem, HasSameRows, ItemsAtSome, ListAtSome, Pages, Stand, Wait, named_paths}
use Rattle.doll_agree.proofs.Covered.{LivesIn, covered, list_covered, of_model, settled}
use Rattle.doll_agree.proofs.Suiting.{IsSimple, SuitsCommon}
use Rattle.doll_agree.proofs.Lists.{each_then}
use Rattle.doll_agree.proofs.Steps.{to_children, to_parent}

-- ---- single values

pub single_same : (a b : Val) → AreSingle a b → a ≡ b
single_same a b s = s.1 ∙ sym s.2

-- a value of a simple type is single
pub typed_single : (table : TableMap) (t : ValueType) (a : Val) → IsSimple t → HasType table t a → (v : Value) × (a ≡ val.Plain v)
typed_single table t (val.Plain v) simple has = (v, refl)
typed_single table type.Integer (val.Record m id) simple has = absurd has
typed_single table type.Text (val.Record m id) simple has = absurd has
typed_single table type.Boolean (val.Record m id) simple has = absurd has
typed_single table (type.Record model) (val.Record m id) simple has = absurd simple
typed_single table (type.List model) (val.Record m id) simple has = absurd simple
typed_single table type.Nil (val.Record m id) simple has = absurd has
typed_single table type.Integer (val.List m ids) simple has = absurd has
typed_single table type.Text (val.List m ids) simple has = absurd has
typed_single table type.Boolean (val.List m ids) simple has = absurd has
typed_single table (type.Record model) (val.List m ids) simple has = absurd simple
typed_single table (type.List model) (val.List m ids) simple has = absurd simple
typed_single table type.Nil (val.List m ids) simple has = absurd has

pub same_single : (table : TableMap) (t : ValueType) (a b : Val) → IsSimple t → HasType table t a → a ≡ b → AreSingle a b
same_single table t a b simple has same = let v = typed_single table t a simple has in (v.0, v.1, sym same ∙ v.1)

-- a record that has its type lives
pub type_lives : (table : TableMap) (model : ℕ) (a : Val) → HasType table (type.Record model) a → LivesIn table a
type_lives table model (val.Plain v) has = tt
type_lives table model (val.Record m id) has = of_model table m model id has.0 has.1
type_lives table model (val.List m ids) has = absurd has

pub items_then : (P Q : Val → Type 0) → ((x : Val) → P x → Q x) → (v : Val) → EachItem P v → EachItem Q v
items_then P Q go (val.Plain v) each = tt
items_then P Q go (val.Record m id) each = tt
items_then P Q go (val.List m ids) each = each_then (λ id. P (val.Record m id)) (λ id. Q (val.Record m id)) (λ id. go (val.Record m id)) ids each

module _ (p : Pages) where
  -- what is single stands at any path
  pub stand_single : (t : ValueType) (paths : List Path) (a b : Val) → AreSingle a b → Stand p t paths a b
  stand_single type.Integer paths a b s = s
  stand_single type.Text paths a b s = s
  stand_single type.Boolean paths a b s = s
  stand_single (type.Record model) paths a b s = inl s
  stand_single (type.List model) paths a b s = inl s
  stand_single type.Nil paths a b s = s

  pub simple_single : (t : ValueType) (paths : List Path) (a b : Val) → IsSimple t → Stand p t paths a b → AreSingle a b
  simple_single type.Integer paths a b simple s = s
  simple_single type.Text paths a b simple s = s
  simple_single type.Boolean paths a b simple s = s
  simple_single (type.Record model) paths a b simple s = absurd simple
  simple_single (type.List model) paths a b simple s = absurd simple
  simple_single type.Nil paths a b simple s = s

  -- what stands for an expression may wait in a variable
  pub stand_waits : (t : ValueType) (paths : List Path) (a b : Val) → Stand p t paths a b → Wait p t paths a b
  stand_waits type.Integer paths a b s = inl s
  stand_waits type.Text paths a b s = inl s
  stand_waits type.Boolean paths a b s = inl s
  stand_waits (type.Record model) paths a b s = s
  stand_waits (type.List model) paths a b s = s
  stand_waits type.Nil paths a b s = inl s

  -- ---- more paths

  some_left : (xs ys : List Path) (a b : Val) → AtSome p xs a b → AtSome p (xs ++ ys) a b
  some_left [] ys a b s = absurd s
  some_left (x ∷ xs) ys a b (inl at) = inl at
  some_left (x ∷ xs) ys a b (inr s) = inr (some_left xs ys a b s)

  some_right : (xs ys : List Path) (a b : Val) → AtSome p ys a b → AtSome p (xs ++ ys) a b
  some_right [] ys a b s = s
  some_right (x ∷ xs) ys a b s = inr (some_right xs ys a b s)

  lists_left : (xs ys : List Path) (a b : Val) → ListAtSome p xs a b → ListAtSome p (xs ++ ys) a b
  lists_left [] ys a b s = absurd s
  lists_left (x ∷ xs) ys a b (inl at) = inl at
  lists_left (x ∷ xs) ys a b (inr s) = inr (lists_left xs ys a b s)

  lists_right : (xs ys : List Path) (a b : Val) → ListAtSome p ys a b → ListAtSome p (xs ++ ys) a b
  lists_right [] ys a b s = s
  lists_right (x ∷ xs) ys a b s = inr (lists_right xs ys a b s)

  pub stand_left : (t : ValueType) (xs ys : List Path) (a b : Val) → Stand p t xs a b → Stand p t (xs ++ ys) a b
  stand_left type.Integer xs ys a b s = s
  stand_left type.Text xs ys a b s = s
  stand_left type.Boolean xs ys a b s = s
  stand_left (type.Record model) xs ys a b (inl s) = inl s
  stand_left (type.Record model) xs ys a b (inr s) = inr (some_left xs ys a b s)
  stand_left (type.List model) xs ys a b (inl s) = inl s
  stand_left (type.List model) xs ys a b (inr s) = inr (lists_left xs ys a b s)
  stand_left type.Nil xs ys a b s = s

  pub stand_right : (t : ValueType) (xs ys : List Path) (a b : Val) → Stand p t ys a b → Stand p t (xs ++ ys) a b
  stand_right type.Integer xs ys a b s = s
  stand_right type.Text xs ys a b s = s
  stand_right type.Boolean xs ys a b s = s
  stand_right (type.Record model) xs ys a b (inl s) = inl s
  stand_right (type.Record model) xs ys a b (inr s) = inr (some_right xs ys a b s)
  stand_right (type.List model) xs ys a b (inl s) = inl s
  stand_right (type.List model) xs ys a b (inr s) = inr (lists_right xs ys a b s)
  stand_right type.Nil xs ys a b s = s

  -- a side of an operator stands as the common type does
  pub stand_common : (side t : ValueType) (paths : List Path) (a b : Val) → SuitsCommon side t → Stand p side paths a b → Stand p t paths a b
  stand_common side t paths a b (inl same) s = subst (λ t. Stand p t paths a b) same s
  stand_common side t paths a b (inr nil) s = stand_single t paths a b (subst (λ t. Stand p t paths a b) nil s)

  -- ---- a step more

  pub parents_some : (paths : List Path) (a b : Val) (model at : ℕ) (name : List ℕ) → member_at p.schema model name ≡ member.Parent at → HasType p.one (type.Record model) a → AtSome p paths a b
      → AtSome p (paths_to p.schema (along.Parent model at) paths) (step p.schema p.one a name) (step p.schema p.other b name)
  parents_some [] a b model at name is has s = absurd s
  parents_some (q ∷ paths) a b model at name is has (inl stands) = inl (to_parent p q.root q.steps a b model at name is has stands)
  parents_some (q ∷ paths) a b model at name is has (inr s) = inr (parents_some paths a b model at name is has s)

  pub children_some : (paths : List Path) (a b : Val) (model at : ℕ) (name : List ℕ) → member_at p.schema model name ≡ member.Children at → HasType p.one (type.Record model) a → AtSome p paths a b
      → ListAtSome p (paths_to p.schema (along.Children model at) paths) (step p.schema p.one a name) (step p.schema p.other b name)
  children_some [] a b model at name is has s = absurd s
  children_some (q ∷ paths) a b model at name is has (inl stands) = inl (to_children p q.root q.steps a b model at name is has stands)
  children_some (q ∷ paths) a b model at name is has (inr s) = inr (children_some paths a b model at name is has s)

-- ---- what a key tells of them

module _ (p : Pages) (typing : Typing) (key : List KeyPart) (asked : AreAsked p typing key) where
  abbrev pub names : List Path
  names = named_paths p.schema typing key

  some_met : (g : Grade) (paths : List Path) (a b : Val) → AtSome p paths a b → AreMet p.schema names (wanted g paths) → (q : Path) × At p q.root q.steps a b × (meets p.schema names g q ≡ true)
  some_met g [] a b s met = absurd s
  some_met g (q ∷ paths) a b (inl at) met = (q, at, met.0)
  some_met g (q ∷ paths) a b (inr s) met = some_met g paths a b s met.1

  pub some_covered : (paths : List Path) (a b : Val) → AtSome p paths a b → AreMet p.schema names (wanted grade.Covered paths) → (a ≡ b) × HasSameRows p.one p.other a
  some_covered paths a b s met = let one = some_met grade.Covered paths a b s met in covered p typing key asked one.0.root one.0.steps a b one.2 one.1

  pub some_settled : (paths : List Path) (a b : Val) → AtSome p paths a b → AreMet p.schema names (wanted grade.Settled paths) → LivesIn p.one a → (a ≡ b) × LivesIn p.other b
  some_settled paths a b s met lives = let one = some_met grade.Settled paths a b s met in settled p typing key asked one.0.root one.0.steps a b one.2 lives one.1

  pub lists_covered : (paths : List Path) (model : ℕ) (a b : Val) → ListAtSome p paths a b → AreMet p.schema names (wanted grade.Covered paths) → HasType p.one (type.List model) a → (a ≡ b) × ItemsAtSome p paths a
  lists_covered [] model a b s met has = absurd s
  lists_covered (q ∷ paths) model a b (inl at) met has =
      let same = list_covered p typing key asked q.root q.steps model a b met.0 has at in
      (same.0, items_then (λ x. At p q.root q.steps x x) (λ x. AtSome p (q ∷ paths) x x) (λ x at. inl at) a same.1)
  lists_covered (q ∷ paths) model a b (inr s) met has =
      let same = lists_covered paths model a b s met.1 has in
      (same.0, items_then (λ x. AtSome p paths x x) (λ x. AtSome p (q ∷ paths) x x) (λ x at. inr at) a same.1)

  -- what is looked at is the same
  pub looked_same : (t : ValueType) (paths : List Path) (a b : Val) → Stand p t paths a b → HasType p.one t a → AreMet p.schema names (looked_at (Ok t) paths) → a ≡ b
  looked_same type.Integer paths a b s has met = single_same a b s
  looked_same type.Text paths a b s has met = single_same a b s
  looked_same type.Boolean paths a b s has met = single_same a b s
  looked_same (type.Record model) paths a b (inl s) has met = single_same a b s
  looked_same (type.Record model) paths a b (inr s) has met = (some_settled paths a b s met (type_lives p.one model a has)).0
  looked_same (type.List model) paths a b (inl s) has met = single_same a b s
  looked_same (type.List model) paths a b (inr s) has met = (lists_covered paths model a b s met has).0
  looked_same type.Nil paths a b s has met = single_same a b s

  -- a variable that is read stands where it waits
  pub variable_stands : (t : ValueType) (paths : List Path) (a b : Val) → Wait p t paths a b → HasType p.one t a → AreMet p.schema names (variable_reading paths (Ok t)).wants → Stand p t (variable_reading paths (Ok t)).paths a b
  variable_stands type.Integer paths a b (inl s) has met = s
  variable_stands type.Integer paths a b (inr s) has met = same_single p.one type.Integer a b tt has (some_covered paths a b s met).0
  variable_stands type.Text paths a b (inl s) has met = s
  variable_stands type.Text paths a b (inr s) has met = same_single p.one type.Text a b tt has (some_covered paths a b s met).0
  variable_stands type.Boolean paths a b (inl s) has met = s
  variable_stands type.Boolean paths a b (inr s) has met = same_single p.one type.Boolean a b tt has (some_covered paths a b s met).0
  variable_stands (type.Record model) paths a b s has met = s
  variable_stands (type.List model) paths a b s has met = s
  variable_stands type.Nil paths a b (inl s) has met = s
  variable_stands type.Nil paths a b (inr s) has met = same_single p.one type.Nil a b tt has (some_covered paths a b s met).0
