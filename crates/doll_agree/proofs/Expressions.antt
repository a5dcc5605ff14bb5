-- An expression whose needs a key tells stands for the same on both pages.
use Rattle.std.proofs.Common.{◌≡◌, ℕ, ◌+◌, Bool, true, false, not, cond, true≢false, List, [], ◌++◌, Ok, Err, ◌⊎◌, inl, inr, refl, ap, sym, subst, ◌∙◌}
use Rattle.doll_text.specs.Steps.{◌>>=◌, ◌>>◌}
use Rattle.doll_expr.specs.declared.expr.Expr.{Expr, roll-Expr}
use Rattle.doll_expr.specs.declared.expr.Expr.TheFolds.{fold-roll-Expr, ind-Expr, map-Expr}
use Rattle.doll_expr.specs.declared.expr.Expr.TheOpen.{Expr-F}
use Rattle.doll_expr.specs.declared.expr.Op.{Op}
use Rattle.doll_expr.specs.declared.expr.Op.TheVariants as op
use Rattle.doll_erb.specs.declared.node.KeyPart.{KeyPart}
use Rattle.doll_schema.specs.declared.model.Model.{Model}
use Rattle.doll_schema.specs.declared.value.Row.{Row}
use Rattle.doll_schema.specs.declared.value.Val.{Val}
use Rattle.doll_schema.specs.declared.value.Val.TheVariants as val
use Rattle.doll_schema.specs.declared.value.Value.TheVariants as value
use Rattle.doll_eval.specs.declared.member.Member.{Member}
use Rattle.doll_eval.specs.declared.member.Member.TheVariants as member
use Rattle.doll_eval.specs.Operations.{asked as answer, is_settled, is_true, negated, nil, operated, truth}
use Rattle.doll_eval.specs.Values.{Meaning, Outcome, binary, meaning_of, meaning_step, member_value, step, value_of, variable}
use Rattle.doll_plain.specs.Direct.{Variables}
use Rattle.doll_types.specs.declared.types.TypeKind.TheVariants.{UnknownStep, UnknownVariable}
use Rattle.doll_types.specs.declared.types.ValueType.{ValueType}
use Rattle.doll_types.specs.declared.types.ValueType.TheVariants as type
use Rattle.doll_types.specs.Sound.{HasType}
use Rattle.doll_types.specs.Types.{Typing, binary_type, is_number, negated_type, part_type, query_type, step_type, type_of, type_step, variable_type}
use Rattle.doll_types.proofs.Values.{values}
use Rattle.doll_lint.specs.declared.path.Path.{Path}
use Rattle.doll_lint.specs.declared.reading.Grade.TheVariants as grade
use Rattle.doll_lint.specs.declared.reading.Reading.{Reading}
use Rattle.doll_lint.specs.declared.reading.Wanted.{Wanted}
use Rattle.doll_lint.specs.Faults.{meets}
use Rattle.doll_lint.specs.Readings.{Standing, binary_reading, looked, looked_at, member_at, member_reading, reading_of, reading_with, stands_for, step_reading, wanted}
use Rattle.doll_agree.specs.Standing.{AreAsked, AreInScope, AreMet, AreSingle, AtSome, HasSameRows, Pages, Stand}
use Rattle.doll_agree.proofs.Covered.{LivesIn, id_same, of_model, own_same}
use Rattle.doll_agree.proofs.Suiting.{IsSimple, SuitsCommon, SuitsMember, binary_simple, checked_holds, checked_same, number_simple, part_suits, query_simple, sides_suit}
use Rattle.doll_agree.proofs.Lists.{back, front}
use Rattle.doll_agree.proofs.Readings.{Typed, of_type, read_by}
use Rattle.doll_agree.proofs.Stands.{children_some, looked_same, names, parents_some, same_single, simple_single, single_same, some_covered, some_settled, stand_common, stand_left, stand_right, stand_single, type_lives, variable_stands}
use Rattle.doll_agree.proofs.Told.{some_of}

module _ (p : Pages) (typing : Typing) (key : List KeyPart) (asked : AreAsked p typing key) where
  abbrev pub Told : List Wanted → Type 0
  Told wants = AreMet p.schema (names p typing key asked) wants

  abbrev pub told_of : Wanted → Type 0
  told_of w = meets p.schema (names p typing key asked) w.grade w.path ≡ true

  -- ---- steps

  -- a step that reads the row of a record that is covered
  covered_step : (model : ℕ) (name : List ℕ) (k : Member) (c d : Val) → member_at p.schema model name ≡ k → (k ≡ member.Unknown → ⊥) → ((of id : ℕ) (m : Model) (row : Row) → member_value p.one m of id row k ≡ member_value p.other m of id row k)
      → HasType p.one (type.Record model) c → c ≡ d → HasSameRows p.one p.other c → step p.schema p.one c name ≡ step p.schema p.other d name
  covered_step model name k (val.Plain v) d is known own has same rows = ap (λ x. step p.schema p.other x name) same
  covered_step model name k (val.List m ids) d is known own has same rows = absurd has
  covered_step model name k (val.Record m id) d is known own has same rows =
      own_same p typing key asked m id name k (ap (λ n. member_at p.schema n name) has.0 ∙ is) known (own m id) (of_model p.one m model id has.0 has.1) rows ∙ ap (λ x. step p.schema p.other x name) same

  -- the id of a record that is settled
  settled_id : (model : ℕ) (name : List ℕ) (c d : Val) → member_at p.schema model name ≡ member.Id → HasType p.one (type.Record model) c → c ≡ d → LivesIn p.other d → step p.schema p.one c name ≡ step p.schema p.other d name
  settled_id model name (val.Plain v) d is has same lives = ap (λ x. step p.schema p.other x name) same
  settled_id model name (val.List m ids) d is has same lives = absurd has
  settled_id model name (val.Record m id) d is has same lives =
      id_same p typing key asked m id name (ap (λ n. member_at p.schema n name) has.0 ∙ is) (of_model p.one m model id has.0 has.1) (subst (LivesIn p.other) (sym same) lives) ∙ ap (λ x. step p.schema p.other x name) same

  -- a step from a record
  member_stands : (model : ℕ) (name : List ℕ) (k : Member) (t : ValueType) (paths : List Path) (wants : List Wanted) (c d : Val) → member_at p.schema model name ≡ k → SuitsMember k t
      → HasType p.one (type.Record model) c → HasType p.one t (step p.schema p.one c name) → AtSome p paths c d → Told (member_reading p.schema model k (Ok t) paths wants).wants
      → Stand p t (member_reading p.schema model k (Ok t) paths wants).paths (step p.schema p.one c name) (step p.schema p.other d name)
  member_stands model name (member.Parent at) t paths wants c d is suits has given s met =
      subst (λ t. Stand p t (member_reading p.schema model (member.Parent at) (Ok t) paths wants).paths (step p.schema p.one c name) (step p.schema p.other d name)) (sym suits.1)
      (inr (parents_some p paths c d model at name is has s))
  member_stands model name (member.Children at) t paths wants c d is suits has given s met =
      subst (λ t. Stand p t (member_reading p.schema model (member.Children at) (Ok t) paths wants).paths (step p.schema p.one c name) (step p.schema p.other d name)) (sym suits.1)
      (inr (children_some p paths c d model at name is has s))
  member_stands model name member.Unknown t paths wants c d is suits has given s met = absurd suits
  member_stands model name member.Id t paths wants c d is suits has given s met =
      let same = some_settled p typing key asked paths c d s (back told_of wants (wanted grade.Settled paths) met) (type_lives p.one model c has) in
      stand_single p t [] _ _ (same_single p.one t _ _ suits given (settled_id model name c d is has same.0 same.1))
  member_stands model name member.UpdatedAt t paths wants c d is suits has given s met =
      let same = some_covered p typing key asked paths c d s (back told_of wants (wanted grade.Covered paths) met) in
      stand_single p t [] _ _ (same_single p.one t _ _ suits given (covered_step model name member.UpdatedAt c d is (λ e. cc e) (λ of id m row. refl) has same.0 same.1))
  member_stands model name (member.Key at) t paths wants c d is suits has given s met =
      let same = some_covered p typing key asked paths c d s (back told_of wants (wanted grade.Covered paths) met) in
      stand_single p t [] _ _ (same_single p.one t _ _ suits given (covered_step model name (member.Key at) c d is (λ e. cc e) (λ of id m row. refl) has same.0 same.1))
  member_stands model name (member.Attribute at) t paths wants c d is suits has given s met =
      let same = some_covered p typing key asked paths c d s (back told_of wants (wanted grade.Covered paths) met) in
      stand_single p t [] _ _ (same_single p.one t _ _ suits given (covered_step model name (member.Attribute at) c d is (λ e. cc e) (λ of id m row. refl) has same.0 same.1))

  -- a step from what is single gives nil
  nil_step : (name : List ℕ) (c d : Val) → AreSingle c d → AreSingle (step p.schema p.one c name) (step p.schema p.other d name)
  nil_step name c d s = (value.Nil, ap (λ x. step p.schema p.one x name) s.1, ap (λ x. step p.schema p.other x name) s.2)

  step_stands : (from t : ValueType) (name : List ℕ) (reading : Reading) (c d : Val) → step_type p.schema name from ≡ Ok t → HasType p.one from c → HasType p.one t (step p.schema p.one c name)
      → (Told reading.wants → Stand p from reading.paths c d) → Told (step_reading p.schema (Ok from) name (Ok t) reading).wants
      → Stand p t (step_reading p.schema (Ok from) name (Ok t) reading).paths (step p.schema p.one c name) (step p.schema p.other d name)
  step_stands type.Integer t name reading c d e has given stands met = absurd (cc e)
  step_stands type.Text t name reading c d e has given stands met = absurd (cc e)
  step_stands type.Boolean t name reading c d e has given stands met = absurd (cc e)
  step_stands (type.List m) t name reading c d e has given stands met = absurd (cc e)
  step_stands type.Nil t name reading c d e has given stands met = stand_single p t reading.paths _ _ (nil_step name c d (stands met))
  step_stands (type.Record model) t name reading c d e has given stands met =
      by (stands (own_wants (member_at p.schema model name) met))
    where
      own_wants : (k : Member) → Told (member_reading p.schema model k (Ok t) reading.paths reading.wants).wants → Told reading.wants
      own_wants (member.Parent at) met = met
      own_wants (member.Children at) met = met
      own_wants member.Unknown met = front told_of reading.wants (wanted grade.Covered reading.paths) met
      own_wants member.Id met = front told_of reading.wants (wanted grade.Settled reading.paths) met
      own_wants member.UpdatedAt met = front told_of reading.wants (wanted grade.Covered reading.paths) met
      own_wants (member.Key at) met = front told_of reading.wants (wanted grade.Covered reading.paths) met
      own_wants (member.Attribute at) met = front told_of reading.wants (wanted grade.Covered reading.paths) met

      by : AreSingle c d ⊎ AtSome p reading.paths c d → Stand p t (member_reading p.schema model (member_at p.schema model name) (Ok t) reading.paths reading.wants).paths (step p.schema p.one c name) (step p.schema p.other d name)
      by (inl s) = stand_single p t _ _ _ (nil_step name c d s)
      by (inr s) =
          member_stands model name (member_at p.schema model name) t reading.paths reading.wants c d refl
          (part_suits p.schema model name t (some_of (part_type p.schema name (type.Record model)) (UnknownStep name) t e)) has given s met

  -- ---- operators

  -- the left side of `||` and `&&` chooses the same on both pages
  chosen_stands : (o : Op) (t : ValueType) (xs ys : List Path) (a b c d : Outcome) → a.value ≡ b.value → ((x y : Val) → operated o x y ≡ y) → Stand p t xs a.value b.value → Stand p t ys c.value d.value
      → Stand p t (xs ++ ys) (binary o a c).value (binary o b d).value
  chosen_stands o t xs ys a b c d same right left_stands right_stands = by (is_settled o a.value) (is_settled o b.value) (ap (is_settled o) same)
    where
      by : (x y : Bool) → x ≡ y
          → Stand p t (xs ++ ys) (cond x a (record { value = operated o a.value c.value; looks = a.looks + c.looks })).value (cond y b (record { value = operated o b.value d.value; looks = b.looks + d.looks })).value
      by true true e = stand_left p t xs ys a.value b.value left_stands
      by false false e =
          subst (λ v. Stand p t (xs ++ ys) v (operated o b.value d.value)) (sym (right a.value c.value))
          (subst (λ v. Stand p t (xs ++ ys) c.value v) (sym (right b.value d.value)) (stand_right p t xs ys c.value d.value right_stands))
      by true false e = absurd (true≢false e)
      by false true e = absurd (true≢false (sym e))

  -- other operators look at both
  both_same : (l r : ValueType) (left right : Reading) (a b c d : Val) → left.of ≡ Ok l → right.of ≡ Ok r → HasType p.one l a → HasType p.one r c
      → (Told left.wants → Stand p l left.paths a b) → (Told right.wants → Stand p r right.paths c d) → Told (left.wants ++ looked left ++ right.wants ++ looked right) → (a ≡ b) × (c ≡ d)
  both_same l r left right a b c d left_is right_is left_has right_has left_stands right_stands met =
      let with_right : Told (left.wants ++ looked left ++ right.wants) = front told_of (left.wants ++ looked left ++ right.wants) (looked right) met in
      let with_left : Told (left.wants ++ looked left) = front told_of (left.wants ++ looked left) right.wants with_right in (
        looked_same p typing key asked l left.paths a b (left_stands (front told_of left.wants (looked left) with_left)) left_has
            (subst (λ t. Told (looked_at t left.paths)) left_is (back told_of left.wants (looked left) with_left)),
        looked_same p typing key asked r right.paths c d (right_stands (back told_of (left.wants ++ looked left) right.wants with_right)) right_has
            (subst (λ t. Told (looked_at t right.paths)) right_is (back told_of (left.wants ++ looked left ++ right.wants) (looked right) met)),
      )

  both_stands : (o : Op) (l r t : ValueType) (left right : Reading) (a b c d : Val) → left.of ≡ Ok l → right.of ≡ Ok r → HasType p.one l a → HasType p.one r c
      → (Told left.wants → Stand p l left.paths a b) → (Told right.wants → Stand p r right.paths c d) → Told (left.wants ++ looked left ++ right.wants ++ looked right)
      → IsSimple t → HasType p.one t (operated o a c) → Stand p t [] (operated o a c) (operated o b d)
  both_stands o l r t left right a b c d left_is right_is left_has right_has left_stands right_stands met simple has =
      let same = both_same l r left right a b c d left_is right_is left_has right_has left_stands right_stands met in
      stand_single p t [] (operated o a c) (operated o b d) (same_single p.one t (operated o a c) (operated o b d) simple has (ap (λ x. operated o x c) same.0 ∙ ap (operated o b) same.1))

  logical_stands : (o : Op) (l r t : ValueType) (left right : Reading) (a b c d : Outcome) → ((x y : Val) → operated o x y ≡ y) → binary_type o l r ≡ Ok t → (binary_type o l r ≡ Ok t → SuitsCommon l t × SuitsCommon r t)
      → left.of ≡ Ok l → HasType p.one l a.value → (Told left.wants → Stand p l left.paths a.value b.value) → (Told right.wants → Stand p r right.paths c.value d.value)
      → Told (left.wants ++ looked left ++ right.wants) → Stand p t (left.paths ++ right.paths) (binary o a c).value (binary o b d).value
  logical_stands o l r t left right a b c d takes_right e suits left_is left_has left_stands right_stands met =
      let with_left : Told (left.wants ++ looked left) = front told_of (left.wants ++ looked left) right.wants met in
      let first = left_stands (front told_of left.wants (looked left) with_left) in
      let second = right_stands (back told_of (left.wants ++ looked left) right.wants met) in
      chosen_stands o t left.paths right.paths a b c d
      (looked_same p typing key asked l left.paths a.value b.value first left_has (subst (λ t. Told (looked_at t left.paths)) left_is (back told_of left.wants (looked left) with_left)))
      takes_right
      (stand_common p l t left.paths a.value b.value (suits e).0 first)
      (stand_common p r t right.paths c.value d.value (suits e).1 second)

  binary_stands : (o : Op) (l r t : ValueType) (left right : Reading) (a b c d : Outcome) → binary_type o l r ≡ Ok t → left.of ≡ Ok l → right.of ≡ Ok r → HasType p.one l a.value → HasType p.one r c.value → HasType p.one t (binary o a c).value
      → (Told left.wants → Stand p l left.paths a.value b.value) → (Told right.wants → Stand p r right.paths c.value d.value) → Told (binary_reading o (Ok t) left right).wants
      → Stand p t (binary_reading o (Ok t) left right).paths (binary o a c).value (binary o b d).value
  binary_stands op.Or l r t left right a b c d e li ri lh rh has ls rs met = logical_stands op.Or l r t left right a b c d (λ x y. refl) e (λ e. sides_suit l r t e) li lh ls rs met
  binary_stands op.And l r t left right a b c d e li ri lh rh has ls rs met = logical_stands op.And l r t left right a b c d (λ x y. refl) e (λ e. sides_suit l r t e) li lh ls rs met
  binary_stands op.Eq l r t left right a b c d e li ri lh rh has ls rs met = both_stands op.Eq l r t left right a.value b.value c.value d.value li ri lh rh ls rs met (binary_simple op.Eq l r t e) has
  binary_stands op.Ne l r t left right a b c d e li ri lh rh has ls rs met = both_stands op.Ne l r t left right a.value b.value c.value d.value li ri lh rh ls rs met (binary_simple op.Ne l r t e) has
  binary_stands op.Lt l r t left right a b c d e li ri lh rh has ls rs met = both_stands op.Lt l r t left right a.value b.value c.value d.value li ri lh rh ls rs met (binary_simple op.Lt l r t e) has
  binary_stands op.Le l r t left right a b c d e li ri lh rh has ls rs met = both_stands op.Le l r t left right a.value b.value c.value d.value li ri lh rh ls rs met (binary_simple op.Le l r t e) has
  binary_stands op.Gt l r t left right a b c d e li ri lh rh has ls rs met = both_stands op.Gt l r t left right a.value b.value c.value d.value li ri lh rh ls rs met (binary_simple op.Gt l r t e) has
  binary_stands op.Ge l r t left right a b c d e li ri lh rh has ls rs met = both_stands op.Ge l r t left right a.value b.value c.value d.value li ri lh rh ls rs met (binary_simple op.Ge l r t e) has
  binary_stands op.Add l r t left right a b c d e li ri lh rh has ls rs met = both_stands op.Add l r t left right a.value b.value c.value d.value li ri lh rh ls rs met (binary_simple op.Add l r t e) has
  binary_stands op.Sub l r t left right a b c d e li ri lh rh has ls rs met = both_stands op.Sub l r t left right a.value b.value c.value d.value li ri lh rh ls rs met (binary_simple op.Sub l r t e) has
  binary_stands op.Mul l r t left right a b c d e li ri lh rh has ls rs met = both_stands op.Mul l r t left right a.value b.value c.value d.value li ri lh rh ls rs met (binary_simple op.Mul l r t e) has

  -- ---- expressions

  module _ (inner : Typing) (standing : Standing) (here there : Variables) (scope : AreInScope p inner standing here there) where
    abbrev typed : Expr → Typed
    typed = type_of p.schema inner

    abbrev reading : Expr → Reading
    reading = reading_of p.schema inner standing

    abbrev first : Expr → Val
    first e = value_of e here p.schema p.one

    abbrev second : Expr → Val
    second e = value_of e there p.schema p.other

    abbrev Stands : Expr → Type 0
    Stands e = (t : ValueType) → typed e ≡ Ok t → Told (reading e).wants → Stand p t (reading e).paths (first e) (second e)

    abbrev Part : Type 0
    Part = (e : Expr) × Stands e

    abbrev Made : Expr-F Expr → Type 0
    Made x = (t : ValueType) → type_step p.schema inner (map-Expr Expr Typed typed x) ≡ Ok t → HasType p.one t (meaning_step (map-Expr Expr Meaning meaning_of x) here p.schema p.one).value
        → Told (reading_with p.schema standing (map-Expr Expr Reading reading x) (Ok t)).wants
        → Stand p t (reading_with p.schema standing (map-Expr Expr Reading reading x) (Ok t)).paths (meaning_step (map-Expr Expr Meaning meaning_of x) here p.schema p.one).value (meaning_step (map-Expr Expr Meaning meaning_of x) there p.schema p.other).value

    has_type : (e : Expr) (t : ValueType) → typed e ≡ Ok t → HasType p.one t (first e)
    has_type e t is = values p.schema p.one inner here e t asked.fits scope.have is

    rolled : (x : Expr-F Expr) → Made x → Stands (roll-Expr x)
    rolled x made t is met =
        let by_step : type_step p.schema inner (map-Expr Expr Typed typed x) ≡ Ok t = sym (fold-roll-Expr Typed (type_step p.schema inner) x) ∙ is in
        let read : reading (roll-Expr x) ≡ reading_with p.schema standing (map-Expr Expr Reading reading x) (Ok t) =
        read_by p.schema inner standing x ∙ ap (reading_with p.schema standing (map-Expr Expr Reading reading x)) by_step in
        let meant = fold-roll-Expr Meaning meaning_step x in
        subst (λ (r : Reading). Stand p t r.paths (first (roll-Expr x)) (second (roll-Expr x))) (sym read)
        (subst (λ (m : Meaning). Stand p t (reading_with p.schema standing (map-Expr Expr Reading reading x) (Ok t)).paths (m here p.schema p.one).value (m there p.schema p.other).value) (sym meant)
        (made t by_step
        (subst (λ (m : Meaning). HasType p.one t (m here p.schema p.one).value) meant (has_type (roll-Expr x) t is))
        (subst (λ (r : Reading). Told r.wants) read met)))

    -- what is looked at is the same
    looked_part : (e : Expr) (from : ValueType) → Stands e → typed e ≡ Ok from → Told ((reading e).wants ++ looked (reading e)) → first e ≡ second e
    looked_part e from stands is met =
        looked_same p typing key asked from (reading e).paths (first e) (second e) (stands from is (front told_of (reading e).wants (looked (reading e)) met)) (has_type e from is)
        (subst (λ t. Told (looked_at t (reading e).paths)) (of_type p.schema inner standing e ∙ is) (back told_of (reading e).wants (looked (reading e)) met))

    layer : (y : Expr-F Part) → Made (map-Expr Part Expr (λ p. p.0) y)
    layer Expr-F.Nil t is has met = stand_single p t [] nil nil (value.Nil, refl, refl)
    layer Expr-F.True t is has met = stand_single p t [] (truth true) (truth true) (value.Bool true, refl, refl)
    layer Expr-F.False t is has met = stand_single p t [] (truth false) (truth false) (value.Bool false, refl, refl)
    layer (Expr-F.Int n) t is has met = stand_single p t [] (val.Plain (value.Int n)) (val.Plain (value.Int n)) (value.Int n, refl, refl)
    layer (Expr-F.Text text) t is has met = stand_single p t [] (val.Plain (value.Text text)) (val.Plain (value.Text text)) (value.Text text, refl, refl)
    layer (Expr-F.Var name) t is has met =
        variable_stands p typing key asked t (stands_for standing name) (variable here name) (variable there name) (scope.wait name t (some_of (variable_type inner name) (UnknownVariable name) t is)) has met
    layer (Expr-F.Step of name) t is has met = by (typed of.0) refl (of_type p.schema inner standing of.0) is
      where
        by : (r : Typed) → typed of.0 ≡ r → (reading of.0).of ≡ typed of.0 → (r >>= step_type p.schema name) ≡ Ok t
            → Stand p t (step_reading p.schema (reading of.0).of name (Ok t) (reading of.0)).paths (step p.schema p.one (first of.0) name) (step p.schema p.other (second of.0) name)
        by (Ok from) typed_so of_so e =
            subst (λ r. Stand p t (step_reading p.schema r name (Ok t) (reading of.0)).paths (step p.schema p.one (first of.0) name) (step p.schema p.other (second of.0) name)) (sym (of_so ∙ typed_so))
            (step_stands from t name (reading of.0) (first of.0) (second of.0) e (has_type of.0 from typed_so) has (of.1 from typed_so)
            (subst (λ r. Told (step_reading p.schema r name (Ok t) (reading of.0)).wants) (of_so ∙ typed_so) met))
        by (Err k) typed_so of_so e = absurd (cc e)
    layer (Expr-F.Ask of query) t is has met = by (typed of.0) refl is
      where
        by : (r : Typed) → typed of.0 ≡ r → (r >>= query_type query) ≡ Ok t → Stand p t [] (answer query (first of.0)) (answer query (second of.0))
        by (Ok from) typed_so e =
            stand_single p t [] (answer query (first of.0)) (answer query (second of.0))
            (same_single p.one t (answer query (first of.0)) (answer query (second of.0)) (query_simple query from t e) has (ap (answer query) (looked_part of.0 from of.1 typed_so met)))
        by (Err k) typed_so e = absurd (cc e)
    layer (Expr-F.Not of) t is has met = by (typed of.0) refl is
      where
        by : (r : Typed) → typed of.0 ≡ r → (r >> Ok type.Boolean) ≡ Ok t → Stand p t [] (truth (not (is_true (first of.0)))) (truth (not (is_true (second of.0))))
        by (Ok from) typed_so e =
            stand_single p t [] (truth (not (is_true (first of.0)))) (truth (not (is_true (second of.0))))
            (value.Bool (not (is_true (first of.0))), refl, ap (λ v. truth (not (is_true v))) (sym (looked_part of.0 from of.1 typed_so met)))
        by (Err k) typed_so e = absurd (cc e)
    layer (Expr-F.Neg of) t is has met = by (typed of.0) refl is
      where
        by : (r : Typed) → typed of.0 ≡ r → (r >>= negated_type) ≡ Ok t → Stand p t [] (negated (first of.0)) (negated (second of.0))
        by (Ok from) typed_so e =
            let single = simple_single p from (reading of.0).paths (first of.0) (second of.0) (number_simple from (checked_holds (is_number from) type.Integer t e)) (of.1 from typed_so met) in
            stand_single p t [] (negated (first of.0)) (negated (second of.0))
            (same_single p.one t (negated (first of.0)) (negated (second of.0)) (subst IsSimple (checked_same (is_number from) type.Integer t e) tt) has (ap negated (single_same (first of.0) (second of.0) single)))
        by (Err k) typed_so e = absurd (cc e)
    layer (Expr-F.Binary o left right) t is has met = by (typed left.0) refl (typed right.0) refl is
      where
        by : (l : Typed) → typed left.0 ≡ l → (r : Typed) → typed right.0 ≡ r → (l >>= (λ l. r >>= binary_type o l)) ≡ Ok t
            → Stand p t (binary_reading o (Ok t) (reading left.0) (reading right.0)).paths (binary o (meaning_of left.0 here p.schema p.one) (meaning_of right.0 here p.schema p.one)).value (binary o (meaning_of left.0 there p.schema p.other) (meaning_of right.0 there p.schema p.other)).value
        by (Ok l) left_so (Ok r) right_so e =
            binary_stands o l r t (reading left.0) (reading right.0) (meaning_of left.0 here p.schema p.one) (meaning_of left.0 there p.schema p.other) (meaning_of right.0 here p.schema p.one) (meaning_of right.0 there p.schema p.other) e
            (of_type p.schema inner standing left.0 ∙ left_so) (of_type p.schema inner standing right.0 ∙ right_so) (has_type left.0 l left_so) (has_type right.0 r right_so) has (left.1 l left_so) (right.1 r right_so) met
        by (Ok l) left_so (Err k) right_so e = absurd (cc e)
        by (Err k) left_so r right_so e = absurd (cc e)

    pub stands : (e : Expr) → Stands e
    stands = ind-Expr Stands (λ x y is. subst (λ z. Stands (roll-Expr z)) is (rolled (map-Expr Part Expr (λ p. p.0) y) (layer y)))

    -- the value that is looked at is the same
    pub same_value : (e : Expr) (t : ValueType) → typed e ≡ Ok t → Told ((reading e).wants ++ looked (reading e)) → first e ≡ second e
    same_value e t is met = looked_part e t (stands e) is met
