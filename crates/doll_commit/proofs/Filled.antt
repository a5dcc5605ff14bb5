-- A row with values given to it fits where it fitted before and the values have no fault.
use Rattle.std.proofs.Common.{◌≡◌, ℕ, zero, suc, ◌+◌, ◌-◌, ◌<◌, Bool, true, false, cond, List, [], ◌∷◌, map, length, Option, Some, None, IsSome, is_some, reverse, bytes_eq, All, refl, sym, ◌∙◌, ap, subst, arith}
use Rattle.std.specs.Prelude.{slice_get, find}
use Rattle.std.specs.List.{zip}
use Rattle.std.specs.Option.{option_map, option_map_or, option_and_then}
use Rattle.std.proofs.lemmas.Bool.{eq-eqb}
use Rattle.std.proofs.lemmas.List.{length-map, length-reverse, get_or-reverse}
use Rattle.std.proofs.lemmas.List.Elements.{All-nil, All-cons, All-head, All-tail}
use Rattle.std.proofs.lemmas.Option.{same_Some, none-some, slice_get_within, get_or_from_slice_get}
use Rattle.std.proofs.lemmas.Slice.Zip.{length-zip}
use Rattle.doll_schema.specs.declared.value.Value.{Value}
use Rattle.doll_schema.specs.declared.value.Value.TheVariants as value
use Rattle.doll_schema.specs.declared.value.Row.{Row}
use Rattle.doll_schema.specs.declared.model.Attribute.{Attribute}
use Rattle.doll_schema.specs.declared.model.BelongsTo.{BelongsTo}
use Rattle.doll_schema.specs.declared.model.Model.{Model}
use Rattle.doll_schema.specs.declared.model.Schema.{Schema}
use Rattle.doll_table.specs.Tables.{TableMap, row_of, next_of, put_row, put_next}
use Rattle.doll_schema.specs.Lookups.{key_name}
use Rattle.doll_schema.specs.Values.{has_kind}
use Rattle.doll_table.specs.Fits.{Fits, RowFits}
use Rattle.doll_table.proofs.Growing.{row_of_next, next_of_next, fits_more, put_fits, next_fits}
use Rattle.doll_commit.specs.declared.fault.Why.{Why}
use Rattle.doll_commit.specs.declared.fault.Why.TheVariants as why
use Rattle.doll_commit.specs.Given.{Given, value_given, id_of_int, key_of, value_fault, attribute_fault, key_fault, fault_among, is_known, pair_fault, given_fault}
use Rattle.doll_commit.specs.Rows.{value_after, key_after, row_after}

-- where nothing is the first fault, nothing has one

first_none : (o rest : Option Why) → option_map_or Some o rest ≡ None → (o ≡ None) × (rest ≡ None)
first_none None rest h = (refl, h)
first_none (Some w) rest h = absurd (none-some w (sym h))

none_faulty : {X : Type 0} (fault : X → Option Why) (xs : List X) → fault_among fault xs ≡ None → All (λ x. fault x ≡ None) xs
none_faulty fault [] h = All-nil (λ x. fault x ≡ None)
none_faulty fault (x ∷ xs) h = let both = first_none (fault x) (fault_among fault xs) h in All-cons (λ y. fault y ≡ None) x xs both.0 (none_faulty fault xs both.1)

all_reversed : {X : Type 0} (P : X → Type 0) (xs : List X) → All P xs → All P (reverse xs)
all_reversed P xs all k d h =
    let within : k < length xs = omega (arith, length-reverse xs) in
    subst P (sym (get_or-reverse xs k d within)) (all (length xs - 1 - k) d (omega arith))

found_holds : {X : Type 0} (P : X → Type 0) (test : X → Bool) (xs : List X) (x : X) → All P xs → find test xs ≡ Some x → P x × (test x ≡ true)
found_holds P test [] x all h = absurd (none-some x h)
found_holds P test (y ∷ xs) x all h = by_test (test y) refl (found_holds P test xs x (All-tail P y xs all)) h
  where
    by_test : (b : Bool) → test y ≡ b → (find test xs ≡ Some x → P x × (test x ≡ true)) → cond b (Some y) (find test xs) ≡ Some x → P x × (test x ≡ true)
    by_test true t behind k = let same = same_Some y x k in (subst P same (All-head P y xs all), ap test (sym same) ∙ t)
    by_test false t behind k = behind k

at_place : {X : Type 0} (P : X → Type 0) (xs : List X) (k : ℕ) (x : X) → All P xs → slice_get xs k ≡ Some x → P x
at_place P xs k x all h = subst P (get_or_from_slice_get xs k x x h) (all k x (slice_get_within xs k x h))

-- a value given has a pair without fault
given_pair : (table : TableMap) (model : Model) (given : Given) (name : List ℕ) (v : Value) → given_fault table model given ≡ None → value_given given name ≡ Some v → (pair : List ℕ × Value) × (pair_fault table model pair ≡ None) × (bytes_eq name pair.0 ≡ true) × (pair.1 ≡ v)
given_pair table model given name v free is = by_found (find (λ (pair : List ℕ × Value). bytes_eq name pair.0) (reverse given)) refl is
  where
    by_found : (o : Option (List ℕ × Value)) → find (λ (pair : List ℕ × Value). bytes_eq name pair.0) (reverse given) ≡ o → option_map (λ (pair : List ℕ × Value). pair.1) o ≡ Some v
        → (pair : List ℕ × Value) × (pair_fault table model pair ≡ None) × (bytes_eq name pair.0 ≡ true) × (pair.1 ≡ v)
    by_found None e h = absurd (none-some v h)
    by_found (Some pair) e h =
        let holds = found_holds (λ p. pair_fault table model p ≡ None) (λ (p : List ℕ × Value). bytes_eq name p.0) (reverse given) pair (all_reversed (λ p. pair_fault table model p ≡ None) given (none_faulty (pair_fault table model) given free)) e in
        (pair, holds.0, holds.1, same_Some pair.1 v h)

known_none : (known : Bool) (o : Option Why) → cond known o (Some why.UnknownAttribute) ≡ None → o ≡ None
known_none true o h = h
known_none false o h = absurd (none-some why.UnknownAttribute (sym h))

faults_none : (table : TableMap) (model : Model) (pair : List ℕ × Value) → pair_fault table model pair ≡ None → (fault_among (attribute_fault pair) model.attributes ≡ None) × (fault_among (key_fault table pair) model.belongs_to ≡ None)
faults_none table model pair h =
    first_none (fault_among (attribute_fault pair) model.attributes) (fault_among (key_fault table pair) model.belongs_to)
    (known_none (is_known model pair.0) (option_map_or Some (fault_among (attribute_fault pair) model.attributes) (fault_among (key_fault table pair) model.belongs_to)) h)

-- the value given to an attribute is of its kind
given_kind : (table : TableMap) (model : Model) (given : Given) (at : ℕ) (a : Attribute) (v : Value) → given_fault table model given ≡ None → slice_get model.attributes at ≡ Some a → value_given given a.name ≡ Some v → has_kind a.kind v ≡ true
given_kind table model given at a v free here is =
    let pair = given_pair table model given a.name v free is in
    ap (has_kind a.kind) (sym pair.3) ∙ by_kind (has_kind a.kind pair.0.1) refl
    (ap (λ b. cond b (cond (has_kind a.kind pair.0.1) None (Some why.WrongKind)) None) (sym pair.2)
    ∙ at_place (λ x. attribute_fault pair.0 x ≡ None) model.attributes at a (none_faulty (attribute_fault pair.0) model.attributes (faults_none table model pair.0 pair.1).0) here)
  where
    by_kind : {k : Bool} (b : Bool) → k ≡ b → cond k None (Some why.WrongKind) ≡ None → k ≡ true
    by_kind true e h = e
    by_kind {k} false e h = absurd (none-some why.WrongKind (sym (ap (λ t. cond t None (Some why.WrongKind)) (sym e) ∙ h)))

-- and the one given to a foreign key names a living row
given_key : (table : TableMap) (model : Model) (given : Given) (at : ℕ) (b : BelongsTo) (v : Value) (id : ℕ) → given_fault table model given ≡ None → slice_get model.belongs_to at ≡ Some b → value_given given (key_name b.name) ≡ Some v → key_of v ≡ Some id → IsSome (row_of table b.model id)
given_key table model given at b v id free here is key =
    let pair = given_pair table model given (key_name b.name) v free is in
    of_value v key
    (ap (value_fault table b) (sym pair.3)
    ∙ (ap (λ t. cond t (value_fault table b pair.0.1) None) (sym pair.2)
    ∙ at_place (λ x. key_fault table pair.0 x ≡ None) model.belongs_to at b (none_faulty (key_fault table pair.0) model.belongs_to (faults_none table model pair.0 pair.1).1) here))
  where
    of_test : (t : Bool) → cond t None (Some why.BadParent) ≡ None → t ≡ true
    of_test true h = refl
    of_test false h = absurd (none-some why.BadParent (sym h))

    of_int : (o : Option ℕ) → o ≡ Some id → option_map_or (λ i. is_some (row_of table b.model i)) o false ≡ true → is_some (row_of table b.model id) ≡ true
    of_int None e h = absurd (none-some id e)
    of_int (Some i) e h = ap (λ j. is_some (row_of table b.model j)) (sym (same_Some i id e)) ∙ h

    of_value : (u : Value) → key_of u ≡ Some id → value_fault table b u ≡ None → IsSome (row_of table b.model id)
    of_value value.Nil k h = absurd (none-some id k)
    of_value (value.Bool x) k h = absurd (none-some id k)
    of_value (value.Int z) k h = of_int (id_of_int z) k (of_test (option_map_or (λ i. is_some (row_of table b.model i)) (id_of_int z) false) h)
    of_value (value.Text x) k h = absurd (none-some id k)

-- what stands at a place of pairs that a function was applied to
mapped_at : {A B C : Type 0} (f : A × B → C) (xs : List A) (ys : List B) (at : ℕ) (x : A) (z : C) → slice_get xs at ≡ Some x → slice_get (map f (zip xs ys)) at ≡ Some z → (y : B) × (slice_get ys at ≡ Some y) × (f (x, y) ≡ z)
mapped_at f [] ys at x z here is = absurd (none-some x here)
mapped_at f (a ∷ xs) [] at x z here is = absurd (none-some z is)
mapped_at f (a ∷ xs) (b ∷ ys) zero x z here is = (b, refl, ap (λ w. f (w, b)) (sym (same_Some a x here)) ∙ same_Some (f (a, b)) z is)
mapped_at f (a ∷ xs) (b ∷ ys) (suc at) x z here is = mapped_at f xs ys at x z here is

as_many : {A B C : Type 0} (f : A × B → C) (xs : List A) (ys : List B) → length ys ≡ length xs → length (map f (zip xs ys)) ≡ length xs
as_many f xs ys e = length-map (zip xs ys) f ∙ (length-zip xs ys ∙ omega arith)

pub row_after_fits : (table : TableMap) (model : Model) (given : Given) (old : Row) → given_fault table model given ≡ None → RowFits table model old → RowFits table model (row_after model given old)
row_after_fits table model given old free fits = record {
  as_many_values = as_many (value_after given) model.attributes old.values fits.as_many_values;
  kinds = λ at a v here is. let found = mapped_at (value_after given) model.attributes old.values at a v here is in kind_at at a found.0 v here found.1 (value_given given a.name) refl found.2;
  as_many_parents = as_many (key_after given) model.belongs_to old.parents fits.as_many_parents;
  parents = λ at b id here is. let found = mapped_at (key_after given) model.belongs_to old.parents at b (Some id) here (inner (slice_get (map (key_after given) (zip model.belongs_to old.parents)) at) id is) in
      key_at at b id found.0 here found.1 (value_given given (key_name b.name)) refl found.2;
}
  where
    inner : (o : Option (Option ℕ)) (id : ℕ) → option_and_then (λ k. k) o ≡ Some id → o ≡ Some (Some id)
    inner None id h = absurd (none-some id h)
    inner (Some k) id h = ap Some h

    kind_at : (at : ℕ) (a : Attribute) (w v : Value) → slice_get model.attributes at ≡ Some a → slice_get old.values at ≡ Some w → (o : Option Value) → value_given given a.name ≡ o → option_map_or (λ u. u) o w ≡ v → has_kind a.kind v ≡ true
    kind_at at a w v here was None e is = ap (has_kind a.kind) (sym is) ∙ fits.kinds at a w here was
    kind_at at a w v here was (Some u) e is = ap (has_kind a.kind) (sym is) ∙ given_kind table model given at a u free here e

    key_at : (at : ℕ) (b : BelongsTo) (id : ℕ) (k : Option ℕ) → slice_get model.belongs_to at ≡ Some b → slice_get old.parents at ≡ Some k → (o : Option Value) → value_given given (key_name b.name) ≡ o → option_map_or key_of o k ≡ Some id → IsSome (row_of table b.model id)
    key_at at b id k here was None e is = fits.parents at b id here (ap (option_and_then (λ j. j)) was ∙ is)
    key_at at b id k here was (Some u) e is = given_key table model given at b u id free here e is

-- a table with a row under its next id

pub create_fits : (schema : Schema) (table : TableMap) (m : ℕ) (model : Model) (row : Row) → Fits schema table → slice_get schema.models m ≡ Some model → RowFits table model row → Fits schema (put_row (put_next table m (next_of table m + 1)) m (next_of table m) row)
create_fits schema table m model row fits here suits =
    put_fits schema raised m (next_of table m) model row (next_fits schema table m (next_of table m + 1) fits (slice_get_within schema.models m model here) (omega arith)) here (fits.nexts m within) below
    (fits_more table raised model row (λ b i lives. ap is_some (row_of_next table m (next_of table m + 1) b i) ∙ lives) suits)
  where
    raised : TableMap
    raised = put_next table m (next_of table m + 1)

    within : m < length table.extents
    within = omega (arith, fits.extents, slice_get_within schema.models m model here)

    below : next_of table m < next_of raised m
    below = let e : next_of raised m ≡ next_of table m + 1 = next_of_next table m (next_of table m + 1) within m ∙ ap (λ t. cond t (next_of table m + 1) (next_of table m)) (eq-eqb m m refl) in omega arith
