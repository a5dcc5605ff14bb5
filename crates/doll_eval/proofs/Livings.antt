-- What an expression gives names only living records, where its variables do.
use Rattle.std.proofs.Common.{◌≡◌, ℕ, ◌<◌, ◌-◌, suc, zero, Bool, true, false, cond, ◌||◌, List, [], ◌∷◌, ◌++◌, map, filter, length, get_or, Option, Some, None, IsSome, All, Result, Ok, Err, IfOk, reverse, find, bytes_eq, ℤ, pos, arith, sym, ◌∙◌, subst, refl}
use Rattle.std.specs.Prelude.{slice_get}
use Rattle.std.specs.List.{list_any}
use Rattle.std.specs.Option.{option_map_or}
use Rattle.std.specs.Ordering.{nat_cmp, eq_by_cmp}
use Rattle.std.specs.FinMap as finite
use Rattle.std.proofs.lemmas.List.{get_or-reverse, length-reverse}
use Rattle.std.proofs.lemmas.List.Elements.{All-map, All-filter, All-append, All-cons}
use Rattle.std.proofs.lemmas.Bool.Decides.{nat_tests}
use Rattle.doll_schema.specs.declared.value.Value.TheVariants as value
use Rattle.doll_schema.specs.declared.value.Val.{Val}
use Rattle.doll_schema.specs.declared.value.Val.TheVariants as val
use Rattle.doll_schema.specs.declared.value.Row.{Row}
use Rattle.doll_schema.specs.declared.model.BelongsTo.{BelongsTo}
use Rattle.doll_schema.specs.declared.model.HasMany.{HasMany}
use Rattle.doll_schema.specs.declared.model.Model.{Model}
use Rattle.doll_schema.specs.declared.model.Schema.{Schema}
use Rattle.doll_schema.specs.Lookups.{many_of}
use Rattle.doll_table.specs.Tables.{TableMap, row_of, rows_in, parent_of, names_parent, ids_under, children_of}
use Rattle.doll_table.specs.Fits.{Fits}
use Rattle.doll_eval.specs.declared.member.Member.{Member}
use Rattle.doll_eval.specs.declared.member.Member.TheVariants as member
use Rattle.doll_eval.specs.Operations.{nil, whole, has_64_bits}
use Rattle.doll_eval.specs.Values.{member_value, record_step, variable}
use Rattle.doll_eval.specs.Members.{member_of}
use Rattle.doll_eval.specs.Living.{IsLiving, AreLiving}

found_at : (entries : List (ℕ × Row)) (k : ℕ) (d : ℕ × Row) → k < length entries → list_any (eq_by_cmp nat_cmp (get_or entries k d).0) (map (λ (e : ℕ × Row). e.0) entries) ≡ true
found_at [] k d h = absurd (omega arith)
found_at (e ∷ entries) zero d h = grind (arith, nat_tests)
found_at (e ∷ entries) (suc k) d h = or_right (eq_by_cmp nat_cmp (get_or entries k d).0 e.0) (list_any (eq_by_cmp nat_cmp (get_or entries k d).0) (map (λ (e : ℕ × Row). e.0) entries)) (found_at entries k d (omega arith))
  where
    or_right : (a b : Bool) → b ≡ true → (a || b) ≡ true
    or_right true b p = refl
    or_right false b p = p

-- each id of a model's entries has its row
entries_live : (table : TableMap) (model : ℕ) → All (λ (e : ℕ × Row). IsSome (row_of table model e.0)) (finite.entries (rows_in table model))
entries_live table model k d h =
    finite.contains_key-keys (rows_in table model) (get_or (finite.entries (rows_in table model)) k d).0 ∙ found_at (finite.entries (rows_in table model)) k d h

-- the children of a record are in the table
pub children_live : (table : TableMap) (model place parent : ℕ) → All (λ id. IsSome (row_of table model id)) (ids_under table model place parent)
children_live table model place parent =
    All-map (λ id. IsSome (row_of table model id)) (λ (e : ℕ × Row). e.0) (filter (λ (e : ℕ × Row). names_parent place parent e.1) (finite.entries (rows_in table model)))
    (All-filter (λ (e : ℕ × Row). names_parent place parent e.1) (λ (e : ℕ × Row). IsSome (row_of table model e.0)) (finite.entries (rows_in table model)) (entries_live table model))

whole_lives : (table : TableMap) (n : ℤ) → IsLiving table (whole n)
whole_lives table n = by_test (has_64_bits n)
  where
    by_test : (b : Bool) → IsLiving table (cond b (val.Plain (value.Int n)) nil)
    by_test true = tt
    by_test false = tt

-- what is made of an answer, or nil, lives where each thing made of one does
either_lives : {X : Type 0} (table : TableMap) (f : X → Val) (o : Option X) → ((x : X) → o ≡ Some x → IsLiving table (f x)) → IsLiving table (option_map_or f o nil)
either_lives table f None each = tt
either_lives table f (Some x) each = each x refl

member_lives : (schema : Schema) (table : TableMap) (m : Model) (model id : ℕ) (row : Row) (part : Member) → Fits schema table → slice_get schema.models model ≡ Some m → row_of table model id ≡ Some row → IsLiving table (member_value table m model id row part)
member_lives schema table m model id row (member.Attribute at) fits is lives = either_lives table val.Plain (slice_get row.values at) (λ v e. tt)
member_lives schema table m model id row (member.Key at) fits is lives = either_lives table (λ key. val.Plain (value.Int (pos key))) (parent_of row at) (λ key e. tt)
member_lives schema table m model id row member.Id fits is lives = tt
member_lives schema table m model id row member.UpdatedAt fits is lives = whole_lives table (pos row.updated_at)
member_lives schema table m model id row (member.Parent at) fits is lives =
    either_lives table (λ (b : BelongsTo). option_map_or (λ key. val.Record b.model key) (parent_of row at) nil) (slice_get m.belongs_to at)
    (λ b e. either_lives table (λ key. val.Record b.model key) (parent_of row at) (λ key k. (fits.rows model id m row is lives).parents at b key e k))
member_lives schema table m model id row (member.Children at) fits is lives =
    either_lives table (λ (many : HasMany). val.List many.model (children_of table model at id)) (slice_get m.has_many at)
    (λ many e.
    let same : many_of table.schema model at ≡ Some many = rw (fits.same, is) e in
    rw same (children_live table many.model many.inverse id))
member_lives schema table m model id row member.Unknown fits is lives = tt

pub record_step_lives : (schema : Schema) (table : TableMap) (model id : ℕ) (name : List ℕ) → Fits schema table → IsLiving table (record_step schema table model id name)
record_step_lives schema table model id name fits =
    either_lives table (λ (m : Model). option_map_or (λ (row : Row). member_value table m model id row (member_of m name)) (row_of table model id) nil) (slice_get schema.models model)
    (λ m is. either_lives table (λ (row : Row). member_value table m model id row (member_of m name)) (row_of table model id)
    (λ row lives. member_lives schema table m model id row (member_of m name) fits is lives))

-- a living value for an equal one
pub ok_lives : {F : Type 0} (table : TableMap) (r : Result Val F) (v : Val) → IfOk r (λ x. x ≡ v) → IsLiving table v → IfOk r (λ x. IsLiving table x)
ok_lives table (Ok x) v e h = subst (IsLiving table) (sym e) h
ok_lives table (Err f) v e h = tt

some_same : {X : Type 0} {x y : X} → Some x ≡ Some y → x ≡ y
some_same e = cc

all_reversed : {X : Type 0} (P : X → Type 0) (xs : List X) → All P xs → All P (reverse xs)
all_reversed P xs all k d h =
    let within : k < length xs = omega (arith, length-reverse xs) in
    subst P (sym (get_or-reverse xs k d within)) (all (length xs - 1 - k) d (omega arith))

-- what is found in a list is among its elements
found_holds : {X : Type 0} (P : X → Type 0) (test : X → Bool) (xs : List X) (x : X) → All P xs → find test xs ≡ Some x → P x
found_holds P test [] x all e = absurd (cc e)
found_holds P test (y ∷ ys) x all e = by_test (test y) e (found_holds P test ys x (λ k d h. all (suc k) d (omega arith)))
  where
    by_test : (b : Bool) → cond b (Some y) (find test ys) ≡ Some x → (find test ys ≡ Some x → P x) → P x
    by_test true e later = subst P (some_same e) (all 0 y (omega arith))
    by_test false e later = later e

pub variable_lives : (table : TableMap) (vars : List (List ℕ × Val)) (name : List ℕ) → AreLiving table vars → IsLiving table (variable vars name)
variable_lives table vars name living =
    either_lives table (λ (b : List ℕ × Val). b.1) (find (λ (b : List ℕ × Val). bytes_eq b.0 name) (reverse vars))
    (λ b e. found_holds (λ (b : List ℕ × Val). IsLiving table b.1) (λ (b : List ℕ × Val). bytes_eq b.0 name) (reverse vars) b (all_reversed (λ (b : List ℕ × Val). IsLiving table b.1) vars living) e)

-- the same in an equal table
pub lives_along : (t u : TableMap) (v : Val) → t ≡ u → IsLiving t v → IsLiving u v
lives_along t u v e h = subst (λ t. IsLiving t v) e h

-- living variables with one more
pub bound_live : (table : TableMap) (vars : List (List ℕ × Val)) (name : List ℕ) (v : Val) → AreLiving table vars → IsLiving table v → AreLiving table (vars ++ (name, v) ∷ [])
bound_live table vars name v living lives = All-append (λ (b : List ℕ × Val). IsLiving table b.1) vars ((name, v) ∷ []) living (All-cons (λ (b : List ℕ × Val). IsLiving table b.1) (name, v) [] lives (λ k d h. absurd (omega arith)))
