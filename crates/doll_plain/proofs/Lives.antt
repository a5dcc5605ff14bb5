-- The variables that a route binds name only living records.
use Rattle.std.proofs.Common.{◌≡◌, ℕ, zero, suc, ◌<◌, ◌∙◌, Bool, ◌||◌, true, false, get_or, length, List, [], ◌∷◌, ◌++◌, Option, None, Some, All, IsSome, sym, arith, ◌⊎◌, inl, inr, ap, refl, subst}
use Rattle.std.specs.FinMap as finite
use Rattle.std.specs.List.{list_any, zip}
use Rattle.std.specs.Ordering.{nat_cmp, eq_by_cmp}
use Rattle.std.proofs.lemmas.Bool.Decides.{nat_tests}
use Rattle.std.proofs.lemmas.List.{append-nil}
use Rattle.std.proofs.lemmas.List.Elements.{All-map, All-append, All-cons}
use Rattle.doll_schema.specs.Models.{ModelList}
use Rattle.doll_schema.specs.declared.value.Val.{Val}
use Rattle.doll_schema.specs.declared.value.Val.TheVariants as val
use Rattle.doll_schema.specs.declared.value.Value.{Value}
use Rattle.doll_table.specs.Tables.{TableMap, ids_of, row_of, rows_in}
use Rattle.doll_eval.specs.Living.{AreLiving, IsLiving}
use Rattle.doll_route.specs.declared.route.Route.{Route}
use Rattle.doll_route.specs.declared.route.Subject.{Subject}
use Rattle.doll_route.specs.declared.route.Subject.TheVariants as subject
use Rattle.doll_route.specs.Routes.{variable_of}
use Rattle.doll_plain.specs.Variables.{is_there, parameters, route_variables, subject_value, variable_with}
use Rattle.doll_plain.specs.Direct.{Variables}

some_same : {X : Type 0} {x y : X} → Some x ≡ Some y → x ≡ y
some_same e = cc

found_at : (ids : List ℕ) (k d : ℕ) → k < length ids → list_any (eq_by_cmp nat_cmp (get_or ids k d)) ids ≡ true
found_at [] k d h = absurd (omega arith)
found_at (id ∷ ids) zero d h = grind (arith, nat_tests)
found_at (id ∷ ids) (suc k) d h = or_right (eq_by_cmp nat_cmp (get_or ids k d) id) (list_any (eq_by_cmp nat_cmp (get_or ids k d)) ids) (found_at ids k d (omega arith))
  where
    or_right : (a b : Bool) → b ≡ true → (a || b) ≡ true
    or_right true b p = refl
    or_right false b p = p

-- the records of a model live
ids_live : (table : TableMap) (model : ℕ) → All (λ id. IsSome (row_of table model id)) (ids_of table model)
ids_live table model k d within = finite.contains_key-keys (rows_in table model) (get_or (ids_of table model) k d) ∙ found_at (ids_of table model) k d within

-- a variable whose value lives
with_lives : (table : TableMap) (name : Option (List ℕ)) (value : Option Val) → ((v : Val) → value ≡ Some v → IsLiving table v) → AreLiving table (variable_with name value)
with_lives table None value lives = λ k d h. absurd (omega arith)
with_lives table (Some name) None lives = λ k d h. absurd (omega arith)
with_lives table (Some name) (Some value) lives = All-cons (λ (b : List ℕ × Val). IsLiving table b.1) (name, value) [] (lives value refl) (λ k d h. absurd (omega arith))

subject_lives : (table : TableMap) (about : Subject) (id : Option ℕ) → is_there table about id ≡ true → (v : Val) → subject_value table about id ≡ Some v → IsLiving table v
subject_lives table (subject.Record model) None there v is = absurd (cc is)
subject_lives table (subject.Record model) (Some id) there v is = subst (IsLiving table) (some_same is) there
subject_lives table (subject.List model) id there v is = subst (IsLiving table) (some_same is) (ids_live table model)
subject_lives table subject.Nothing id there v is = absurd (cc is)

pub route_lives : (schema : ModelList) (route : Route) (id : Option ℕ) (params : List Value) (table : TableMap) → is_there table route.subject id ≡ true → AreLiving table (route_variables schema route id params table)
route_lives schema route id params table there =
    All-append (λ (b : List ℕ × Val). IsLiving table b.1) (variable_with (variable_of schema route.subject) (subject_value table route.subject id)) (parameters route.params params)
    (with_lives table (variable_of schema route.subject) (subject_value table route.subject id) (subject_lives table route.subject id there))
    (All-map (λ (b : List ℕ × Val). IsLiving table b.1) (λ (one : List ℕ × Value). (one.0, val.Plain one.1)) (zip route.params params) (λ k d h. tt))

-- the parameters beside which one of the two lists has ended
no_values : (names : List (List ℕ)) → parameters names [] ≡ []
no_values [] = refl
no_values (name ∷ names) = refl

pub all_bound : (vars whole : Variables) (names : List (List ℕ)) (values : List Value) → (names ≡ []) ⊎ (values ≡ []) → vars ++ parameters names values ≡ whole → vars ≡ whole
all_bound vars whole names values ended so_far = sym (ap (λ more. vars ++ more) (nothing ended) ∙ append-nil vars) ∙ so_far
  where
    nothing : (names ≡ []) ⊎ (values ≡ []) → parameters names values ≡ []
    nothing (inl none) = ap (λ ns. parameters ns values) none
    nothing (inr none) = ap (parameters names) none ∙ no_values names
