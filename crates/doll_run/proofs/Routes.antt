-- The variables that a route binds have the types that it gives them.
use Rattle.std.proofs.Common.{◌≡◌, ℕ, suc, true, false, List, [], ◌∷◌, ◌++◌, length, map, Option, None, Some, IsSome, All, refl, ap, sym, subst, ◌∙◌}
use Rattle.std.specs.Prelude.{is_some, option_map}
use Rattle.std.specs.List.{AllByRecursion}
use Rattle.std.specs.Option.{option_map_or}
use Rattle.std.proofs.lemmas.List.{append-nil, append_assoc}
use Rattle.std.proofs.lemmas.List.Elements.{recursion_from_All}
use Rattle.doll_schema.specs.Models.{ModelList}
use Rattle.doll_schema.specs.declared.value.Val.{Val}
use Rattle.doll_schema.specs.declared.value.Val.TheVariants as val
use Rattle.doll_schema.specs.declared.value.Row.{Row}
use Rattle.doll_schema.specs.declared.value.Value.{Value}
use Rattle.doll_table.specs.Tables.{TableMap, ids_of, row_of}
use Rattle.doll_eval.specs.Living.{IsLiving}
use Rattle.doll_route.specs.declared.route.Route.{Route}
use Rattle.doll_route.specs.declared.route.Subject.{Subject}
use Rattle.doll_route.specs.declared.route.Subject.TheVariants as subject
use Rattle.doll_route.specs.Routes.{variable_of}
use Rattle.doll_plain.specs.Direct.{Variables}
use Rattle.doll_plain.specs.Variables.{is_there, parameters, route_variables, subject_value, variable_with}
use Rattle.doll_plain.proofs.Lives.{route_lives}
use Rattle.doll_types.specs.declared.types.ValueType.TheVariants as type
use Rattle.doll_types.specs.Reached.{route_typing, subject_typing}
use Rattle.doll_types.specs.Sound.{HaveTypes, ValueHasType}
use Rattle.doll_types.specs.Types.{Typing}
use Rattle.doll_types.proofs.Values.{bound}

no_types : (table : TableMap) → HaveTypes table [] []
no_types table name t is = absurd (cc is)

-- parameters that are texts or nil, behind other variables
params_typed : (table : TableMap) (typing : Typing) (vars : Variables) (names : List (List ℕ)) (params : List Value) → HaveTypes table typing vars → length params ≡ length names → AllByRecursion (ValueHasType type.Text) params
    → HaveTypes table (typing ++ map (λ name. (name, type.Text)) names) (vars ++ parameters names params)
params_typed table typing vars [] [] have same texts =
    subst (λ t. HaveTypes table t (vars ++ [])) (sym (append-nil typing)) (subst (λ v. HaveTypes table typing v) (sym (append-nil vars)) have)
params_typed table typing vars [] (p ∷ params) have same texts = absurd (cc same)
params_typed table typing vars (name ∷ names) [] have same texts = absurd (cc same)
params_typed table typing vars (name ∷ names) (p ∷ params) have same texts =
    subst (λ t. HaveTypes table t (vars ++ ((name, val.Plain p) ∷ parameters names params))) (append_assoc typing ((name, type.Text) ∷ []) (map (λ name. (name, type.Text)) names))
    (subst (λ v. HaveTypes table ((typing ++ (name, type.Text) ∷ []) ++ map (λ name. (name, type.Text)) names) v) (append_assoc vars ((name, val.Plain p) ∷ []) (parameters names params))
    (params_typed table (typing ++ (name, type.Text) ∷ []) (vars ++ (name, val.Plain p) ∷ []) names params (bound table typing vars name type.Text (val.Plain p) have texts.0) (one_less (length params) (length names) same) texts.1))
  where
    one_less : (m n : ℕ) → suc m ≡ suc n → m ≡ n
    one_less m n e = cc e

-- the record or the list of a route
subject_typed : (schema : ModelList) (route : Route) (id : Option ℕ) (table : TableMap) (of : Subject) → route.subject ≡ of → is_there table route.subject id ≡ true
    → HaveTypes table (subject_typing schema of) (variable_with (variable_of schema of) (subject_value table of id))
subject_typed schema route id table (subject.Record model) is there = by (variable_of schema (subject.Record model)) id (ap (λ s. is_there table s id) (sym is) ∙ there)
  where
    lives : (row : Option Row) → is_some row ≡ true → IsSome row
    lives None e = absurd (cc e)
    lives (Some row) e = refl

    by : (name : Option (List ℕ)) (id : Option ℕ) → option_map_or (λ id. is_some (row_of table model id)) id false ≡ true
        → HaveTypes table (option_map_or (λ name. (name, type.Record model) ∷ []) name []) (variable_with name (option_map (val.Record model) id))
    by None id e = no_types table
    by (Some name) None e = absurd (cc e)
    by (Some name) (Some id) e = bound table [] [] name (type.Record model) (val.Record model id) (no_types table) (refl, lives (row_of table model id) e)
subject_typed schema route id table (subject.List model) is there = by (variable_of schema (subject.List model)) refl
  where
    one : Route
    one = record { path = route.path; template = route.template; subject = subject.List model; params = [] }

    by : (name : Option (List ℕ)) → variable_of schema (subject.List model) ≡ name
        → HaveTypes table (option_map_or (λ name. (name, type.List model) ∷ []) name []) (variable_with name (Some (val.List model (ids_of table model))))
    by None named = no_types table
    by (Some name) named =
        let live = recursion_from_All (λ (v : List ℕ × Val). IsLiving table v.1) ((name, val.List model (ids_of table model)) ∷ [])
        (subst (λ n. All (λ (v : List ℕ × Val). IsLiving table v.1) (variable_with n (Some (val.List model (ids_of table model))) ++ [])) named (route_lives schema one None [] table refl)) in
        bound table [] [] name (type.List model) (val.List model (ids_of table model)) (no_types table) (refl, live.0)
subject_typed schema route id table subject.Nothing is there = no_types table

pub route_typed : (schema : ModelList) (route : Route) (id : Option ℕ) (params : List Value) (table : TableMap) → is_there table route.subject id ≡ true → length params ≡ length route.params → AllByRecursion (ValueHasType type.Text) params
    → HaveTypes table (route_typing schema route) (route_variables schema route id params table)
route_typed schema route id params table there same texts =
    params_typed table (subject_typing schema route.subject) (variable_with (variable_of schema route.subject) (subject_value table route.subject id)) route.params params
    (subject_typed schema route id table route.subject refl there) same texts
