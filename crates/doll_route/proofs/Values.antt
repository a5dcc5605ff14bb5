-- The values of parameters are texts or nil.
use Rattle.std.proofs.Common.{◌≡◌, List, [], ◌∷◌, ℕ, Bool, true, false, cond, refl, ap, suc, length, map, get_or}
use Rattle.std.specs.Prelude.{bytes_eq}
use Rattle.std.proofs.lemmas.List.Elements.{All-map}
use Rattle.form_urlencoded.specs.Form.{raw_pairs}
use Rattle.doll_schema.specs.declared.value.Value.{Value}
use Rattle.doll_schema.specs.declared.value.Value.TheVariants.{Text}
use Rattle.doll_route.specs.Queries.{AreParamsFor, is_param, form_text, first_value, param_value}

value-fits : (name : List ℕ) (pairs : List (List ℕ × List ℕ)) → is_param (first_value name pairs) ≡ true
value-fits name [] = refl
value-fits name ((key, value) ∷ pairs) = by (bytes_eq (form_text key) name) (value-fits name pairs)
  where
    by : (v : Bool) → is_param (first_value name pairs) ≡ true → is_param (cond v (Text (form_text value)) (first_value name pairs)) ≡ true
    by true more = refl
    by false more = more

same-length : (query : List ℕ) (names : List (List ℕ)) → length (map (param_value query) names) ≡ length names
same-length query [] = refl
same-length query (name ∷ names) = ap suc (same-length query names)

pub values-fit : (query : List ℕ) (names : List (List ℕ)) (values : List Value) → values ≡ map (param_value query) names → AreParamsFor names values
values-fit query names values is =
    rw is (same-length query names, All-map (λ v. is_param v ≡ true) (param_value query) names (λ k d within. value-fits (get_or names k d) (raw_pairs query)))
