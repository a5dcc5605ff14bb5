-- The parameters of a query, in the syntax of web forms (the URL Standard, section 5, `application/x-www-form-urlencoded`).
use Rattle.std.specs.Prelude.{◌≡◌, ℕ, Bool, true, false, List, [], ◌∷◌, length, map, bytes_eq, slice_get, Option, Some, None, All, if◌then◌else◌}
use Rattle.std.specs.Str.Lossy.{utf8_lossy}
use Rattle.form_urlencoded.specs.Form.{decode, raw_pairs}
use Rattle.doll_schema.specs.declared.value.Value.{Value}
use Rattle.doll_schema.specs.declared.value.Value.TheVariants as variant
use Rattle.doll_route.specs.declared.route.Route.{Route}

-- the text of a name or a value; what isn't UTF-8 is replaced
abbrev pub form_text : List ℕ → List ℕ
form_text bytes = utf8_lossy (decode bytes)

-- the value of the first pair with this name, else nil
abbrev pub first_value : List ℕ → List (List ℕ × List ℕ) → Value
first_value name [] = variant.Nil
first_value name ((key, value) ∷ pairs) = if bytes_eq (form_text key) name then variant.Text (form_text value) else first_value name pairs

-- the value of a parameter
abbrev pub param_value : List ℕ → List ℕ → Value
param_value query name = first_value name (raw_pairs query)

-- the names of a route's parameters
abbrev pub param_names : Option Route → List (List ℕ)
param_names None = []
param_names (Some r) = r.params

-- the values of the parameters of the route with a number
abbrev pub params_in : List Route → ℕ → List ℕ → List Value
params_in routes number query = map (param_value query) (param_names (slice_get routes number))

-- a text or nil, as parameters are
abbrev pub is_param : Value → Bool
is_param variant.Nil = true
is_param (variant.Text text) = true
is_param (variant.Bool truth) = false
is_param (variant.Int number) = false

-- such a value for each name
abbrev pub AreParamsFor : List (List ℕ) → List Value → Type 0
AreParamsFor names values = (length values ≡ length names) × All (λ value. is_param value ≡ true) values
