-- What the router keeps: for each route a row, whose pattern is the route's path with a parameter for its id.
use Rattle.std.specs.Prelude.{◌≡◌, ◌≢◌, ◌⊎◌, ⊤, ℕ, ◌<◌, ◌==◌, Bool, true, false, List, [], ◌∷◌, ◌++◌, codes, slice_get, Option, Some, None, option_map}
use Rattle.std.specs.Char.{is_ascii_digit}
use Rattle.matchit.specs.Order.{lookup, placed}
use Rattle.matchit.specs.Router.{RouteOf}
use Rattle.matchit.specs.Rows.{RowsOf, param_token}
use Rattle.matchit.specs.Seek.{slash}
use Rattle.doll_route.specs.declared.route.Route.{Route}
use Rattle.doll_route.specs.Paths.{before_id}

-- What may stand in a pattern from here on, where a segment starts or within one: bytes, none of which is a digit where a segment
-- starts, or a parameter that is the whole last segment.
abbrev pub IsPattern : Bool → List ℕ → Type 0
IsPattern starts [] = ⊤
IsPattern starts (token ∷ more) =
    ((starts ≡ true) × (token ≡ param_token) × (more ≡ []))
    ⊎ ((token < param_token) × (starts ≡ true → is_ascii_digit token ≡ false) × IsPattern (token == slash) more)

-- rows of such patterns
abbrev pub HavePatterns : {K : Type 0} → Bool → RowsOf K → Type 0
HavePatterns starts [] = ⊤
HavePatterns starts ((pattern, key) ∷ rows) = IsPattern starts pattern × HavePatterns starts rows

-- the pattern of a route's path
abbrev pub pattern_by : Option (List ℕ) → List ℕ → List ℕ
pattern_by (Some front) path = front ++ param_token ∷ []
pattern_by None path = path

abbrev pub pattern_of : List ℕ → List ℕ
pattern_of path = pattern_by (before_id path) path

-- the text of that pattern
abbrev pub router_text_by : Option (List ℕ) → List ℕ → List ℕ
router_text_by (Some front) path = front ++ codes "{id}"
router_text_by None path = path

abbrev pub router_text : List ℕ → List ℕ
router_text path = router_text_by (before_id path) path

-- the number in a row
abbrev pub row_number : Option (RouteOf ℕ) → Option ℕ
row_number row = option_map (λ (r : RouteOf ℕ). r.value) row

-- each route has a row with its number, and there are no others
pub record HasRows (routes : List Route) (rows : RowsOf (RouteOf ℕ)) : Type 0 where
  pub patterns : HavePatterns false rows
  pub each : (n : ℕ) (r : Route) → slice_get routes n ≡ Some r → row_number (lookup (pattern_of r.path) rows) ≡ Some n
  pub only : (pattern : List ℕ) → ((n : ℕ) (r : Route) → slice_get routes n ≡ Some r → pattern_of r.path ≢ pattern) → lookup pattern rows ≡ None

-- the rows with one more, of this pattern and with this number
abbrev pub AddsRow : List ℕ → ℕ → RowsOf (RouteOf ℕ) → RowsOf (RouteOf ℕ) → Type 0
AddsRow pattern number old new = (row : RouteOf ℕ) × (row.value ≡ number) × (new ≡ placed (pattern, row) old)
