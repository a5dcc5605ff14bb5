-- A route's text as the router reads it.
use Rattle.std.proofs.Common.{◌≡◌, ◌≢◌, inl, inr, ℕ, List, [], ◌∷◌, ◌++◌, length, None, Ok, Bool, false, refl, ◌∙◌, arith, ◌==◌, ltb, append_assoc}
use Rattle.std.specs.Prelude.{⊤, codes}
use Rattle.std.proofs.lemmas.Bool.Decides.{nat_tests}
use Rattle.std.proofs.lemmas.List.{append-nil}
use Rattle.matchit.specs.Rows.{param_token}
use Rattle.matchit.specs.Route.{Scan, scan, feed, scan_start, parse_route, shape_error}
use Rattle.matchit.proofs.RouteLemmas.{scan-ok, parse-ok}
use Rattle.doll_route.specs.Rows.{IsPattern}

-- no byte is a brace
abbrev pub IsBraceless : List ℕ → Type 0
IsBraceless [] = ⊤
IsBraceless (b ∷ text) = (b ≢ 123) × (b ≢ 125) × IsBraceless text

abbrev at_byte : List ℕ → List ℕ → Scan
at_byte pattern text = record { pattern = pattern; text = text; names = []; name_start = 0; catch_all = false; mode = 0 }

scan-bytes : (bytes : List ℕ) (pattern text more : List ℕ) → IsBraceless bytes → scan (at_byte pattern text) (bytes ++ more) ≡ scan (at_byte (pattern ++ bytes) (text ++ bytes)) more
scan-bytes [] pattern text more plain = rw (append-nil pattern, append-nil text) refl
scan-bytes (b ∷ bytes) pattern text more plain =
    let opens : (b == 123) ≡ false = grind (arith, nat_tests, plain.0) in
    let closes : (b == 125) ≡ false = grind (arith, nat_tests, plain.1) in
    let fed : feed (at_byte pattern text) b ≡ Ok (at_byte (pattern ++ b ∷ []) (text ++ b ∷ [])) = rw (opens, closes) refl in
    let rest = scan-bytes bytes (pattern ++ b ∷ []) (text ++ b ∷ []) more plain.2 in
    scan-ok (at_byte pattern text) (at_byte (pattern ++ b ∷ []) (text ++ b ∷ [])) b (bytes ++ more) fed
    ∙ rw (append_assoc pattern (b ∷ []) bytes, append_assoc text (b ∷ []) bytes) at rest

pub well-shaped : (starts : Bool) (pattern : List ℕ) → IsPattern starts pattern → shape_error pattern ≡ None
well-shaped starts [] is = refl
well-shaped starts (x ∷ t) (inl p) = rw (p.1, p.2) refl
well-shaped starts (x ∷ t) (inr p) =
    let a : ltb 257 x ≡ false = grind (arith, nat_tests, p.0) in
    let b : (x == 256) ≡ false = grind (arith, nat_tests, p.0) in
    let c : (x == 257) ≡ false = grind (arith, nat_tests, p.0) in
    rw (a, b, c) (well-shaped (x == 47) t p.2)

-- bytes stand for themselves
pub reads-bytes : (bytes : List ℕ) → IsBraceless bytes → IsPattern false bytes → (s : Scan) × (parse_route bytes ≡ Ok s) × (s.pattern ≡ bytes)
unfolding scan
reads-bytes bytes plain is =
    let all : scan scan_start bytes ≡ Ok (at_byte bytes bytes) = rw (append-nil bytes) at (scan-bytes bytes [] [] [] plain) in
    (at_byte bytes bytes, parse-ok bytes (at_byte bytes bytes) all (well-shaped false bytes is), refl)

-- and a name in braces for a parameter
pub reads-param : (bytes : List ℕ) → IsBraceless bytes → IsPattern false (bytes ++ param_token ∷ []) → (s : Scan) × (parse_route (bytes ++ codes "{id}") ≡ Ok s) × (s.pattern ≡ bytes ++ param_token ∷ [])
unfolding scan
reads-param bytes plain is =
    let end : Scan = record { pattern = bytes ++ param_token ∷ []; text = (((bytes ++ 123 ∷ []) ++ 105 ∷ []) ++ 100 ∷ []) ++ 125 ∷ []; names = (length (bytes ++ 123 ∷ []), length (((bytes ++ 123 ∷ []) ++ 105 ∷ []) ++ 100 ∷ [])) ∷ []; name_start = length (bytes ++ 123 ∷ []); catch_all = false; mode = 0 } in
    let all : scan scan_start (bytes ++ codes "{id}") ≡ Ok end = scan-bytes bytes [] [] (codes "{id}") plain in
    (end, parse-ok (bytes ++ codes "{id}") end all (well-shaped false (bytes ++ param_token ∷ []) is), refl)
