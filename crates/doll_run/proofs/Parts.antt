-- Parts of a rendering, one after another.
use Rattle.std.proofs.Common.{◌≡◌, ℕ, ◌+◌, Bool, true, false, cond, List, [], ◌∷◌, ◌++◌, Option, None, Some, refl, sym, subst}
use Rattle.std.specs.Prelude.{IfSome}
use Rattle.std.specs.List.{AllByRecursion, flat_map}
use Rattle.std.proofs.lemmas.List.{append-nil, append_assoc}
use Rattle.doll_entry.specs.declared.asks.Ask.{Ask}
use Rattle.doll_entry.specs.declared.entry.Fresh.{Fresh}
use Rattle.doll_plain.specs.Direct.{Variables}
use Rattle.doll_run.specs.Direct.{Comes, Follows, WritesOnly}
use Rattle.doll_run.specs.Rendering.{Keyed, Stage, after_looks, after_text, asked, asked_run, block_run, for_each, found_or, fresh}
use Rattle.doll_run.specs.Runs.{Rest, Writes}

module _ (Found : Ask → List ℕ → Type 0) (Made : Fresh → Type 0) where
  pub nothing_written : WritesOnly Found Made [] (λ rest. rest)
  nothing_written page out rest follows looks = subst (λ o. Comes Found Made page (rest looks o)) (append-nil out) (follows looks)

  pub text_written : (text : List ℕ) → WritesOnly Found Made text (after_text text)
  text_written text page out rest follows looks = follows looks

  pub looks_first : (text : List ℕ) (more : ℕ) (run : Rest → Rest) → WritesOnly Found Made text run → WritesOnly Found Made text (λ rest. after_looks more (run rest))
  looks_first text more run writes page out rest follows looks = writes page out rest follows (looks + more)

  pub one_then : (text then : List ℕ) (run next : Rest → Rest) → WritesOnly Found Made text run → WritesOnly Found Made then next → WritesOnly Found Made (text ++ then) (λ rest. run (next rest))
  one_then text then run next first second page out rest follows =
      first page out (next rest) (second page (out ++ text) rest (subst (λ o. Follows Found Made page o rest) (sym (append_assoc out text then)) follows))

  pub each_written : {X : Type 0} (text : X → List ℕ) (run : X → Rest → Rest) (xs : List X) → AllByRecursion (λ x. WritesOnly Found Made (text x) (run x)) xs → WritesOnly Found Made (flat_map text xs) (for_each run xs)
  each_written text run [] all = nothing_written
  each_written text run (x ∷ xs) all = one_then (text x) (flat_map text xs) (run x) (for_each run xs) all.0 (each_written text run xs all.1)

  pub written_as : (text same : List ℕ) (run : Rest → Rest) → text ≡ same → WritesOnly Found Made text run → WritesOnly Found Made same run
  written_as text same run is writes = subst (λ t. WritesOnly Found Made t run) is writes

  -- a block that is answered rightly, and whose body writes what it shows
  pub found_written : (found : Option (List ℕ)) (shown : List ℕ) (body : Rest → Rest) (made : List ℕ → Fresh) → IfSome found (λ bytes. bytes ≡ shown) → Made (made shown) → WritesOnly Found Made shown body → WritesOnly Found Made shown (found_or found body made)
  found_written (Some bytes) shown body made right fresh writes page out rest follows looks =
      subst (λ b. Comes Found Made page (rest looks (out ++ b))) (sym right) (follows looks)
  found_written None shown body made right fresh writes page out rest follows looks =
      writes page [] (λ more inner. Writes more (made inner) (rest 0 (out ++ inner))) (λ more. (fresh, follows 0)) looks

  pub if_right : (ask : Ask) (shown : List ℕ) → ((bytes : List ℕ) → Found ask bytes → bytes ≡ shown) → (found : Option (List ℕ)) → IfSome found (Found ask) → IfSome found (λ bytes. bytes ≡ shown)
  if_right ask shown right None is = tt
  if_right ask shown right (Some bytes) is = right bytes is

  pub block_written : (stage : Stage) (template block : ℕ) (key : Keyed) (vars : Variables) (shown : List ℕ) (body : Rest → Rest)
      → (key.is_key ≡ true → (bytes : List ℕ) → Found (asked stage.tree template block key vars) bytes → bytes ≡ shown) → (key.is_key ≡ true → Made (fresh stage.tree stage.moment template block key vars shown)) → WritesOnly Found Made shown body
      → WritesOnly Found Made shown (block_run stage template block key vars body)
  block_written stage template block key vars shown body right made writes = by key.is_key refl
    where
      by : (b : Bool) → key.is_key ≡ b → WritesOnly Found Made shown (λ rest looks out. cond b (asked_run stage template block key vars body rest looks out) (after_looks key.looks (body rest) looks out))
      by true is = λ page out rest follows looks found may.
          found_written found shown body (fresh stage.tree stage.moment template block key vars) (if_right (asked stage.tree template block key vars) shown (right is) found may) (made is) writes page out rest follows 0
      by false is = looks_first shown key.looks body writes
