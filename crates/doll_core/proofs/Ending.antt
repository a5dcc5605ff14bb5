-- All turns of a page end with the page.
use Rattle.std.proofs.Common.{◌≡◌, ℕ, List, [], ◌∷◌, ◌++◌, refl, ap}
use Rattle.doll_frames.specs.Stacks.{fragment, fragments}
use Rattle.doll_report.specs.declared.outcome.Outcome.{Outcome}
use Rattle.doll_report.specs.declared.outcome.Outcome.TheVariants as outcome
use Rattle.doll_run.specs.Runs.{Ends, Reads, ReadsMany, Writes}
use Rattle.doll_core.specs.Pages.{TurnsEndWithAPage}
use Rattle.doll_core.specs.States.{with_entries}
use Rattle.doll_core.specs.Turns.{found_all, found_one, shelf_with}

abbrev pub EndsWell : List Outcome → Type 0
EndsWell all = (told : List Outcome) × ((bytes : List ℕ) × (all ≡ told ++ outcome.Page bytes ∷ []))

behind : (one : Outcome) (all : List Outcome) → EndsWell all → EndsWell (one ∷ all)
behind one all ends = (one ∷ ends.0, (ends.1.0, ap (λ more. one ∷ more) ends.1.1))

pub ends : TurnsEndWithAPage
ends now (Ends looks bytes) shelf = ([], (bytes, refl))
ends now (Reads looks ask rest) shelf =
    behind (outcome.Read (found_one now shelf ask).0) _ (ends now (rest (fragment (found_one now shelf ask).0)) (with_entries shelf (found_one now shelf ask).1))
ends now (ReadsMany looks asks rest) shelf =
    behind (outcome.Many (found_all now asks shelf.entries).0) _ (ends now (rest (fragments (found_all now asks shelf.entries).0)) (with_entries shelf (found_all now asks shelf.entries).1))
ends now (Writes looks fresh rest) shelf = behind outcome.Wrote _ (ends now rest (shelf_with now fresh shelf))
