use Rattle.std.proofs.Common.{true≢false, is_some, ◌≡◌, ℕ, Option, Some, None, eqb, refl, sym, ap}
use Rattle.std.specs.Bool.{Decides}
use Rattle.std.specs.Option.{option_eq, unwrap_or}
use Rattle.std.proofs.lemmas.Slice.Eq.{slice_eq-Decides}
use Rattle.std.proofs.lemmas.Bool.Decides.{Decides-eqb}
use Rattle.doll_table.proofs.links.same_parents.Goals as goal

-- the test of `==` on two keys
keys_decide : (a b : Option ℕ) → Decides (option_eq eqb a b) (a ≡ b)
keys_decide None None = (λ _. refl, λ _. refl)
keys_decide None (Some w) = (λ e. absurd (true≢false (sym e)), λ e. absurd (true≢false (ap is_some (sym e))))
keys_decide (Some v) None = (λ e. absurd (true≢false (sym e)), λ e. absurd (true≢false (ap is_some e)))
keys_decide (Some v) (Some w) = (λ e. ap Some ((Decides-eqb v w).0 e), λ e. (Decides-eqb v w).1 (ap (λ u. unwrap_or u v) e))

pub returns : goal.returns
returns c = rw (← c.as_slice.ensures, ← c.as_slice-2.ensures) (slice_eq-Decides keys_decide c.as_slice.result.now c.as_slice-2.result.now c.eq.result c.eq.ensures)
