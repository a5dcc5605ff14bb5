-- What a thing has of its own and of what its dependencies have (this project's own).
use Rattle.std.specs.Prelude.{ℕ, zero, suc}

-- it n levels deep, with nothing behind these; `made` says it of a thing by what the others have
abbrev pub by_levels : {V : Type 0} → V → (ℕ → (ℕ → V) → V) → ℕ → ℕ → V
by_levels nothing made zero number = nothing
by_levels nothing made (suc n) number = made number (by_levels nothing made n)
