-- What is put on a paper, and what comes of it as a text (this project's own).
use Rattle.std.specs.Prelude.{ℕ, ◌≡◌, ◌-◌, List, [], ◌∷◌, ◌++◌, codes, length, nat_lt, if◌then◌else◌}
use Rattle.std.specs.Fmt.{decimal}
use Rattle.doll_excerpt.specs.declared.place.Place.{Place}
use Rattle.doll_excerpt.specs.declared.paper.TheConstants.{LONGEST_PAPER}

-- a text behind what is there, where there is room for it and a line end
abbrev pub with_text : List ℕ → List ℕ → List ℕ
with_text paper text = if nat_lt (length text) (LONGEST_PAPER - length paper) then paper ++ text else paper

-- the line and the column of a place behind what is there, each behind a colon
abbrev pub with_place : List ℕ → Place → List ℕ
with_place paper place = with_text (with_text (with_text (with_text paper (codes ":")) (decimal place.line)) (codes ":")) (decimal place.column)

-- it ends with a line end
abbrev pub EndsLine : List ℕ → Type 0
EndsLine text = (body : List ℕ) × (text ≡ body ++ 10 ∷ [])
