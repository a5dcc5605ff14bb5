-- The digests of a set's templates, as they are printed (this project's own).
use Rattle.std.specs.Prelude.{ℕ, ◌+◌, List, [], ◌∷◌, ◌++◌, slice_get, Option}
use Rattle.std.specs.Option.{option_map_or}
use Rattle.doll_digest.specs.Framing.{hex_digits}
use Rattle.doll_set.specs.Sets.{ReadSet}
use Rattle.doll_set.specs.declared.template.Template.{Template}

-- the digest of a template in digits, a space, its name and a line end
abbrev pub digest_line : Option (List ℕ) → List ℕ → List ℕ
digest_line digest name = option_map_or hex_digits digest [] ++ 32 ∷ name ++ 10 ∷ []

-- such lines of templates, the first of which has this number
abbrev pub digest_lines_from : List (List ℕ) → ℕ → List Template → List ℕ
digest_lines_from digests number [] = []
digest_lines_from digests number (template ∷ templates) =
    digest_line (slice_get digests number) template.name ++ digest_lines_from digests (number + 1) templates

-- the digests of a set, a line for each template, in ascending order of names
abbrev pub digest_lines : ReadSet → List ℕ
digest_lines set = digest_lines_from set.digests 0 set.templates
