-- The files of a folder, what reading one gives, and which names may be those of files in it (this project's own).
use Rattle.std.specs.Prelude.{◌≡◌, ℕ, Bool, not, ◌&&◌, codes, List, [], ◌∷◌, length, Option, Some, None, Result, Ok, Err, Vec, if◌then◌else◌, map, nat_lt}
use Rattle.std.specs.List.{list_all}
use Rattle.std.specs.Str.{bytes_eq}
use Rattle.std.specs.declared.alloc.Global.{Global}
use Rattle.doll_text.specs.Segments.{segments}
use Rattle.doll_base.specs.declared.in_memory.ViewFile.{ViewFile}
use Rattle.doll_base.specs.declared.folder.FolderFault.{FolderFault}
use Rattle.doll_base.specs.declared.folder.FolderFault.TheVariants.{Missing, TooLong, Failed, Memory}

-- The bytes of the file with this name, of the first where several have it.
abbrev pub file_named : List ℕ → List (List ℕ × List ℕ) → Option (List ℕ)
file_named name [] = None
file_named name (file ∷ files) = if bytes_eq file.0 name then Some file.1 else file_named name files

-- All the bytes of a file that was found, or the refusal of one that is missing or has more than allowed.
abbrev pub file_up_to : ℕ → Option (List ℕ) → Result (List ℕ) FolderFault
file_up_to most None = Err Missing
file_up_to most (Some bytes) = if nat_lt most (length bytes) then Err TooLong else Ok bytes

-- The call gave what is expected of it, unless the folder failed or no memory was found.
abbrev pub GivesFile : Result (List ℕ) FolderFault → Result (Vec ℕ Global) FolderFault → Type 0
GivesFile expected (Ok bytes) = expected ≡ Ok bytes.items
GivesFile expected (Err Missing) = expected ≡ Err Missing
GivesFile expected (Err TooLong) = expected ≡ Err TooLong
GivesFile expected (Err Failed) = Unit {0}
GivesFile expected (Err Memory) = Unit {0}

-- The bytes that a list of pairs has in front, one for each pair.
abbrev pub logged_bytes : List (ℕ × Unit {0}) → List ℕ
logged_bytes pairs = map (λ pair. pair.0) pairs

-- The files as pairs of a name and its bytes.
abbrev pub named_files : List ViewFile → List (List ℕ × List ℕ)
named_files files = map (λ file. (file.name, file.source)) files

-- A segment of a path that stands for something in the folder that it is looked up in: it is neither empty nor one of
-- the two that mean that folder and the one above it.
abbrev pub is_entry : List ℕ → Bool
is_entry segment = nat_lt 0 (length segment) && not (bytes_eq segment (codes ".")) && not (bytes_eq segment (codes ".."))

-- A name leads down from the folder at each step. One that begins with a slash has an empty segment before it.
abbrev pub leads_down : List ℕ → Bool
leads_down name = list_all is_entry (segments name)
