-- The set of templates of a site's files, and which refusal of a bundle its faults are (this project's own).
use Rattle.std.specs.Prelude.{ℕ, ◌+◌, Bool, not, List, [], ◌∷◌, ◌++◌, drop, map, codes, Result, Ok, Err}
use Rattle.std.specs.List.{prefix_len}
use Rattle.std.specs.Str.{bytes_eq}
use Rattle.md5.specs.Md5.{md5}
use Rattle.doll_base.specs.declared.in_memory.ViewFile.{ViewFile}
use Rattle.doll_digest.specs.Registries.{empty}
use Rattle.doll_set.specs.Sets.{ReadSet, set_of}
use Rattle.doll_set.specs.declared.fault.SetFault.{SetFault}
use Rattle.doll_set.specs.declared.fault.SetFault.TheVariants as fault
use Rattle.doll_views.specs.declared.refusal.Kind.TheVariants as kind
use Rattle.doll_views.specs.declared.refusal.Refusal.{Refusal}
use Rattle.doll_views.specs.declared.refusal.Refusal.TheVariants.{Memory}
use Rattle.doll_views.specs.Views.{views_refusal}

-- ---- numbers

-- the name of a template's file
abbrev pub file_name : List ℕ → List ℕ
file_name template = template ++ codes ".html.erb"

-- a file has another name
abbrev pub is_named_otherwise : List ℕ → ViewFile → Bool
is_named_otherwise name file = not (bytes_eq file.name name)

-- how many files stand before the first with this name
abbrev pub number_named : List ViewFile → List ℕ → ℕ
number_named files name = prefix_len (is_named_otherwise name) files

-- the number of a template's file
abbrev pub number_of : List ViewFile → List ℕ → ℕ
number_of files template = number_named files (file_name template)

-- the number of the second file of a template
abbrev pub second_of : List ViewFile → List ℕ → ℕ
second_of files template =
    let first = number_of files template + 1 in
    first + number_of (drop first files) template

-- the first name of a cycle
abbrev pub first_name : List (List ℕ) → List ℕ
first_name [] = []
first_name (name ∷ names) = name

-- ---- refusals

-- a fault of a set has the number of the file that it is in
abbrev pub set_refusal : List ViewFile → SetFault → Refusal
set_refusal files (fault.TooMany count) = views_refusal 0 kind.TooMany
set_refusal files (fault.BadName index) = views_refusal index kind.BadName
set_refusal files (fault.Duplicate name) = views_refusal (second_of files name) kind.Duplicate
set_refusal files (fault.TooLong name) = views_refusal (number_of files name) kind.TooLong
set_refusal files (fault.BadTemplate name why) = views_refusal (number_of files name) kind.BadTemplate
set_refusal files (fault.MissingPartial name at) = views_refusal (number_of files name) kind.MissingPartial
set_refusal files (fault.Cycle names) = views_refusal (number_of files (first_name names)) kind.Cycle
set_refusal files (fault.DepthOver name) = views_refusal (number_of files name) kind.DepthOver
set_refusal files (fault.TooWide name) = views_refusal (number_of files name) kind.TooWide
set_refusal files (fault.Clash old new) = views_refusal 0 kind.Clash
-- this never comes: no definition answers want of memory
set_refusal files fault.Memory = Memory

abbrev pub or_set_refusal : List ViewFile → Result ReadSet SetFault → Result ReadSet Refusal
or_set_refusal files (Ok set) = Ok set
or_set_refusal files (Err why) = Err (set_refusal files why)

-- the set of a site's files, with MD5 for its digests
unfoldable pub set_in : List ViewFile → Result ReadSet Refusal
set_in files = or_set_refusal files (set_of md5 empty files)
