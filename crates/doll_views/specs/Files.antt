-- The files of a site once those that a folder has are read, and what is asked of the folder (this project's own).
use Rattle.std.specs.Prelude.{◌≡◌, ℕ, ◌||◌, nat_lt, Bool, true, false, not, List, [], ◌∷◌, ◌++◌, drop, length, map, take, Option, Some, None, IfSome, Result, Ok, Err, MatchResult, if◌then◌else◌}
use Rattle.std.specs.List.{prefix_len}
use Rattle.std.specs.Option.{option_map_or}
use Rattle.std.specs.Str.{bytes_eq, is_utf8}
use Rattle.doll_text.specs.Steps.{◌>>=◌}
use Rattle.doll_base.specs.Folders.{file_named, named_files}
use Rattle.doll_base.specs.declared.folder.FolderFault.{FolderFault}
use Rattle.doll_base.specs.declared.folder.FolderFault.TheVariants as fault
use Rattle.doll_base.specs.declared.in_memory.ViewFile.{ViewFile}
use Rattle.doll_views.specs.declared.files.TheConstants.{LONGEST_FILE}
use Rattle.doll_views.specs.declared.refusal.Kind.TheVariants as kind
use Rattle.doll_views.specs.declared.refusal.Refusal.{Refusal}
use Rattle.doll_views.specs.declared.refusal.Refusal.TheVariants as refusal
use Rattle.doll_views.specs.declared.views.NamedFile.{NamedFile}
use Rattle.doll_views.specs.declared.views.Source.{Source}
use Rattle.doll_views.specs.declared.views.Source.TheVariants as source
use Rattle.doll_views.specs.Views.{Listing, views_refusal}

-- ---- what is read

-- a file that is read from the folder
abbrev pub is_in_folder : Source → Bool
is_in_folder source.Folder = true
is_in_folder source.NoText = false
is_in_folder (source.Given text) = false

-- a file isn't the one that is read under this name
abbrev pub is_other : List ℕ → NamedFile → Bool
is_other name file = not (is_in_folder file.source) || not (bytes_eq file.name name)

-- the number of the file that is read under this name
abbrev pub number_in_folder : List NamedFile → List ℕ → ℕ
number_in_folder files name = prefix_len (is_other name) files

-- bytes as the source of the file with this number
abbrev pub source_of_bytes : ℕ → List ℕ → Result (List ℕ) Refusal
source_of_bytes number bytes = if is_utf8 bytes then Ok bytes else Err (views_refusal number kind.BadForm)

-- what a folder gave for the file with this number, its bytes where it is there, as a source
abbrev pub read_source : ℕ → Option (List ℕ) → Result (List ℕ) Refusal
read_source number None = Err (views_refusal number kind.Missing)
read_source number (Some bytes) = if nat_lt LONGEST_FILE (length bytes) then Err refusal.TooLong else source_of_bytes number bytes

-- the first of what a folder gave, nothing where it gave nothing more
abbrev pub next_given : List (Option (List ℕ)) → Option (List ℕ)
next_given [] = None
next_given (bytes ∷ given) = bytes

-- why a folder gave no file, as the refusal of a bundle
abbrev pub folder_refusal : ℕ → FolderFault → Refusal
folder_refusal number fault.Missing = views_refusal number kind.Missing
folder_refusal number fault.TooLong = refusal.TooLong
folder_refusal number fault.Failed = refusal.Failed
folder_refusal number fault.Memory = refusal.Memory

-- the file with a number, a name and these bytes
abbrev pub text_file : ℕ → List ℕ → List ℕ → Result ViewFile Refusal
text_file number name bytes = do
  text ← source_of_bytes number bytes
  Ok (record { name = name; source = text })

-- the file with a number and a name, where this was found in the folder
abbrev pub read_file : ℕ → List ℕ → Option (List ℕ) → Result ViewFile Refusal
read_file number name found = do
  text ← read_source number found
  Ok (record { name = name; source = text })

-- the files that are read, one after another, behind those that were, or the first refusal
abbrev pub read_from : List NamedFile → List ViewFile → List NamedFile → List (Option (List ℕ)) → Result (List ViewFile) Refusal
read_from files read [] given = Ok read
read_from files read (file ∷ wanted) given = do
  one ← read_file (number_in_folder files file.name) file.name (next_given given)
  read_from files (read ++ one ∷ []) wanted (drop 1 given)

-- ---- all files

-- the source of the file with this name among these, nothing where there is none
abbrev pub source_named : List ViewFile → List ℕ → List ℕ
source_named read name = option_map_or (λ text. text) (file_named name (named_files read)) []

-- the source of a file, where these were read
abbrev pub source_in : List ViewFile → List ℕ → Source → List ℕ
source_in read name (source.Given text) = text
source_in read name source.Folder = source_named read name
-- this never comes: such a view is refused
source_in read name source.NoText = []

abbrev pub with_source : List ViewFile → NamedFile → ViewFile
with_source read file = record { name = file.name; source = source_in read file.name file.source }

-- the files of a listing, where the folder gave these bytes for those that are read
unfoldable pub files_of : Listing → List (Option (List ℕ)) → Result (List ViewFile) Refusal
files_of listing given = do
  read ← read_from listing.files [] listing.wanted given
  Ok (map (with_source read) listing.files)

-- ---- what is asked

-- the names that a folder is asked for, in this order
abbrev pub wanted_names : List NamedFile → List (List ℕ)
wanted_names wanted = map (λ (f : NamedFile). f.name) wanted

-- The folder has these bytes under the names, in turn, where it tells its files; else it gave some.
abbrev pub IsGiven : Option (List (List ℕ × List ℕ)) → List (List ℕ) → List (Option (List ℕ)) → Type 0
IsGiven told names given = IfSome told (λ files. given ≡ map (λ name. file_named name files) names)

-- The folder was asked for the first of these names, in turn, perhaps for none or all.
abbrev pub AsksFirst : List (List ℕ) → List (List ℕ) → List (List ℕ) → Type 0
AsksFirst names before after = (count : ℕ) × (after ≡ before ++ take count names)

-- The call gave what is expected of it, unless the folder failed or no memory was found.
abbrev pub GivesRead : {X Y : Type 0} → (X → Y) → Result Y Refusal → Result X Refusal → Type 0
GivesRead view expected result =
    MatchResult result (λ x. expected ≡ Ok (view x)) (λ e. (e ≡ refusal.Memory → ⊥) → (e ≡ refusal.Failed → ⊥) → expected ≡ Err e)

-- the same of one file, of which this was found
abbrev pub GivesFound : {X Y : Type 0} → (X → Y) → Option (List (List ℕ × List ℕ)) → List ℕ → (Option (List ℕ) → Result Y Refusal) → Result X Refusal → Type 0
GivesFound view told name expected result =
    (found : Option (List ℕ)) × IfSome told (λ files. found ≡ file_named name files) × GivesRead view (expected found) result

-- It is the one for what the folder gave.
abbrev pub GivesFor : {X Y : Type 0} → (X → Y) → Option (List (List ℕ × List ℕ)) → List (List ℕ) → (List (Option (List ℕ)) → Result Y Refusal) → Result X Refusal → Type 0
GivesFor view told names expected result =
    (given : List (Option (List ℕ))) × IsGiven told names given × GivesRead view (expected given) result
