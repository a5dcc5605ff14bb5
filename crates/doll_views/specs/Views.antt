-- The files of a site's templates, as a bundle names them (this project's own).
use Rattle.std.specs.Prelude.{ℕ, ◌+◌, Bool, List, [], ◌∷◌, fold, map, Option, Some, None, Result, Ok, Err, if◌then◌else◌}
use Rattle.std.specs.Cmp.Lexicographic.{slice_cmp}
use Rattle.std.specs.List.{list_any}
use Rattle.std.specs.Option.{ok_or}
use Rattle.std.specs.declared.cmp.Ordering.{Ordering}
use Rattle.std.specs.Ordering.{eq_by_cmp, nat_cmp, on}
use Rattle.std.specs.Str.{bytes_eq}
use Rattle.serde_json.specs.Data.{Data, Items, no_items, item, Members, no_members, member}
use Rattle.serde_json.specs.Find.{as_object, as_str}
use Rattle.doll_text.specs.Steps.{◌>>=◌, ◌>>◌}
use Rattle.doll_schema.specs.Json.{list_if_given}
use Rattle.doll_set.specs.Order.{put_by_name}
use Rattle.doll_views.specs.declared.refusal.BundlePart.TheVariants as part
use Rattle.doll_views.specs.declared.refusal.Kind.{Kind}
use Rattle.doll_views.specs.declared.refusal.Kind.TheVariants as kind
use Rattle.doll_views.specs.declared.refusal.Refusal.{Refusal}
use Rattle.doll_views.specs.declared.refusal.Refusal.TheVariants.{Refused}
use Rattle.doll_views.specs.declared.views.NamedFile.{NamedFile}
use Rattle.doll_views.specs.declared.views.Source.{Source}
use Rattle.doll_views.specs.declared.views.Source.TheVariants as source

-- a fault of the file with a number, or with 0 one of the views as a whole
abbrev pub views_refusal : ℕ → Kind → Refusal
views_refusal number what = Refused part.Views number what

-- ---- files in their order

-- a file among the others by its name, behind those with an equal one
abbrev pub put_named : List NamedFile → NamedFile → List NamedFile
put_named files file = put_by_name (λ (f : NamedFile). f.name) files file

-- files in their order, put there one after another
abbrev pub in_place : List NamedFile → List NamedFile
in_place files = fold put_named [] files

-- files go by their names
abbrev pub file_order : NamedFile → NamedFile → Ordering
file_order = on (λ (f : NamedFile). f.name) (slice_cmp nat_cmp)

abbrev pub have_one_name : NamedFile → NamedFile → Bool
have_one_name = eq_by_cmp file_order

-- one of the files has this name
abbrev pub has_name : List NamedFile → List ℕ → Bool
has_name files name = list_any (λ (f : NamedFile). bytes_eq name f.name) files

-- the same, but that a name stands once
abbrev pub put_once : List NamedFile → NamedFile → List NamedFile
put_once files file = if has_name files file.name then files else put_named files file

-- what a bundle says of the source of a view: its text, or something that is none
abbrev pub given_source : Option (List ℕ) → Source
given_source None = source.NoText
given_source (Some text) = source.Given text

-- a view as a file
abbrev pub view_of : List ℕ → Data → NamedFile
view_of name d = record { name = name; source = given_source (as_str d) }

-- the files with the views put among them
abbrev pub with_views : List NamedFile → Members → List NamedFile
with_views files no_members = files
with_views files (member name d views) = with_views (put_named files (view_of name d)) views

-- a file that the folder has
abbrev pub in_folder : List ℕ → NamedFile
in_folder name = record { name = name; source = source.Folder }

-- What a bundle says of its files: all of them in ascending order of their names, of equal names those of `views` before those
-- of `files`; and those of `files` alone, each name once, which are read from the folder.
pub record Listing : Type 0 where
  pub files : List NamedFile
  pub wanted : List NamedFile

abbrev pub with_wanted : Listing → List ℕ → Listing
with_wanted listing name =
    record { files = put_named listing.files (in_folder name); wanted = put_once listing.wanted (in_folder name) }

-- a listing with these names of `files`, each of which is a text
abbrev pub with_names : Listing → Items → Result Listing Refusal
with_names listing no_items = Ok listing
with_names listing (item d names) = do
  name ← ok_or (as_str d) (views_refusal 0 kind.BadForm)
  with_names (with_wanted listing name) names

-- the object, one of nothing where it is left out; null is no object
abbrev pub views_if_given : Option Data → Option Members
views_if_given None = Some no_members
views_if_given (Some d) = as_object d

-- the files under `views`
abbrev pub views_in : Option Data → Result (List NamedFile) Refusal
views_in views = do
  members ← ok_or (views_if_given views) (views_refusal 0 kind.BadForm)
  Ok (with_views [] members)

-- files of which none is wanted
abbrev pub unwanted : List NamedFile → Listing
unwanted files = record { files = files; wanted = [] }

-- what a bundle says under `views` and `files`, if it is of the form
abbrev pub listed : Option Data → Option Data → Result Listing Refusal
listed views files = do
  placed ← views_in views
  names ← ok_or (list_if_given files) (views_refusal 0 kind.BadForm)
  with_names (unwanted placed) names

-- ---- sources that are no text

-- the source of a view is refused where it is no text
abbrev pub sourced : ℕ → Source → Result (Unit {0}) Refusal
sourced number source.NoText = Err (views_refusal number kind.BadForm)
sourced number (source.Given text) = Ok tt
sourced number source.Folder = Ok tt

-- the same of files, the first of which has this number
abbrev pub all_sourced : ℕ → List NamedFile → Result (Unit {0}) Refusal
all_sourced number [] = Ok tt
all_sourced number (file ∷ files) = sourced number file.source >> all_sourced (number + 1) files

-- what a bundle says of its files, each with a text or to be read
abbrev pub listing_of : Option Data → Option Data → Result Listing Refusal
listing_of views files = do
  listing ← listed views files
  all_sourced 0 listing.files >> Ok listing
