-- Bundles with what a folder gave.
use Rattle.std.proofs.Common.{◌≡◌, ℕ, List, [], map, Option, Result, Ok, Err, Vec, refl}
use Rattle.std.specs.declared.alloc.Global.{Global}
use Rattle.doll_base.specs.declared.in_memory.ViewFile.{ViewFile}
use Rattle.doll_text.specs.Gives.{GivesBy}
use Rattle.doll_views.specs.Bundles.{Bundle, Loaded, loaded_of, with_files}
use Rattle.doll_views.specs.Files.{GivesFor, GivesRead, files_of, read_from, wanted_names, with_source}
use Rattle.doll_views.specs.Views.{Listing}
use Rattle.doll_views.specs.declared.refusal.Refusal.{Refusal}
use Rattle.doll_views.specs.declared.refusal.Refusal.TheVariants.{Memory}

-- files that are refused refuse the bundle
pub load_refused : {X Y : Type 0} (v : Y → List ViewFile) (u : X → Loaded) (told : Option (List (List ℕ × List ℕ))) (names : List (List ℕ)) (bundle : Bundle) (why : Refusal)
    → GivesFor v told names (files_of bundle.listing) (Err why) → GivesFor u told names (loaded_of bundle) (Err why)
unfolding loaded_of
load_refused v u told names bundle why gives =
    (gives.0, gives.1, λ memory failed. rw (gives.2 memory failed) refl)

-- files that were read make the bundle
pub load_answer : {X Y : Type 0} (v : Y → List ViewFile) (u : X → Loaded) (told : Option (List (List ℕ × List ℕ))) (names : List (List ℕ)) (bundle : Bundle) (files : Y) (result : Result X Refusal)
    → GivesFor v told names (files_of bundle.listing) (Ok files) → GivesBy u Memory (with_files bundle (v files)) result → GivesFor u told names (loaded_of bundle) result
unfolding loaded_of
load_answer v u told names bundle files (Ok x) gives made = (gives.0, gives.1, rw gives.2 made)
load_answer v u told names bundle files (Err e) gives made = (gives.0, gives.1, λ memory failed. rw gives.2 (made memory))

-- a file that is refused refuses the files
pub files_refused : (told : Option (List (List ℕ × List ℕ))) (listing : Listing) (why : Refusal) → GivesFor {X = Vec ViewFile Global} (λ read. read.items) told (wanted_names listing.wanted) (read_from listing.files [] listing.wanted) (Err why)
    → GivesFor {X = Vec ViewFile Global} (λ files. files.items) told (wanted_names listing.wanted) (files_of listing) (Err why)
unfolding files_of
files_refused told listing why gives = (gives.0, gives.1, λ memory failed. rw (gives.2 memory failed) refl)

-- those that were read, and the others
pub files_answer : (told : Option (List (List ℕ × List ℕ))) (listing : Listing) (read : Vec ViewFile Global) (result : Result (Vec ViewFile Global) Refusal) → GivesFor {X = Vec ViewFile Global} (λ one. one.items) told (wanted_names listing.wanted) (read_from listing.files [] listing.wanted) (Ok read)
    → GivesBy (λ files. files.items) Memory (Ok (map (with_source read.items) listing.files)) result → GivesFor (λ files. files.items) told (wanted_names listing.wanted) (files_of listing) result
unfolding files_of
files_answer told listing read (Ok files) gives made = (gives.0, gives.1, rw gives.2 made)
files_answer told listing read (Err why) gives made = (gives.0, gives.1, λ memory failed. rw gives.2 (made memory))
