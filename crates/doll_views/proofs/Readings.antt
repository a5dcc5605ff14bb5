-- Files read from a folder one after another.
use Rattle.std.proofs.Common.{◌≡◌, ◌+◌, ◌<◌, ◌≤◌, ℕ, List, [], ◌∷◌, ◌++◌, length, map, take, drop, get_or, Option, None, Some, Result, Ok, Err, refl, sym, ap, ◌∙◌, arith}
use Rattle.std.specs.Prelude.{IfSome}
use Rattle.std.proofs.Common.{append_assoc}
use Rattle.std.proofs.lemmas.List.{append-nil, at_drop_all, drop_more, length-append, map-append, take-append-drop, take_more, take-map}
use Rattle.doll_base.specs.Folders.{file_named}
use Rattle.doll_base.specs.declared.in_memory.ViewFile.{ViewFile}
use Rattle.doll_text.specs.Steps.{◌>>=◌}
use Rattle.doll_views.specs.Files.{AsksFirst, GivesFor, GivesFound, IsGiven, number_in_folder, read_file, read_from, wanted_names}
use Rattle.doll_views.specs.declared.refusal.Refusal.{Refusal}
use Rattle.doll_views.specs.declared.refusal.Refusal.TheVariants as refusal
use Rattle.doll_views.specs.declared.views.NamedFile.{NamedFile}

-- so many files were read, and what the folder gave for them
pub record ReadSoFar (told : Option (List (List ℕ × List ℕ))) (files wanted : List NamedFile) (read : List ViewFile) (index : ℕ) : Type 0 where
  pub given : List (Option (List ℕ))
  pub count : length given ≡ index
  pub told_is : IfSome told (λ folder. given ≡ map (λ name. file_named name folder) (take index (wanted_names wanted)))
  pub answer : (more : List (Option (List ℕ))) → read_from files [] wanted (given ++ more) ≡ read_from files read (drop index wanted) more

pub none_read : (told : Option (List (List ℕ × List ℕ))) (files wanted : List NamedFile) → ReadSoFar told files wanted [] 0
none_read None files wanted = record { given = []; count = refl; told_is = tt; answer = λ more. refl }
none_read (Some folder) files wanted = record { given = []; count = refl; told_is = refl; answer = λ more. refl }

-- the names that were asked for with one more
abbrev name_of : NamedFile → List ℕ
name_of file = file.name

next_names : (wanted : List NamedFile) (index : ℕ) (file : NamedFile) → index < length wanted → file ≡ get_or wanted index file → take (index + 1) (wanted_names wanted) ≡ take index (wanted_names wanted) ++ file.name ∷ []
next_names wanted index file within is =
    take-map name_of (index + 1) wanted
    ∙ ap (map name_of) (take_more wanted index file within)
    ∙ map-append name_of (take index wanted) (get_or wanted index file ∷ [])
    ∙ ap (λ front. front ++ name_of (get_or wanted index file) ∷ []) (sym (take-map name_of index wanted))
    ∙ ap (λ (one : NamedFile). take index (wanted_names wanted) ++ one.name ∷ []) (sym is)

-- what a folder gave for them
given_more : (folder : List (List ℕ × List ℕ)) (names more : List (List ℕ)) (name : List ℕ) (given : List (Option (List ℕ))) (found : Option (List ℕ)) → more ≡ names ++ name ∷ [] → given ≡ map (λ n. file_named n folder) names → found ≡ file_named name folder
    → given ++ found ∷ [] ≡ map (λ n. file_named n folder) more
given_more folder names more name given found longer is same =
    ap (λ front. front ++ found ∷ []) is
    ∙ ap (λ one. map (λ n. file_named n folder) names ++ one ∷ []) same
    ∙ sym (map-append (λ n. file_named n folder) names (name ∷ []))
    ∙ ap (map (λ n. file_named n folder)) (sym longer)

told_more : (told : Option (List (List ℕ × List ℕ))) (names more : List (List ℕ)) (name : List ℕ) (given : List (Option (List ℕ))) (found : Option (List ℕ)) → more ≡ names ++ name ∷ [] → IfSome told (λ folder. given ≡ map (λ n. file_named n folder) names)
    → IfSome told (λ folder. found ≡ file_named name folder) → IfSome told (λ folder. given ++ found ∷ [] ≡ map (λ n. file_named n folder) more)
told_more None names more name given found longer is same = tt
told_more (Some folder) names more name given found longer is same = given_more folder names more name given found longer is same

count_more : (given : List (Option (List ℕ))) (found : Option (List ℕ)) (index : ℕ) → length given ≡ index → length (given ++ found ∷ []) ≡ index + 1
count_more given found index count = omega (arith, length-append given (found ∷ []))

-- the next file is read as what was found of it says
step : (files wanted : List NamedFile) (read : List ViewFile) (index : ℕ) (file : NamedFile) (found : Option (List ℕ)) (more : List (Option (List ℕ))) → index < length wanted → file ≡ get_or wanted index file
    → read_from files read (drop index wanted) (found ∷ more) ≡ (read_file (number_in_folder files file.name) file.name found >>= (λ one. read_from files (read ++ one ∷ []) (drop (index + 1) wanted) more))
step files wanted read index file found more within is =
    ap (λ rest. read_from files read rest (found ∷ more)) (drop_more wanted index file within)
    ∙ ap (λ (one : NamedFile). read_file (number_in_folder files one.name) one.name found >>= (λ made. read_from files (read ++ made ∷ []) (drop (index + 1) wanted) more)) (sym is)

all_given : (given : List (Option (List ℕ))) (found : Option (List ℕ)) (more : List (Option (List ℕ))) → (given ++ found ∷ []) ++ more ≡ given ++ (found ∷ more)
all_given given found more = append_assoc given (found ∷ []) more

-- one file more was read
pub read_more : (told : Option (List (List ℕ × List ℕ))) (files wanted : List NamedFile) (read : List ViewFile) (index : ℕ) (file : NamedFile) (one : ViewFile) → index < length wanted → file ≡ get_or wanted index file → ReadSoFar told files wanted read index
    → GivesFound (λ made. made) told file.name (read_file (number_in_folder files file.name) file.name) (Ok one) → ReadSoFar told files wanted (read ++ one ∷ []) (index + 1)
read_more told files wanted read index file one within is before gives = record {
  given = before.given ++ gives.0 ∷ [];
  count = count_more before.given gives.0 index before.count;
  told_is = told_more told (take index (wanted_names wanted)) (take (index + 1) (wanted_names wanted)) file.name before.given gives.0 (next_names wanted index file within is) before.told_is gives.1;
  answer = λ more.
      ap (λ all. read_from files [] wanted all) (all_given before.given gives.0 more)
      ∙ before.answer (gives.0 ∷ more)
      ∙ step files wanted read index file gives.0 more within is
      ∙ ap (λ made. made >>= (λ (m : ViewFile). read_from files (read ++ m ∷ []) (drop (index + 1) wanted) more)) gives.2;
}

-- what a folder that tells its files has under the names behind the first ones
abbrev pub given_behind : Option (List (List ℕ × List ℕ)) → List (List ℕ) → ℕ → List (Option (List ℕ))
given_behind None names index = []
given_behind (Some folder) names index = map (λ n. file_named n folder) (drop index names)

-- with these, what was given for the first names is what is given for all
is_given : (told : Option (List (List ℕ × List ℕ))) (names : List (List ℕ)) (given : List (Option (List ℕ))) (index : ℕ) → IfSome told (λ folder. given ≡ map (λ n. file_named n folder) (take index names)) → IsGiven told names (given ++ given_behind told names index)
is_given None names given index is = tt
is_given (Some folder) names given index is =
    ap (λ front. front ++ map (λ n. file_named n folder) (drop index names)) is
    ∙ sym (map-append (λ n. file_named n folder) (take index names) (drop index names))
    ∙ ap (map (λ n. file_named n folder)) (take-append-drop index names)

-- a file was refused
pub read_refused : {Y : Type 0} (v : Y → List ViewFile) (told : Option (List (List ℕ × List ℕ))) (files wanted : List NamedFile) (read : List ViewFile) (index : ℕ) (file : NamedFile) (why : Refusal) → index < length wanted → file ≡ get_or wanted index file → ReadSoFar told files wanted read index
    → GivesFound {X = ViewFile} (λ made. made) told file.name (read_file (number_in_folder files file.name) file.name) (Err why) → GivesFor v told (wanted_names wanted) (read_from files [] wanted) (Err why)
read_refused v told files wanted read index file why within is before gives = (
  (before.given ++ gives.0 ∷ []) ++ behind,
  is_given told (wanted_names wanted) (before.given ++ gives.0 ∷ []) (index + 1) (told_more told (take index (wanted_names wanted)) (take (index + 1) (wanted_names wanted)) file.name before.given gives.0 (next_names wanted index file within is) before.told_is gives.1),
  λ memory failed.
      ap (λ all. read_from files [] wanted all) (all_given before.given gives.0 behind)
      ∙ before.answer (gives.0 ∷ behind)
      ∙ step files wanted read index file gives.0 behind within is
      ∙ ap (λ made. made >>= (λ (m : ViewFile). read_from files (read ++ m ∷ []) (drop (index + 1) wanted) behind)) (gives.2 memory failed),
)
  where
    behind : List (Option (List ℕ))
    behind = given_behind told (wanted_names wanted) (index + 1)

-- memory ran out
pub read_unfinished : {Y : Type 0} (v : Y → List ViewFile) (told : Option (List (List ℕ × List ℕ))) (files wanted : List NamedFile) (read : List ViewFile) (index : ℕ) → ReadSoFar told files wanted read index → GivesFor v told (wanted_names wanted) (read_from files [] wanted) (Err refusal.Memory)
read_unfinished v told files wanted read index before =
    (before.given ++ given_behind told (wanted_names wanted) index, is_given told (wanted_names wanted) before.given index before.told_is, λ memory failed. absurd (memory refl))

-- all were read
pub read_all : {Y : Type 0} (v : Y → List ViewFile) (told : Option (List (List ℕ × List ℕ))) (files wanted : List NamedFile) (index : ℕ) (made : Y) → length wanted ≤ index → ReadSoFar told files wanted (v made) index → GivesFor v told (wanted_names wanted) (read_from files [] wanted) (Ok made)
read_all v told files wanted index made all before = (
  before.given ++ behind,
  is_given told (wanted_names wanted) before.given index before.told_is,
  before.answer behind ∙ at_drop_all (λ rest. read_from files (v made) rest behind) wanted index all,
)
  where
    behind : List (Option (List ℕ))
    behind = given_behind told (wanted_names wanted) index

-- ---- what was asked

pub asked_more : (before now then : List (List ℕ)) (wanted : List NamedFile) (index : ℕ) (file : NamedFile) → index < length wanted → file ≡ get_or wanted index file → now ≡ before ++ take index (wanted_names wanted) → then ≡ now ++ file.name ∷ []
    → then ≡ before ++ take (index + 1) (wanted_names wanted)
asked_more before now then wanted index file within is so_far one =
    one
    ∙ ap (λ all. all ++ file.name ∷ []) so_far
    ∙ append_assoc before (take index (wanted_names wanted)) (file.name ∷ [])
    ∙ ap (λ behind. before ++ behind) (sym (next_names wanted index file within is))

pub asked_none : (before : List (List ℕ)) (wanted : List NamedFile) → before ≡ before ++ take 0 (wanted_names wanted)
asked_none before wanted = sym (append-nil before)
