-- A file that a folder is asked for.
use Rattle.std.proofs.Common.{◌≡◌, ◌≤◌, ℕ, Bool, true, false, cond, List, length, replicate, Option, None, Some, Result, Ok, Err, Vec, refl, sym, ◌∙◌, arith}
use Rattle.std.specs.Prelude.{IfSome, nat_lt}
use Rattle.std.specs.declared.alloc.Global.{Global}
use Rattle.std.proofs.lemmas.Bool.Decides.{nat_tests}
use Rattle.std.proofs.lemmas.List.{length-replicate}
use Rattle.doll_base.specs.Folders.{file_named, file_up_to, GivesFile}
use Rattle.doll_base.specs.declared.folder.FolderFault.{FolderFault}
use Rattle.doll_base.specs.declared.folder.FolderFault.TheVariants as fault
use Rattle.doll_base.specs.declared.in_memory.ViewFile.{ViewFile}
use Rattle.doll_text.specs.Gives.{Gives}
use Rattle.doll_views.specs.Files.{GivesFound, GivesRead, folder_refusal, read_file, text_file}
use Rattle.doll_views.specs.declared.refusal.Refusal.{Refusal}
use Rattle.doll_views.specs.declared.refusal.Refusal.TheVariants as refusal

-- what a folder told of a file that it gave
found_bytes : (found : Option (List ℕ)) (bytes : List ℕ) → file_up_to 16777216 found ≡ Ok bytes → Some bytes ≡ found
found_bytes None bytes is = absurd (cc is)
found_bytes (Some all) bytes is = by_test (nat_lt 16777216 (length all)) is
  where
    by_test : (long : Bool) → cond long (Err fault.TooLong) (Ok all) ≡ Ok bytes → Some bytes ≡ Some all
    by_test true same = absurd (cc same)
    by_test false same = cc same

told_bytes : (told : Option (List (List ℕ × List ℕ))) (name bytes : List ℕ) → IfSome told (λ files. file_up_to 16777216 (file_named name files) ≡ Ok bytes) → IfSome told (λ files. Some bytes ≡ file_named name files)
told_bytes None name bytes is = tt
told_bytes (Some files) name bytes is = found_bytes (file_named name files) bytes is

-- bytes that aren't too long are read as a text
short_file : (number : ℕ) (name bytes : List ℕ) → length bytes ≤ 16777216 → read_file number name (Some bytes) ≡ text_file number name bytes
short_file number name bytes short =
    let test : nat_lt 16777216 (length bytes) ≡ false = grind (arith, nat_tests, short) in
    rw test refl

pub found_text : (told : Option (List (List ℕ × List ℕ))) (number : ℕ) (name bytes : List ℕ) (result : Result ViewFile Refusal) → IfSome told (λ files. file_up_to 16777216 (file_named name files) ≡ Ok bytes) → length bytes ≤ 16777216
    → Gives refusal.Memory (text_file number name bytes) result → GivesFound (λ file. file) told name (read_file number name) result
found_text told number name bytes (Ok file) is short gives = (Some bytes, told_bytes told name bytes is, short_file number name bytes short ∙ gives)
found_text told number name bytes (Err why) is short gives = (Some bytes, told_bytes told name bytes is, λ memory failed. short_file number name bytes short ∙ gives memory)

-- there is a text that is too long
long_file : (number : ℕ) (name bytes : List ℕ) → nat_lt 16777216 (length bytes) ≡ true → read_file number name (Some bytes) ≡ Err refusal.TooLong
long_file number name bytes long = rw long refl

some_list : (n : ℕ) → (bytes : List ℕ) × (length bytes ≡ n)
some_list n = (replicate n 0, length-replicate n 0)

some_long : (number : ℕ) (name : List ℕ) → (found : Option (List ℕ)) × (read_file number name found ≡ Err refusal.TooLong)
some_long number name =
    let long = some_list 16777217 in
    (Some long.0, long_file number name long.0 (rw long.1 refl))

-- what a folder told of a file that it refused
found_long : (number : ℕ) (name : List ℕ) (found : Option (List ℕ)) → file_up_to 16777216 found ≡ Err fault.TooLong → read_file number name found ≡ Err refusal.TooLong
found_long number name None is = absurd (cc is)
found_long number name (Some bytes) is = long_file number name bytes (by_test (nat_lt 16777216 (length bytes)) is)
  where
    by_test : (long : Bool) → cond long (Err fault.TooLong) (Ok bytes) ≡ Err fault.TooLong → long ≡ true
    by_test true same = refl
    by_test false same = absurd (cc same)

found_missing : (number : ℕ) (name : List ℕ) (found : Option (List ℕ)) → file_up_to 16777216 found ≡ Err fault.Missing → read_file number name found ≡ Err (folder_refusal number fault.Missing)
found_missing number name None is = refl
found_missing number name (Some bytes) is = by_test (nat_lt 16777216 (length bytes)) is
  where
    by_test : (long : Bool) → cond long (Err fault.TooLong) (Ok bytes) ≡ Err fault.Missing → read_file number name (Some bytes) ≡ Err (folder_refusal number fault.Missing)
    by_test true same = absurd (cc same)
    by_test false same = absurd (cc same)

pub found_refused : (told : Option (List (List ℕ × List ℕ))) (number : ℕ) (name : List ℕ) (why : FolderFault) → IfSome told (λ files. GivesFile (file_up_to 16777216 (file_named name files)) (Err why)) → GivesFound {X = ViewFile} (λ file. file) told name (read_file number name) (Err (folder_refusal number why))
found_refused None number name fault.Missing is = (None, tt, λ memory failed. refl)
found_refused None number name fault.TooLong is = let long = some_long number name in (long.0, tt, λ memory failed. long.1)
found_refused None number name fault.Failed is = (None, tt, λ memory failed. absurd (failed refl))
found_refused None number name fault.Memory is = (None, tt, λ memory failed. absurd (memory refl))
found_refused (Some files) number name fault.Missing is = (file_named name files, refl, λ memory failed. found_missing number name (file_named name files) is)
found_refused (Some files) number name fault.TooLong is = (file_named name files, refl, λ memory failed. found_long number name (file_named name files) is)
found_refused (Some files) number name fault.Failed is = (file_named name files, refl, λ memory failed. absurd (failed refl))
found_refused (Some files) number name fault.Memory is = (file_named name files, refl, λ memory failed. absurd (memory refl))
