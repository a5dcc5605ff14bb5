-- The two laws of a commit: what is read is spelled so, and what is spelled so is read.
use Rattle.std.proofs.Common.{◌≡◌, ℕ, ◌+◌, ◌^◌, ◌<◌, ◌≤◌, true, false, List, [], ◌∷◌, ◌++◌, length, Result, Ok, Err, refl, sym, ap, subst, ◌∙◌, arith}
use Rattle.std.specs.Prelude.{nat_le, ◌==◌, IfOk}
use Rattle.std.specs.Int.{w32, w64, to_be_bytes, cast_signed, cast_unsigned}
use Rattle.std.specs.List.{AllByRecursion}
use Rattle.std.specs.Str.{IsUtf8}
use Rattle.std.proofs.lemmas.Bool.{eqb-true, leb-true, le-leb}
use Rattle.std.proofs.lemmas.Int.{of_z-to_z, to_z-of_z}
use Rattle.std.proofs.Math.Facts.{Fits-lt-pow, Fits-of_lt, Fits-of_z, sfits_to_z}
use Rattle.std.proofs.lemmas.List.{append-nil, nil_from_length}
use Rattle.doll_text.specs.Gives.{Gives}
use Rattle.doll_schema.specs.declared.value.Value.{Value}
use Rattle.doll_schema.specs.declared.value.Value.TheVariants as values
use Rattle.doll_text.specs.Steps.{◌>>=◌, ◌>>◌, check}
use Rattle.doll_journal.specs.declared.lengths.TheConstants.{MOST_BYTES}
use Rattle.doll_journal.specs.declared.change.Change.{Change}
use Rattle.doll_journal.specs.declared.change.Change.TheVariants as changes
use Rattle.doll_journal.specs.declared.change.Commit.{Commit}
use Rattle.doll_journal.specs.declared.fault.JournalFault.{JournalFault}
use Rattle.doll_journal.specs.declared.fault.JournalFault.TheVariants.{TooLarge, Trailing}
use Rattle.doll_journal.specs.Fields.{offset, Field, number_field, text_field, two, tagged}
use Rattle.doll_journal.specs.Reading.{value_cases, value_field, pair_field, given_field, create_field, update_field, model_id_field, change_cases, change_field, changes_field, commit_field, commit_in}
use Rattle.doll_journal.specs.Spelling.{text_bytes, value_bytes, pair_bytes, given_bytes, change_bytes, changes_bytes, spelling}
use Rattle.doll_journal.specs.Storable.{FitsValue, FitsPair, FitsChange, IsStorable, OneSpelling}
use Rattle.doll_journal.proofs.Fields.{IsBytes, bind_ok, check_ok, ok_is, IsField, wide32, wide64, number_laws, text_laws, two_laws, made_laws, counted_laws, IsCase, nothing_case, made_case, tagged_laws}
use Rattle.doll_journal.proofs.Parts.{pair_long, change_long}

value_again : (total : ℕ) (v : Value) (rest : List ℕ) → FitsValue v → length (value_bytes v) < 2 ^ 32 → tagged total (value_cases total) (value_bytes v ++ rest) ≡ Ok (v, rest)
value_again total values.Nil rest fits lt = refl
value_again total (values.Bool false) rest fits lt = refl
value_again total (values.Bool true) rest fits lt = refl
value_again total (values.Int z) rest fits lt =
    rw ((number_laws w64 (2 ^ 64) wide64 total).again (cast_unsigned w64 z) rest (Fits-lt-pow (Fits-of_z fits)) (omega arith), to_z-of_z w64 z fits) refl
value_again total (values.Text text) rest fits lt =
    rw ((text_laws total).again text rest fits (omega (arith, lt))) refl

value_laws : (total : ℕ) → IsField (value_field total) value_bytes FitsValue
unfolding value_field
value_laws total =
    tagged_laws value_bytes FitsValue (value_cases total) total (
      nothing_case value_bytes FitsValue 0 values.Nil refl tt,
      (
        nothing_case value_bytes FitsValue 1 (values.Bool false) refl tt,
        (
          nothing_case value_bytes FitsValue 2 (values.Bool true) refl tt,
          (
            made_case value_bytes FitsValue 3 (λ n. values.Int (cast_signed w64 n)) (number_field w64 total) (to_be_bytes w64) (λ n. n < 2 ^ 64) (λ n lt. (ap (λ k. 3 ∷ to_be_bytes w64 k) (sym (of_z-to_z w64 n lt)), sfits_to_z (Fits-of_lt lt))) (number_laws w64 (2 ^ 64) wide64 total),
            (
              made_case value_bytes FitsValue 4 values.Text (text_field total) text_bytes IsUtf8 (λ text utf8. (refl, utf8)) (text_laws total),
              tt,
            ),
          ),
        ),
      ),
    ) (value_again total)

pair_laws : (total : ℕ) → IsField (pair_field total) pair_bytes FitsPair
unfolding pair_field
pair_laws total = two_laws (text_field total) (value_field total) text_bytes value_bytes IsUtf8 FitsValue (text_laws total) (value_laws total)

given_laws : (total : ℕ) → IsField (given_field total) given_bytes (AllByRecursion FitsPair)
unfolding given_field
given_laws total = counted_laws (pair_field total) pair_bytes FitsPair total pair_long (pair_laws total)

-- a model and what it is given, an id between them, or an id alone

module _ (total : ℕ) where
  create_parts : IsField (two (text_field total) (given_field total)) (λ x. text_bytes x.0 ++ given_bytes x.1) (λ x. IsUtf8 x.0 × AllByRecursion FitsPair x.1)
  create_parts = two_laws (text_field total) (given_field total) text_bytes given_bytes IsUtf8 (AllByRecursion FitsPair) (text_laws total) (given_laws total)

  later_parts : IsField (two (number_field w32 total) (given_field total)) (λ x. to_be_bytes w32 x.0 ++ given_bytes x.1) (λ x. (x.0 < 2 ^ 32) × AllByRecursion FitsPair x.1)
  later_parts = two_laws (number_field w32 total) (given_field total) (to_be_bytes w32) given_bytes (λ n. n < 2 ^ 32) (AllByRecursion FitsPair) (number_laws w32 (2 ^ 32) wide32 total) (given_laws total)

  update_parts : IsField (two (text_field total) (two (number_field w32 total) (given_field total))) (λ x. text_bytes x.0 ++ (to_be_bytes w32 x.1.0 ++ given_bytes x.1.1)) (λ x. IsUtf8 x.0 × ((x.1.0 < 2 ^ 32) × AllByRecursion FitsPair x.1.1))
  update_parts =
      two_laws (text_field total) (two (number_field w32 total) (given_field total)) text_bytes (λ x. to_be_bytes w32 x.0 ++ given_bytes x.1) IsUtf8 (λ x. (x.0 < 2 ^ 32) × AllByRecursion FitsPair x.1) (text_laws total) later_parts

  model_id_laws : IsField (model_id_field total) (λ x. text_bytes x.0 ++ to_be_bytes w32 x.1) (λ x. IsUtf8 x.0 × (x.1 < 2 ^ 32))
  unfolding model_id_field
  model_id_laws = two_laws (text_field total) (number_field w32 total) text_bytes (to_be_bytes w32) IsUtf8 (λ n. n < 2 ^ 32) (text_laws total) (number_laws w32 (2 ^ 32) wide32 total)

  create_case : IsCase change_bytes FitsChange 1 (create_field total)
  unfolding create_field
  create_case = made_case change_bytes FitsChange 1 (λ x. changes.Create x.0 x.1) (two (text_field total) (given_field total)) (λ x. text_bytes x.0 ++ given_bytes x.1) (λ x. IsUtf8 x.0 × AllByRecursion FitsPair x.1) (λ x fits. (refl, fits)) create_parts

  update_case : IsCase change_bytes FitsChange 2 (update_field total)
  unfolding update_field
  update_case =
      made_case change_bytes FitsChange 2 (λ x. changes.Update x.0 x.1.0 x.1.1) (two (text_field total) (two (number_field w32 total) (given_field total))) (λ x. text_bytes x.0 ++ (to_be_bytes w32 x.1.0 ++ given_bytes x.1.1))
      (λ x. IsUtf8 x.0 × ((x.1.0 < 2 ^ 32) × AllByRecursion FitsPair x.1.1)) (λ x fits. (refl, (fits.0, fits.1.0, fits.1.1))) update_parts

  change_again : (c : Change) (rest : List ℕ) → FitsChange c → length (change_bytes c) < 2 ^ 32 → tagged total (change_cases total) (change_bytes c ++ rest) ≡ Ok (c, rest)
  unfolding create_field update_field
  change_again (changes.Create model given) rest fits lt =
      ap (λ (r : Field (List ℕ × List (List ℕ × Value))). r >>= (λ x. Ok (changes.Create x.0.0 x.0.1, x.1))) (create_parts.again (model, given) rest fits (omega (arith, lt)))
  change_again (changes.Update model id given) rest fits lt =
      ap (λ (r : Field (List ℕ × (ℕ × List (List ℕ × Value)))). r >>= (λ x. Ok (changes.Update x.0.0 x.0.1.0 x.0.1.1, x.1))) (update_parts.again (model, (id, given)) rest (fits.0, (fits.1, fits.2)) (omega (arith, lt)))
  change_again (changes.Destroy model id) rest fits lt = ap (λ (r : Field (List ℕ × ℕ)). r >>= (λ x. Ok (changes.Destroy x.0.0 x.0.1, x.1))) (model_id_laws.again (model, id) rest fits (omega (arith, lt)))
  change_again (changes.Touch model id) rest fits lt = ap (λ (r : Field (List ℕ × ℕ)). r >>= (λ x. Ok (changes.Touch x.0.0 x.0.1, x.1))) (model_id_laws.again (model, id) rest fits (omega (arith, lt)))

  change_laws : IsField (change_field total) change_bytes FitsChange
  unfolding change_field
  change_laws =
      tagged_laws change_bytes FitsChange (change_cases total) total (
        create_case,
        (
          update_case,
          (
            made_case change_bytes FitsChange 3 (λ x. changes.Destroy x.0 x.1) (model_id_field total) (λ x. text_bytes x.0 ++ to_be_bytes w32 x.1) (λ x. IsUtf8 x.0 × (x.1 < 2 ^ 32)) (λ x fits. (refl, fits)) model_id_laws,
            (
              made_case change_bytes FitsChange 4 (λ x. changes.Touch x.0 x.1) (model_id_field total) (λ x. text_bytes x.0 ++ to_be_bytes w32 x.1) (λ x. IsUtf8 x.0 × (x.1 < 2 ^ 32)) (λ x fits. (refl, fits)) model_id_laws,
              tt,
            ),
          ),
        ),
      ) change_again

  changes_laws : IsField (changes_field total) changes_bytes (AllByRecursion FitsChange)
  unfolding changes_field
  changes_laws = counted_laws (change_field total) change_bytes FitsChange total change_long change_laws

-- the numbers of a commit and its changes have their bits, its texts are UTF-8
abbrev FitsCommit : Commit → Type 0
FitsCommit c = (c.author < 2 ^ 32) × (c.serial < 2 ^ 64) × (c.moment < 2 ^ 64) × AllByRecursion FitsChange c.changes

abbrev Long : ℕ → Type 0
Long n = n < 2 ^ 64

commit_laws : (total : ℕ) → IsField (commit_field total) spelling FitsCommit
unfolding commit_field
commit_laws total =
    made_laws (λ x. record { author = x.0; serial = x.1.0; moment = x.1.1.0; changes = x.1.1.1 }) (λ (c : Commit). (c.author, (c.serial, (c.moment, c.changes))))
    (two (number_field w32 total) (two (number_field w64 total) (two (number_field w64 total) (changes_field total)))) (λ x. to_be_bytes w32 x.0 ++ (to_be_bytes w64 x.1.0 ++ (to_be_bytes w64 x.1.1.0 ++ changes_bytes x.1.1.1)))
    (λ x. (x.0 < 2 ^ 32) × (Long x.1.0 × (Long x.1.1.0 × AllByRecursion FitsChange x.1.1.1))) spelling FitsCommit (λ x fits. (refl, (fits.0, fits.1.0, fits.1.1.0, fits.1.1.1))) (λ c fits. (refl, (fits.0, (fits.1, (fits.2, fits.3))), refl))
    (two_laws (number_field w32 total) (two (number_field w64 total) (two (number_field w64 total) (changes_field total))) (to_be_bytes w32) (λ x. to_be_bytes w64 x.0 ++ (to_be_bytes w64 x.1.0 ++ changes_bytes x.1.1)) (λ n. n < 2 ^ 32) (λ x. Long x.0 × (Long x.1.0 × AllByRecursion FitsChange x.1.1)) (number_laws w32 (2 ^ 32) wide32 total)
    (two_laws (number_field w64 total) (two (number_field w64 total) (changes_field total)) (to_be_bytes w64) (λ x. to_be_bytes w64 x.0 ++ changes_bytes x.1) Long (λ x. Long x.0 × AllByRecursion FitsChange x.1) (number_laws w64 (2 ^ 64) wide64 total)
    (two_laws (number_field w64 total) (changes_field total) (to_be_bytes w64) changes_bytes Long (AllByRecursion FitsChange) (number_laws w64 (2 ^ 64) wide64 total) (changes_laws total))))

-- how long the bytes of a commit are
spelling_len : (c : Commit) → length (spelling c) ≡ 20 + length (changes_bytes c.changes)
spelling_len c = omega arith

-- what is read is spelled so
pub all_takes : (bytes : List ℕ) (c : Commit) → IsBytes bytes → commit_in bytes ≡ Ok c → (bytes ≡ spelling c) × IsStorable c
unfolding commit_in
all_takes bytes c fits e =
    let g = check_ok (nat_le (length bytes) MOST_BYTES) (TooLarge MOST_BYTES) (commit_field (length bytes) bytes >>= (λ commit. check (length commit.1 == 0) (Trailing (offset (length bytes) commit.1)) >> Ok commit.0)) c e in
    let a = bind_ok (commit_field (length bytes) bytes) (λ commit. check (length commit.1 == 0) (Trailing (offset (length bytes) commit.1)) >> Ok commit.0) c g.1 in
    let h = check_ok (length a.0.1 == 0) (Trailing (offset (length bytes) a.0.1)) (Ok a.0.0) c a.2 in
    let t = (commit_laws (length bytes)).takes bytes a.0 fits a.1 in
    let nothing : a.0.1 ≡ [] = nil_from_length a.0.1 (eqb-true _ _ h.0) in
    let whole : bytes ≡ spelling a.0.0 = t.0.parts ∙ ap (λ (r : List ℕ). spelling a.0.0 ++ r) nothing ∙ append-nil (spelling a.0.0) in
    let few : length bytes ≤ 2 ^ 31 = leb-true _ _ g.0 in
    let room : 20 + length (changes_bytes a.0.0.changes) ≤ 2 ^ 31 = omega (arith, few, ap length whole, spelling_len a.0.0) in
    subst (λ (d : Commit). (bytes ≡ spelling d) × IsStorable d) (ok_is a.0.0 c h.1) (whole, (t.1.0, t.1.1, t.1.2, (t.1.3, room)))

-- what is spelled so is read
pub all_again : (c : Commit) → IsStorable c → commit_in (spelling c) ≡ Ok c
unfolding commit_in
all_again c fits =
    let room : nat_le (length (spelling c)) MOST_BYTES ≡ true = le-leb _ _ (omega (arith, fits.3.1, spelling_len c)) in
    let total = length (spelling c) in
    let read : commit_field (length (spelling c)) (spelling c) ≡ Ok (c, []) = ap (commit_field (length (spelling c))) (sym (append-nil (spelling c))) ∙ (commit_laws (length (spelling c))).again c [] (fits.0, fits.1, fits.2, fits.3.0) (omega (arith, fits.3.1, spelling_len c)) in
    rw (room, read) refl

-- the same of what the call gave
pub is_found : (memory_fault : JournalFault) (bytes : List ℕ) (r : Result Commit JournalFault) → IsBytes bytes → Gives memory_fault (commit_in bytes) r → IfOk r (λ c. (bytes ≡ spelling c) × IsStorable c)
is_found memory_fault bytes (Ok c) fits given = all_takes bytes c fits given
is_found memory_fault bytes (Err e) fits given = tt

pub is_read : (memory_fault : JournalFault) (bytes : List ℕ) (r : Result Commit JournalFault) (c : Commit) → Gives memory_fault (commit_in bytes) r → IsStorable c → bytes ≡ spelling c → Gives memory_fault (Ok c) r
is_read memory_fault bytes r c given fits is =
    let read : commit_in bytes ≡ Ok c = ap commit_in is ∙ all_again c fits in
    subst (λ expected. Gives memory_fault expected r) read given

pub one_spelling : OneSpelling
one_spelling c d c_fits d_fits same = ok_is c d (sym (all_again c c_fits) ∙ ap commit_in same ∙ all_again d d_fits)
