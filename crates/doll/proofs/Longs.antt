-- Inputs that are too long.
use Rattle.std.proofs.Common.{◌≡◌, ℕ, Bool, true, false, cond, List, [], length, replicate, Option, None, Some, Ok, Err, refl}
use Rattle.std.specs.Prelude.{IfSome, nat_lt}
use Rattle.std.proofs.lemmas.List.{length-replicate}
use Rattle.doll_base.specs.Inputs.{read_up_to}
use Rattle.doll_base.specs.declared.input.InputFault.TheVariants.{TooLong}
use Rattle.doll.specs.Replies.{IsAnswerTo, IsReplyTo, names_of, readings_of, too_long}
use Rattle.doll.specs.Words.{Command, command_of}
use Rattle.doll.proofs.Timing.{given_of, given_whole}
use Rattle.doll_bundle.proofs.ClockReadings.{appended_none}

-- there is a list of each length
some_long : (n : ℕ) → (input : List ℕ) × (length input ≡ n)
some_long n = (replicate n 0, length-replicate n 0)

-- a longer input is answered so, without a reading
long_reply : (words : List (List ℕ)) (command : Command) (input : List ℕ) (given : List (Option (List ℕ))) → command_of words ≡ Some command → nat_lt 16777216 (length input) ≡ true → IsAnswerTo (command_of words) input given [] too_long
long_reply words command input given plain long = rw (plain, long) refl

long_readings : (words : List (List ℕ)) (command : Command) (input : List ℕ) (given : List (Option (List ℕ))) → command_of words ≡ Some command → nat_lt 16777216 (length input) ≡ true → 0 ≡ readings_of words input given
long_readings words command input given plain long = rw (plain, long) refl

-- the reply to such an input
is_reply : (words : List (List ℕ)) (command : Command) (input : List ℕ) (left : Option (List ℕ)) (files : Option (List (List ℕ × List ℕ))) (clock : Option (List ℕ)) → command_of words ≡ Some command → nat_lt 16777216 (length input) ≡ true
    → IfSome left (λ bytes. bytes ≡ input) → IsReplyTo (record { words = words; left = left; files = files; before = clock; after = clock }) too_long
is_reply words command input left files clock plain long told = record {
  input = input;
  given = given_of files (names_of words input);
  readings = [];
  told = told;
  gave = given_whole files (names_of words input);
  taken = appended_none clock;
  count = long_readings words command input (given_of files (names_of words input)) plain long;
  is = long_reply words command input (given_of files (names_of words input)) plain long;
}

-- the reply to an input that is too long, told or not
pub too_long-reply : (words : List (List ℕ)) (command : Command) (left : Option (List ℕ)) (files : Option (List (List ℕ × List ℕ))) (clock : Option (List ℕ)) → command_of words ≡ Some command → IfSome left (λ bytes. read_up_to 16777216 bytes ≡ Err TooLong)
    → IsReplyTo (record { words = words; left = left; files = files; before = clock; after = clock }) too_long
too_long-reply words command None files clock plain over =
    let input = some_long 16777217 in
    is_reply words command input.0 None files clock plain (rw input.1 refl) tt
too_long-reply words command (Some bytes) files clock plain over = is_reply words command bytes (Some bytes) files clock plain (by_test (nat_lt 16777216 (length bytes)) over) refl
  where
    by_test : (long : Bool) → cond long (Err TooLong) (Ok bytes) ≡ Err TooLong → long ≡ true
    by_test true is = refl
    by_test false is = absurd (cc is)
