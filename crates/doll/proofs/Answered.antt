-- What the program answers to its words and an input that was read.
use Rattle.std.proofs.Common.{◌≡◌, ◌≤◌, ℕ, Bool, true, false, cond, List, [], length, Option, None, Some, Result, Ok, Err, refl, arith}
use Rattle.std.specs.Prelude.{IfOk, IfSome, nat_lt}
use Rattle.std.proofs.lemmas.Bool.Decides.{nat_tests}
use Rattle.doll_base.specs.Streams.{TookAtMost}
use Rattle.doll_base.specs.Inputs.{read_up_to}
use Rattle.doll_base.specs.declared.input.InputFault.TheVariants.{TooLong}
use Rattle.doll_views.specs.Bundles.{bundle_of}
use Rattle.doll_views.specs.Files.{AsksFirst}
use Rattle.doll.specs.declared.reply.Reply.{Reply}
use Rattle.doll.specs.Replies.{AsksFor, IsReplyTo, ReadsFor, names_in, names_of, usage}
use Rattle.doll.specs.Timed.{AnswersFor}
use Rattle.doll.specs.Words.{Command, command_of}
use Rattle.doll_bundle.proofs.ClockReadings.{appended_none}
use Rattle.doll.proofs.Timing.{asks_none, given_of, given_whole}

-- there is an input that was left
left_input : (left : Option (List ℕ)) → (input : List ℕ) × IfSome left (λ bytes. bytes ≡ input)
left_input None = ([], tt)
left_input (Some bytes) = (bytes, refl)

-- words that are none of the forms are answered so, whatever the input
pub usage_reply : (words : List (List ℕ)) (left : Option (List ℕ)) (files : Option (List (List ℕ × List ℕ))) (clock : Option (List ℕ)) → command_of words ≡ None
    → IsReplyTo (record { words = words; left = left; files = files; before = clock; after = clock }) usage
usage_reply words left files clock none =
    let input = left_input left in
    record {
      input = input.0;
      given = given_of files (names_of words input.0);
      readings = [];
      told = input.1;
      gave = given_whole files (names_of words input.0);
      taken = appended_none clock;
      count = rw none refl;
      is = rw none refl;
    }

-- the input that was read is what was left, where that is told
input_told : (left : Option (List ℕ)) (input : List ℕ) → IfSome left (λ bytes. read_up_to 16777216 bytes ≡ Ok input) → IfSome left (λ bytes. bytes ≡ input)
input_told None input told = tt
input_told (Some bytes) input told = by_test (nat_lt 16777216 (length bytes)) told
  where
    by_test : (long : Bool) → cond long (Err TooLong) (Ok bytes) ≡ Ok input → bytes ≡ input
    by_test true is = absurd (cc is)
    by_test false is = cc is

-- an input that was read isn't too long
is_short : (input : List ℕ) → length input ≤ 16777216 → nat_lt 16777216 (length input) ≡ false
is_short input short = grind (arith, nat_tests, short)

-- the reply to an input that was read
pub read_reply : {F : Type 0} (words : List (List ℕ)) (command : Command) (input : List ℕ) (left : Option (List ℕ)) (files : Option (List (List ℕ × List ℕ))) (before after : Option (List ℕ)) (result : Result Reply F) → command_of words ≡ Some command
    → IfSome left (λ bytes. read_up_to 16777216 bytes ≡ Ok input) → length input ≤ 16777216 → AnswersFor command (bundle_of input) files before after result
    → IfOk result (IsReplyTo (record { words = words; left = left; files = files; before = before; after = after }))
read_reply words command input left files before after (Err e) plain told short gives = tt
read_reply words command input left files before after (Ok reply) plain told short gives =
    let test = is_short input short in
    record {
      input = input;
      given = gives.0;
      readings = gives.2.0;
      told = input_told left input told;
      gave = rw (plain, test) gives.1;
      taken = gives.2.1;
      count = rw (plain, test) gives.2.3.0;
      is = rw (plain, test) gives.2.3.1;
    }

-- without a reading there are no more than any answer takes
pub no_reading : (words : List (List ℕ)) (left : Option (List ℕ)) (files : Option (List (List ℕ × List ℕ))) (clock : Option (List ℕ)) → ReadsFor (record { words = words; left = left; files = files; before = clock; after = clock })
no_reading words left files clock =
    let input = left_input left in
    record {
      input = input.0;
      given = given_of files (names_of words input.0);
      readings = [];
      told = input.1;
      gave = given_whole files (names_of words input.0);
      taken = appended_none clock;
      count = omega arith;
    }

-- the readings for an input that was read are those for its answer
pub read_readings : {F : Type 0} (words : List (List ℕ)) (command : Command) (input : List ℕ) (left : Option (List ℕ)) (files : Option (List (List ℕ × List ℕ))) (before after : Option (List ℕ)) (result : Result Reply F) → command_of words ≡ Some command
    → IfSome left (λ bytes. read_up_to 16777216 bytes ≡ Ok input) → length input ≤ 16777216 → AnswersFor command (bundle_of input) files before after result
    → ReadsFor (record { words = words; left = left; files = files; before = before; after = after })
read_readings words command input left files before after result plain told short gives =
    let test = is_short input short in
    record {
      input = input;
      given = gives.0;
      readings = gives.2.0;
      told = input_told left input told;
      gave = rw (plain, test) gives.1;
      taken = gives.2.1;
      count = rw (plain, test) gives.2.2;
    }

-- nothing asked is a first part of any names
pub no_asking : (words : List (List ℕ)) (left : Option (List ℕ)) (before : List (List ℕ)) → AsksFor words left before before
no_asking words left before =
    let input = left_input left in
    record {
      input = input.0;
      told = input.1;
      asks = asks_none (names_of words input.0) before;
    }

-- the names for an input that was read
pub read_asking : (words : List (List ℕ)) (command : Command) (input : List ℕ) (left : Option (List ℕ)) (before after : List (List ℕ)) → command_of words ≡ Some command
    → IfSome left (λ bytes. read_up_to 16777216 bytes ≡ Ok input) → length input ≤ 16777216 → AsksFirst (names_in (bundle_of input)) before after → AsksFor words left before after
read_asking words command input left before after plain told short asks =
    let test = is_short input short in
    record {
      input = input;
      told = input_told left input told;
      asks = rw (plain, test) asks;
    }

-- nothing taken is at most so much
pub took_none : (most : ℕ) (left : Option (List ℕ)) → TookAtMost most left left
took_none most None = (0, omega arith, tt)
took_none most (Some bytes) = (0, omega arith, (omega arith, refl))
