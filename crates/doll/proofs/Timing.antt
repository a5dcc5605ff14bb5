-- Answers that take what a folder gave and readings of a clock.
use Rattle.std.proofs.Common.{◌≡◌, ℕ, List, [], length, map, Option, None, Some, Result, Ok, Err, IfOk, refl, sym, arith}
use Rattle.std.proofs.lemmas.List.{append-nil}
use Rattle.serde_json.specs.Data.{Data}
use Rattle.doll_base.specs.Folders.{file_named}
use Rattle.doll_base.specs.Streams.{Appended}
use Rattle.doll_bundle.proofs.ClockReadings.{appended_none}
use Rattle.doll_bundle.specs.Sites.{Site, readings_needed}
use Rattle.doll_views.specs.Bundles.{Bundle, Loaded, json_of, bundle_in, bundle_of, loaded_of}
use Rattle.doll_views.specs.Files.{AsksFirst, GivesFor, IsGiven, wanted_names}
use Rattle.doll_views.specs.Forms.{json_refusal}
use Rattle.doll_views.specs.declared.refusal.Refusal.{Refusal}
use Rattle.doll_views.specs.declared.refusal.Refusal.TheVariants.{Memory}
use Rattle.doll.specs.declared.reply.Reply.{Reply}
use Rattle.doll.specs.Replies.{IsLoadedReply, IsMadeReply, IsRefusalReply, names_in}
use Rattle.doll.specs.Timed.{AnswersFor, AnswersTimed, IsTold}
use Rattle.doll.specs.Words.{Command}

-- an answer for the readings that were taken
pub with_clock : {A F : Type 0} (needed : ℕ) (expected : List ℕ → A → Type 0) (before after : Option (List ℕ)) (readings : List ℕ) (result : Result A F) → Appended before after readings → length readings ≡ needed → IfOk result (expected readings) → AnswersTimed needed expected before after result
with_clock needed expected before after readings (Ok x) taken count is = (readings, taken, omega (arith, count), (count, is))
with_clock needed expected before after readings (Err e) taken count is = (readings, taken, omega (arith, count), tt)

-- what a folder has under names, where it tells its files
abbrev pub given_of : Option (List (List ℕ × List ℕ)) → List (List ℕ) → List (Option (List ℕ))
given_of None names = []
given_of (Some files) names = map (λ name. file_named name files) names

pub given_whole : (told : Option (List (List ℕ × List ℕ))) (names : List (List ℕ)) → IsGiven told names (given_of told names)
given_whole None names = tt
given_whole (Some files) names = refl

-- nothing asked
pub asks_none : (names before : List (List ℕ)) → AsksFirst names before before
asks_none names before = (0, sym (append-nil before))

-- a bundle whose files are read is answered as it is then
pub loaded_answer : {X F : Type 0} (u : X → Loaded) (command : Command) (told : Option (List (List ℕ × List ℕ))) (bundle : Bundle) (loaded : X) (before after : Option (List ℕ)) (result : Result Reply F)
    → GivesFor u told (wanted_names bundle.listing.wanted) (loaded_of bundle) (Ok loaded) → AnswersTimed (readings_needed (Ok (u loaded))) (IsLoadedReply command (Ok (u loaded))) before after result
    → AnswersFor command (Ok bundle) told before after result
loaded_answer u command told bundle loaded before after result gives timed = (gives.0, gives.1, rw gives.2 timed)

-- files that are refused are told without a reading
pub refused_files : {X F : Type 0} (u : X → Loaded) (command : Command) (told : Option (List (List ℕ × List ℕ))) (bundle : Bundle) (why : Refusal) (now : Option (List ℕ)) (result : Result Reply F)
    → GivesFor u told (wanted_names bundle.listing.wanted) (loaded_of bundle) (Err why) → IfOk result (IsRefusalReply why) → IfOk result (λ reply. IsTold why)
    → AnswersFor command (Ok bundle) told now now result
refused_files u command told bundle why now (Ok reply) gives is real =
    (gives.0, gives.1, ([], appended_none now, omega arith, (rw (gives.2 real.0 real.1) refl, rw (gives.2 real.0 real.1) is)))
refused_files u command told bundle why now (Err e) gives is real = (gives.0, gives.1, ([], appended_none now, omega arith, tt))

-- a refused bundle is told without asking
pub refused_bundle : {F : Type 0} (command : Command) (bundle : Result Bundle Refusal) (told : Option (List (List ℕ × List ℕ))) (why : Refusal) (now : Option (List ℕ)) (result : Result Reply F)
    → ((why ≡ Memory → ⊥) → bundle ≡ Err why) → IfOk result (IsRefusalReply why) → IfOk result (λ reply. IsTold why)
    → AnswersFor command bundle told now now result
refused_bundle command bundle told why now (Ok reply) gives is real =
    (given_of told (names_in bundle), given_whole told (names_in bundle), ([], appended_none now, omega arith, (rw (gives real.0) refl, rw (gives real.0) is)))
refused_bundle command bundle told why now (Err e) gives is real = (given_of told (names_in bundle), given_whole told (names_in bundle), ([], appended_none now, omega arith, tt))

-- so is a site that isn't made
pub refused_site : {F : Type 0} (command : Command) (site : Result Site Refusal) (why : Refusal) (result : Result Reply F)
    → ((why ≡ Memory → ⊥) → site ≡ Err why) → IfOk result (IsRefusalReply why) → IfOk result (λ reply. IsTold why) → IfOk result (IsMadeReply command site)
refused_site command site why (Ok reply) gives is real = rw (gives real.0) is
refused_site command site why (Err e) gives is real = tt

-- where there is no answer, none was needed
pub no_answer : {F : Type 0} (command : Command) (bundle : Result Bundle Refusal) (told : Option (List (List ℕ × List ℕ))) (now : Option (List ℕ)) (e : F) → AnswersFor command bundle told now now (Err e)
no_answer command bundle told now e = (given_of told (names_in bundle), given_whole told (names_in bundle), ([], appended_none now, omega arith, tt))

-- the same bundle, said otherwise
pub answer_along : {F : Type 0} (command : Command) (bundle other : Result Bundle Refusal) (told : Option (List (List ℕ × List ℕ))) (before after : Option (List ℕ)) (result : Result Reply F)
    → bundle ≡ other → AnswersFor command bundle told before after result → AnswersFor command other told before after result
answer_along command bundle other told before after result is gives = rw (sym is) gives

-- the bundle of bytes that are JSON, and of others
pub json_bundle : (bytes : List ℕ) (d : Data) → Some d ≡ json_of bytes → bundle_in d ≡ bundle_of bytes
unfolding bundle_of
json_bundle bytes d is = rw (sym is) refl

pub no_json_bundle : (bytes : List ℕ) → None ≡ json_of bytes → Err json_refusal ≡ bundle_of bytes
unfolding bundle_of
no_json_bundle bytes is = rw (sym is) refl

-- so are the names
pub asks_along : (bundle other : Result Bundle Refusal) (before after : List (List ℕ)) → bundle ≡ other → AsksFirst (names_in bundle) before after → AsksFirst (names_in other) before after
asks_along bundle other before after is asks = rw (sym is) asks
