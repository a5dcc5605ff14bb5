-- What a call answers that asks the folder and the clock (this project's own).
use Rattle.std.specs.Prelude.{ℕ, ◌≡◌, ◌≢◌, ◌≤◌, List, length, Option, Result, IfOk}
use Rattle.doll_base.specs.Streams.{Appended}
use Rattle.doll_views.specs.Bundles.{Bundle}
use Rattle.doll_views.specs.Files.{IsGiven}
use Rattle.doll_views.specs.declared.refusal.Refusal.{Refusal}
use Rattle.doll_views.specs.declared.refusal.Refusal.TheVariants as refusal
use Rattle.doll_bundle.specs.Sites.{readings_needed}
use Rattle.doll.specs.declared.reply.Reply.{Reply}
use Rattle.doll.specs.Replies.{IsLoadedReply, loaded_in, names_in}
use Rattle.doll.specs.Words.{Command}

-- The clock gave readings, so many as are needed, and the answer is one for these; where there is no answer it gave no more
-- than are needed.
abbrev pub AnswersTimed : {A F : Type 0} → ℕ → (List ℕ → A → Type 0) → Option (List ℕ) → Option (List ℕ) → Result A F → Type 0
AnswersTimed needed expected before after result =
    (readings : List ℕ) × Appended before after readings × (length readings ≤ needed)
    × IfOk result (λ x. (length readings ≡ needed) × expected readings x)

-- The folder gave bytes for the first of a bundle's names, and the clock readings: the answer is one for these.
abbrev pub AnswersFor : {F : Type 0} → Command → Result Bundle Refusal → Option (List (List ℕ × List ℕ)) → Option (List ℕ) → Option (List ℕ) → Result Reply F → Type 0
AnswersFor command bundle files before after result =
    (given : List (Option (List ℕ))) × IsGiven files (names_in bundle) given
    × AnswersTimed (readings_needed (loaded_in bundle given)) (IsLoadedReply command (loaded_in bundle given)) before after result

-- A refusal that is neither want of memory nor a folder's fault is told.
abbrev pub IsTold : Refusal → Type 0
IsTold why = (why ≢ refusal.Memory) × (why ≢ refusal.Failed)
