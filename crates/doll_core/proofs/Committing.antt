-- What a commit is told is what recording it comes to.
use Rattle.std.proofs.Common.{◌≡◌, ◌++◌, ◌∷◌, [], ℕ, List, length, Result, Ok, Err, IfOk, OnOk, OnErr, ap, subst}
use Rattle.std.specs.Prelude.{◌≢◌, option_map}
use Rattle.doll_journal.specs.Spelling.{spelling}
use Rattle.doll_journal.specs.declared.change.Change.{Change}
use Rattle.doll_keep.specs.Calls.{MemCalled}
use Rattle.doll_keep.specs.Kept.{MemKept}
use Rattle.doll_records.specs.Commitments.{CalledOnce, GivesCommitted, asked}
use Rattle.doll_records.specs.declared.committing.Committed.{Committed}
use Rattle.doll_records.specs.declared.fault.RecordFault.{RecordFault}
use Rattle.doll_records.specs.declared.fault.RecordFault.TheVariants as fault
use Rattle.doll_report.specs.declared.outcome.Outcome.{Outcome}
use Rattle.doll_shelf.specs.Calls.{Shelved}
use Rattle.doll_types.specs.Sets.{TypedSet}
use Rattle.doll_world.specs.Worlds.{WorldParts}
use Rattle.doll_core.specs.States.{CoreParts, session_at, session_state, state_of}
use Rattle.doll_core.specs.Steps.{Commits, told_of}
use Rattle.doll_core.specs.declared.event.TheConstants.{AUTHOR}

module _ (old : CoreParts) (new : WorldParts MemKept Shelved) (changes : List Change) (now : ℕ) (result : Result Committed RecordFault) (checked : new.checked ≡ old.world.checked) where
  pub commits : {E : Type 0} (serial : ℕ) (told : Result Outcome E) → serial ≡ length old.world.records.history → IfOk told (λ t. t ≡ told_of result) → OnOk told (result ≢ Err fault.Memory)
      → GivesCommitted old.world.records (asked old.world.records.history AUTHOR serial changes now) result
      → CalledOnce MemCalled (spelling (asked old.world.records.history AUTHOR serial changes now)) old.world.records.keeper new.records.keeper result
      → OnOk result (new.records.history ≡ old.world.records.history ++ asked old.world.records.history AUTHOR serial changes now ∷ [])
      → OnErr result (new.records.history ≡ old.world.records.history) → new.records.schema ≡ old.world.records.schema → new.shelf ≡ old.world.shelf
      → IfOk told (λ t. Commits (state_of old) changes now t (state_of (record { world = new; sessions = old.sessions })))
  commits serial (Err e) is told remembered gives called added same schema shelf = tt
  commits serial (Ok t) is told remembered gives called added same schema shelf = record {
    result = result;
    remembered = remembered;
    is = told;
    gives = by_serial (λ n. GivesCommitted old.world.records (asked old.world.records.history AUTHOR n changes now) result) gives;
    called = by_serial (λ n. CalledOnce MemCalled (spelling (asked old.world.records.history AUTHOR n changes now)) old.world.records.keeper new.records.keeper result) called;
    added = by_serial (λ n. OnOk result (new.records.history ≡ old.world.records.history ++ asked old.world.records.history AUTHOR n changes now ∷ [])) added;
    same = same;
    schema = schema;
    shelf = shelf;
    checked = checked;
    sessions = λ number. ap (λ (c : TypedSet). option_map (session_state c) (session_at old.sessions number)) checked;
  }
    where
      by_serial : (P : ℕ → Type 0) → P serial → P (length old.world.records.history)
      by_serial P is_so = subst P is is_so
