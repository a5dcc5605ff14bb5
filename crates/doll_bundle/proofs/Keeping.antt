-- A keeper in memory that was made to fail at no call.
use mathlib.Core.Logic.{inl, inr}
use Rattle.std.proofs.Common.{◌≡◌, ℕ, zero, suc, Bool, true, false, List, [], Some, Result, Ok, Err, refl}
use Rattle.doll_base.specs.Faults.{Plan, is_due}
use Rattle.doll_schema.specs.declared.model.Schema.{Schema}
use Rattle.doll_keep.specs.Kept.{MemKept}
use Rattle.doll_keep.specs.Calls.{Call, Load, Append, MemCalled, IsFaultless, Serves, FailsAfter}
use Rattle.doll_records.specs.Commitments.{CalledOnce}
use Rattle.doll_records.specs.Openings.{opened, opened_from, LoadsUpTo}
use Rattle.doll_records.specs.declared.committing.Committed.{Committed}
use Rattle.doll_records.specs.declared.fault.OpenFault.{OpenFault}
use Rattle.doll_records.specs.declared.fault.OpenFault.TheVariants as opens
use Rattle.doll_records.specs.declared.fault.RecordFault.{RecordFault}
use Rattle.doll_records.specs.declared.fault.RecordFault.TheVariants as fault

-- no call of it is one that fails
not_due : (plan : Plan) → IsFaultless plan → is_due plan ≡ false
not_due plan free = rw (free.failing, free.fuse) refl

-- so it fails in none
pub fails_never : (before after : MemKept) (call : Call) → IsFaultless before.plan → MemCalled before call true after → ⊥
fails_never before after call free called = absurd (cc (called.due, not_due before.plan free))

-- and no later call will be one
pub stays_faultless : (before after : MemKept) (call : Call) (fails : Bool) → IsFaultless before.plan → MemCalled before call fails after → IsFaultless after.plan
stays_faultless before after call fails free called = rw called.plan (record { failing = free.failing; fuse = free.fuse })

-- the same of calls one after another
pub serves_faultless : (calls : ℕ) (before after : MemKept) → IsFaultless before.plan → Serves MemCalled calls before after → IsFaultless after.plan
unfolding Serves
serves_faultless zero before after free served = rw served free
serves_faultless (suc calls) before after free served =
    stays_faultless served.0 after (Load calls) false (serves_faultless calls before served.0 free served.1) served.2

pub fails_after_none : (calls : ℕ) (before after : MemKept) → IsFaultless before.plan → FailsAfter MemCalled calls before after → ⊥
fails_after_none calls before after free failed = fails_never failed.0 after (Load calls) (serves_faultless calls before failed.0 free failed.1) failed.2

-- so opening blames it never
pub open_kept_never : (why : OpenFault) (before after : MemKept) → IsFaultless before.plan → LoadsUpTo MemCalled why before after → why ≡ opens.Kept → ⊥
open_kept_never why before after free loads failed =
    let kept : LoadsUpTo MemCalled opens.Kept before after = rw failed at loads in
    fails_after_none kept.0 before after free kept.2

-- the same of a commit
pub commit_faultless : (bytes : List ℕ) (before after : MemKept) (result : Result Committed RecordFault) → IsFaultless before.plan → CalledOnce MemCalled bytes before after result → IsFaultless after.plan
commit_faultless bytes before after (Ok committed) free once = stays_faultless before after (Append bytes) false free once
commit_faultless bytes before after (Err fault.Kept) free once = stays_faultless before after (Append bytes) true free once
commit_faultless bytes before after (Err fault.Memory) free (inl same) = rw same free
commit_faultless bytes before after (Err fault.Memory) free (inr called) = stays_faultless before after (Append bytes) false free called
commit_faultless bytes before after (Err (fault.HistoryFull count)) free once = rw once free
commit_faultless bytes before after (Err (fault.MomentsEnded last)) free once = rw once free
commit_faultless bytes before after (Err (fault.Refused index why)) free once = rw once free

pub commit_kept_never : (bytes : List ℕ) (before after : MemKept) → IsFaultless before.plan → CalledOnce MemCalled bytes before after (Err fault.Kept) → ⊥
commit_kept_never bytes before after free once = fails_never before after (Append bytes) free once

-- opening it, where it keeps no item, is refused for want of memory alone
pub open_refused_never : (schema : Schema) (kept : List (List ℕ)) (why : OpenFault) → Some kept ≡ Some [] → ((why ≡ opens.Kept → ⊥) → (why ≡ opens.Memory → ⊥) → opened schema kept ≡ Err why) → (why ≡ opens.Kept → ⊥) → (why ≡ opens.Memory → ⊥) → ⊥
unfolding opened_from
open_refused_never schema kept why none gives failed memory =
    let empty : kept ≡ [] = cc none in
    let refused : opened schema [] ≡ Err why = rw empty at (gives failed memory) in
    absurd (cc refused)
