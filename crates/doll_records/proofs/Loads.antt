-- Which items an opening has loaded when it ends.
use Rattle.std.proofs.Common.{◌≡◌, ℕ, ◌+◌, ◌<◌, ◌≤◌, false, Vec, Global, Option, Err, subst, sym, arith}
use Rattle.doll_keep.specs.Calls.{Load, Telling, Serves}
use Rattle.doll_keep.specs.Kept.{has_failed}
use Rattle.doll_keep.specs.declared.keeper.KeepFault.{KeepFault}
use Rattle.doll_keep.specs.declared.keeper.KeepFault.TheVariants as keep
use Rattle.doll_keep.proofs.Serving.{serves_more}
use Rattle.doll_records.specs.declared.fault.OpenFault.{OpenFault}
use Rattle.doll_records.specs.declared.fault.OpenFault.TheVariants as opens
use Rattle.doll_records.specs.Faults.{open_keep_fault}
use Rattle.doll_records.specs.Openings.{IsOfItem, LoadsUpTo}
use Rattle.doll_records.specs.declared.limits.TheConstants.{MOST_COMMITS}

-- one load more, by its number
pub serves_next : {K : Type 0} (Called : Telling K) (loads at : ℕ) (before last after : K) → at ≡ loads → Serves Called loads before last → Called last (Load at) false after → Serves Called (at + 1) before after
serves_next Called loads at before last after is served called =
    serves_more Called at before last after (subst (λ (n : ℕ). Serves Called n before last) (sym is) served) called

-- a load that gives no answer
pub not_loaded : {K : Type 0} (Called : Telling K) (loads at : ℕ) (before last after : K) (fault : KeepFault) → at ≡ loads → at ≤ MOST_COMMITS → Serves Called loads before last
    → Called last (Load at) (has_failed {T = Option (Vec ℕ Global)} (Err fault)) after → LoadsUpTo Called (open_keep_fault fault) before after
not_loaded Called loads at before last after keep.Failed is within served called = (at, within, (last, subst (λ (n : ℕ). Serves Called n before last) (sym is) served, called))
not_loaded Called loads at before last after keep.Memory is within served called = (at + 1, omega arith, serves_next Called loads at before last after is served called)

-- a loaded item that has a fault
pub faulty_item : {K : Type 0} (Called : Telling K) (index : ℕ) (before last after : K) (fault : OpenFault) → index < MOST_COMMITS → IsOfItem index fault → Serves Called index before last
    → Called last (Load index) false after → LoadsUpTo Called fault before after
faulty_item Called index before last after opens.Kept within of served called = absurd of
faulty_item Called index before last after (opens.TooLong limit) within of served called = absurd of
faulty_item Called index before last after opens.Memory within of served called = (index + 1, omega arith, serves_more Called index before last after served called)
faulty_item Called index before last after (opens.Journal at fault) within of served called = rw of (serves_more Called index before last after served called)
faulty_item Called index before last after (opens.Moment at moment) within of served called = rw of (serves_more Called index before last after served called)
faulty_item Called index before last after (opens.Apply at change why) within of served called = rw of (serves_more Called index before last after served called)
