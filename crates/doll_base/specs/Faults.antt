-- Counts of faults: a refusal that blames the outside is answered only where such a count rose (this project's own).
use Rattle.std.specs.Prelude.{◌==◌, ◌+◌, ◌-◌, ◌^◌, ◌<◌, ◌≤◌, ℕ, List, Bool, false, ◌||◌, nat_le, Option, Some, None, Result, IsErrOf, min, if◌then◌else◌}
use Rattle.std.specs.List.{list_any}

-- The count rose, so something outside failed in between.
abbrev pub Rose : ℕ → ℕ → Type 0
Rose before now = before < now

-- The count is no smaller than it was.
abbrev pub KeepsCount : ℕ → ℕ → Type 0
KeepsCount before now = before ≤ now

-- The call answered this error only if the count rose.
abbrev pub HasCause : {T E : Type 0} → E → ℕ → ℕ → Result T E → Type 0
HasCause failed before now result = IsErrOf result failed → Rose before now

-- What is known of a thing in memory that is told which of its calls fail: the numbers of those calls, the number
-- from which on all fail, the number of the next call and the count of faults.
pub record Plan : Type 0 where
  pub failing : List ℕ
  pub fuse : Option ℕ
  pub calls : ℕ
  pub faults : ℕ

-- The plan of a thing that wasn't called yet.
abbrev pub fresh_plan : List ℕ → Option ℕ → Plan
fresh_plan failing fuse = record { failing = failing; fuse = fuse; calls = 0; faults = 0 }

-- All calls fail from this number on, if any.
abbrev pub is_blown : Option ℕ → ℕ → Bool
is_blown None calls = false
is_blown (Some fuse) calls = nat_le fuse calls

-- The next call is one of those that fail.
abbrev pub is_due : Plan → Bool
is_due plan = list_any (λ number. number == plan.calls) plan.failing || is_blown plan.fuse plan.calls

-- The number that comes after this one. The last of 64 bits is given again.
abbrev pub next_call : ℕ → ℕ
next_call calls = min (calls + 1) (2 ^ 64 - 1)

-- The plan after the next call.
abbrev pub after_call : Plan → Plan
after_call plan = record {
  failing = plan.failing;
  fuse = plan.fuse;
  calls = next_call plan.calls;
  faults = if is_due plan then plan.faults + 1 else plan.faults;
}

-- The plan after the next call where that fails, planned or not. Where it is planned, this is the plan after the call.
abbrev pub after_failure : Plan → Plan
after_failure plan = record {
  failing = plan.failing;
  fuse = plan.fuse;
  calls = next_call plan.calls;
  faults = plan.faults + 1;
}
