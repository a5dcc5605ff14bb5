-- What calls answer that make changes (this project's own).
use Rattle.std.specs.Prelude.{◌≡◌, Result, Ok, Err, MatchResult, ⊤}
use Rattle.doll_text.specs.Steps.{◌>>=◌}
use Rattle.doll_schema.specs.declared.model.Schema.{Schema}
use Rattle.doll_commit.specs.declared.fault.Why.{Why}
use Rattle.doll_commit.specs.declared.fault.ChangeFault.{ChangeFault}
use Rattle.doll_commit.specs.declared.fault.ChangeFault.TheVariants as fault
use Rattle.doll_commit.specs.declared.fault.CommitFault.{CommitFault}
use Rattle.doll_commit.specs.declared.fault.CommitFault.TheVariants as commit
use Rattle.doll_commit.specs.declared.course.Course as memory
use Rattle.doll_commit.specs.Changes.{Made}
use Rattle.doll_commit.specs.Commits.{Course, after_change}

-- the fault is the expected one, or want of memory
abbrev pub Refuses : {A : Type 0} → Result A Why → ChangeFault → Type 0
Refuses expected (fault.Refused what) = expected ≡ Err what
Refuses expected fault.Memory = ⊤

-- the answer is the expected one, or want of memory
abbrev pub Answers : {A : Type 0} → Result A Why → Result A ChangeFault → Type 0
Answers expected result = MatchResult result (λ x. expected ≡ Ok x) (Refuses expected)

-- the course that one in memory is
abbrev pub seen : memory.Course → Course
seen course = record { table = course.table; touched = course.touched; ids = course.ids }

-- what a course goes on to by a change
abbrev pub next_course : Schema → Course → Result Made Why → Result Course Why
next_course schema before made = made >>= λ m. Ok (after_change schema before m)

-- a course went on by a change, or the change is refused, or memory ran out
abbrev pub GoesOn : {A : Type 0} → Schema → Course → Result Made Why → Course → Result A ChangeFault → Type 0
GoesOn schema before made after result = MatchResult result (λ done. next_course schema before made ≡ Ok after) (Refuses made)

-- the call left what is expected, or its fault is the expected one, or memory ran out
abbrev pub Reaches : {A X : Type 0} → Result X CommitFault → X → Result A CommitFault → Type 0
Reaches expected after result = MatchResult result (λ done. expected ≡ Ok after) (λ e. (e ≡ commit.Memory → ⊥) → expected ≡ Err e)
