-- How far a part of a rendering was carried (this project's own).
use Rattle.std.specs.Prelude.{◌≡◌, ◌≤◌, ◌+◌, ◌++◌, ℕ, true, List, [], Option, None}
use Rattle.doll_run.specs.Runs.{Reads, ReadsMany, Rest, Writes}
use Rattle.doll_frames.specs.Flows.{is_done}
use Rattle.doll_frames.specs.Stacks.{Given, Stopped, given}
use Rattle.doll_frames.specs.declared.flow.Flow.{Flow}
use Rattle.doll_frames.specs.declared.flow.Flow.TheVariants as flow
use Rattle.doll_frames.specs.declared.frame.Frame.{Frame}

-- A rendering was carried from one point on to another: the table was looked at so often at most as it may be between them, and what stands between them was
-- written.
pub record Along (run then : Rest → Rest) (old new : ℕ) (before after : List ℕ) : Type 0 where
  pub more : ℕ
  pub text : List ℕ
  pub within : new ≤ old + more
  pub written : after ≡ before ++ text
  pub goes : (rest : Rest) (looks : ℕ) (out : List ℕ) → run rest looks out ≡ then rest (looks + more) (out ++ text)

-- what was found of one block, or of several; nothing where none was asked for
abbrev pub one_given : Option (List ℕ) → Given
one_given found = record { one = found; many = [] }

abbrev pub many_given : List (Option (List ℕ)) → Given
many_given found = record { one = None; many = found }

abbrev pub none_given : Given
none_given = record { one = None; many = [] }

-- the call at which a rendering stopped, and then what is left by what was answered
abbrev pub next : Flow → (Given → Rest → Rest) → Rest → Rest
next flow.Done left rest looks out = rest looks out
next (flow.Read ask) left rest looks out = Reads looks ask (λ found. left (one_given found) rest 0 out)
next (flow.ReadMany asks) left rest looks out = ReadsMany looks asks (λ found. left (many_given found) rest 0 out)
next (flow.Write fresh) left rest looks out = Writes looks fresh (left none_given rest 0 out)

-- A part was carried on to its end, where no frame is left, or to a call, behind which frames tell what is left of it by what is answered.
pub record Went (run : Rest → Rest) (mean : Given → List Frame → Rest → Rest) (new : Stopped) (looks later : ℕ) (before after : List ℕ) (flow : Flow) : Type 0 where
  pub along : Along run (next flow (λ found. mean found new.frames)) looks later before after
  pub ended : is_done flow ≡ true → new.frames ≡ []

-- the same of what was left of it
abbrev pub Goes : (Given → List Frame → Rest → Rest) → Stopped → Stopped → ℕ → ℕ → List ℕ → List ℕ → Flow → Type 0
Goes mean old new looks later before after flow = Went (mean (given old.answer) old.frames) mean new looks later before after flow
