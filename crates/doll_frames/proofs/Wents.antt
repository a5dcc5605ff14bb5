-- Carrying a part on to its end or to a call.
use Rattle.std.proofs.Common.{◌≡◌, ℕ, true, false, List, [], ◌++◌, refl, ap, sym, ◌∙◌}
use Rattle.doll_entry.specs.declared.entry.Fresh.{Fresh}
use Rattle.doll_run.specs.Runs.{Rest}
use Rattle.doll_frames.specs.Along.{Along, Went, next, none_given}
use Rattle.doll_frames.specs.Flows.{is_done}
use Rattle.doll_frames.specs.Left.{body_left}
use Rattle.doll_frames.specs.Stacks.{Given, Stopped}
use Rattle.doll_frames.specs.declared.flow.Flow.{Flow}
use Rattle.doll_frames.specs.declared.flow.Flow.TheVariants as flow
use Rattle.doll_frames.specs.declared.frame.Frame.{Frame}
use Rattle.doll_frames.proofs.Alongs.{along_before, along_from, along_then, along_to, body_done, body_stopped, stopped_before}

-- nothing is left where it is done
pub next_done : (stop : Flow) (left : Given → Rest → Rest) → is_done stop ≡ true → ◌≡◌ {A = Rest → Rest} (next stop left) (λ rest. rest)
next_done flow.Done left is = refl
next_done (flow.Read ask) left is = absurd (cc is)
next_done (flow.ReadMany asks) left is = absurd (cc is)
next_done (flow.Write fresh) left is = absurd (cc is)

no_done : (stop : Flow) {X : Type 0} → is_done stop ≡ false → is_done stop ≡ true → X
no_done stop a b = absurd (cc (sym a ∙ b))

-- the same of an equal part
pub went_from : {a b : Rest → Rest} {mean : Given → List Frame → Rest → Rest} {new : Stopped} {looks later : ℕ} {before after : List ℕ} {stop : Flow} → a ≡ b → Went b mean new looks later before after stop → Went a mean new looks later before after stop
went_from is went = record { along = along_from is went.along; ended = went.ended }

-- what came before it
pub went_after : {a b : Rest → Rest} {mean : Given → List Frame → Rest → Rest} {new : Stopped} {looks mid later : ℕ} {before between after : List ℕ} {stop : Flow} → Along a b looks mid before between → Went b mean new mid later between after stop → Went a mean new looks later before after stop
went_after first went = record { along = along_then first went.along; ended = went.ended }

-- it ends
pub went_done : {a : Rest → Rest} {mean : Given → List Frame → Rest → Rest} {new : Stopped} {looks later : ℕ} {before after : List ℕ} → Along a (λ rest. rest) looks later before after → new.frames ≡ [] → Went a mean new looks later before after flow.Done
went_done along ended = record { along = along; ended = λ is. ended }

-- it is carried on to its end
pub done_along : {a : Rest → Rest} {mean : Given → List Frame → Rest → Rest} {new : Stopped} {looks later : ℕ} {before after : List ℕ} {stop : Flow} → is_done stop ≡ true → Went a mean new looks later before after stop → Along a (λ rest. rest) looks later before after
done_along {mean = mean} {new = new} {stop = stop} is went = along_to (next_done stop (λ found. mean found new.frames) is) went.along

-- it stopped before what follows
pub went_stopped : {a : Rest → Rest} {mean whole : Given → List Frame → Rest → Rest} {inner new : Stopped} {looks later : ℕ} {before after : List ℕ} {stop : Flow} (tail : Rest → Rest) → is_done stop ≡ false
    → ◌≡◌ {A = Given → Rest → Rest} (λ found. whole found new.frames) (λ found rest. mean found inner.frames (tail rest)) → Went a mean inner looks later before after stop
    → Went (λ rest. a (tail rest)) whole new looks later before after stop
went_stopped {mean = mean} {inner = inner} {stop = stop} tail is same went = record {
  along = along_to (sym (ap (next stop) same)) (stopped_before stop (λ found. mean found inner.frames) tail is went.along);
  ended = λ done. no_done stop is done;
}

-- it ends, and what follows it goes on
pub went_on : {a tail : Rest → Rest} {mean whole : Given → List Frame → Rest → Rest} {inner new : Stopped} {looks mid later : ℕ} {before between after : List ℕ} {first stop : Flow} → is_done first ≡ true → Went a mean inner looks mid before between first
    → Went tail whole new mid later between after stop → Went (λ rest. a (tail rest)) whole new looks later before after stop
went_on {tail = tail} is first went = went_after (along_before tail (done_along is first)) went

-- the frame of the whole is put round it
pub went_framed : {a : Rest → Rest} {mean whole : Given → List Frame → Rest → Rest} {inner new : Stopped} {looks later : ℕ} {before after : List ℕ} {stop : Flow} → is_done stop ≡ false
    → ◌≡◌ {A = Given → Rest → Rest} (λ found. whole found new.frames) (λ found. mean found inner.frames) → Went a mean inner looks later before after stop → Went a whole new looks later before after stop
went_framed {stop = stop} is same went = record { along = along_to (sym (ap (next stop) same)) went.along; ended = λ done. no_done stop is done }

-- a part that is done has no frame to be told
pub went_ended : {a : Rest → Rest} {mean whole : Given → List Frame → Rest → Rest} {inner : Stopped} {looks later : ℕ} {before after : List ℕ} {stop : Flow} → is_done stop ≡ true → Went a mean inner looks later before after stop → Went a whole inner looks later before after stop
went_ended {mean = mean} {whole = whole} {inner = inner} {stop = stop} is went = record {
  along = along_to (next_done stop (λ found. mean found inner.frames) is ∙ sym (next_done stop (λ found. whole found inner.frames) is)) went.along;
  ended = went.ended;
}

-- ---- blocks

-- the body of a block stopped
pub went_body : {a : Rest → Rest} {mean whole : Given → List Frame → Rest → Rest} {inner new : Stopped} {looks later : ℕ} {written after outer : List ℕ} {stop : Flow} (made : List ℕ → Fresh) → is_done stop ≡ false
    → ◌≡◌ {A = Given → Rest → Rest} (λ found. whole found new.frames) (λ found. body_left (mean found inner.frames) made after) → Went a mean inner looks later written after stop
    → Went (body_left a made written) whole new looks later outer outer stop
went_body {mean = mean} {inner = inner} {stop = stop} made is same went = record {
  along = along_to (sym (ap (next stop) same)) (body_stopped stop (λ found. mean found inner.frames) made is went.along);
  ended = λ done. no_done stop is done;
}

-- the body of a block is done: it is handed in
pub went_handed : {a : Rest → Rest} {mean whole : Given → List Frame → Rest → Rest} {inner new : Stopped} {looks later : ℕ} {written all before after : List ℕ} {stop : Flow} (made : List ℕ → Fresh) (fresh : Fresh) → is_done stop ≡ true
    → fresh ≡ made all → after ≡ before ++ all → ◌≡◌ {A = Rest → Rest} (whole none_given new.frames) (λ rest. rest) → Went a mean inner looks later written all stop
    → Went (body_left a made written) whole new looks later before after (flow.Write fresh)
went_handed {whole = whole} {new = new} made fresh is made_of appended nothing went = record {
  along = body_done made fresh (λ found. whole found new.frames) made_of appended nothing (done_along is went);
  ended = λ done. absurd (cc done);
}
