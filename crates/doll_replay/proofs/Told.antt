-- Every outcome of a step has a line, but where its session isn't there or is there already.
use Rattle.std.proofs.Common.{◌≡◌, ◌≢◌, ℕ, Bool, true, false, not, List, [], ◌∷◌, ◌++◌, Option, Some, None, Result, Ok, Err, IsSome, if◌then◌else◌, refl, ap, sym, subst, ◌∙◌}
use Rattle.std.specs.Prelude.{codes, nat_lt, option_and_then}
use Rattle.std.specs.List.{list_any}
use Rattle.std.proofs.lemmas.List.{append-nil}
use Rattle.doll_entry.specs.Judging.{judged}
use Rattle.doll_entry.specs.declared.asks.Ask.{Ask}
use Rattle.doll_entry.specs.declared.asks.Fetched.{Fetched}
use Rattle.doll_entry.specs.declared.entry.Entry.{Entry}
use Rattle.doll_entry.specs.declared.judging.Judged.{Judged}
use Rattle.doll_entry.specs.declared.judging.Judged.TheVariants as becomes
use Rattle.doll_keep.specs.Kept.{MemKept}
use Rattle.doll_records.specs.declared.committing.Committed.{Committed}
use Rattle.doll_records.specs.declared.fault.RecordFault.{RecordFault}
use Rattle.doll_records.specs.declared.fault.RecordFault.TheVariants as fault
use Rattle.doll_report.specs.Appending.{appended}
use Rattle.doll_report.specs.Lines.{answer_words, answers_words, session_words}
use Rattle.doll_report.specs.declared.outcome.Outcome.{Outcome}
use Rattle.doll_report.specs.declared.outcome.Outcome.TheVariants as outcome
use Rattle.doll_report.specs.declared.outcome.Step.{Step}
use Rattle.doll_report.specs.declared.outcome.Step.TheVariants as step
use Rattle.doll_route.specs.Paths.{path_of}
use Rattle.doll_route.specs.Routes.{route_of}
use Rattle.doll_route.specs.declared.route.Found.{Found}
use Rattle.doll_run.specs.Runs.{Ends, Reads, ReadsMany, Run, Writes}
use Rattle.doll_shelf.specs.Calls.{Shelved}
use Rattle.doll_shelf.specs.Entries.{place_of}
use Rattle.doll_shelf.specs.Fetches.{fetched, fetched_at, fetched_by, fetched_from}
use Rattle.doll_world.specs.Worlds.{WorldParts}
use Rattle.doll_core.specs.Openings.{Opening, found_run, moment_now, opened, opening_by, refused}
use Rattle.doll_core.specs.States.{CoreState, SessionState}
use Rattle.doll_core.specs.Steps.{StartsBy, Steps, TurnsBy, told_of}
use Rattle.doll_core.specs.Turns.{found_all, found_one, turned}
use Rattle.doll_core.specs.declared.event.Event.{Event}
use Rattle.doll_core.specs.declared.event.Event.TheVariants as event
use Rattle.doll_replay.specs.Plays.{RightStep, kind_of}
use Rattle.doll_replay.specs.Reports.{HasLine}

-- ---- answers

by_judged : (becomes : Judged) (expiry place : ℕ) (entry : Entry) (entries : List Entry) → IsSome (answer_words (fetched_by becomes expiry place entry entries).0)
by_judged becomes.Live expiry place entry entries = refl
by_judged becomes.Mismatch expiry place entry entries = refl
by_judged becomes.Bump expiry place entry entries = refl
by_judged becomes.Dead expiry place entry entries = refl

by_place : (found : Option Entry) (place : ℕ) (versions : List ℕ) (now ttl : ℕ) (entries : List Entry) → IsSome (answer_words (fetched_at found place versions now ttl entries).0)
by_place None place versions now ttl entries = refl
by_place (Some entry) place versions now ttl entries = by_judged (judged entry versions now ttl) _ place entry entries

by_key : (place : Option ℕ) (versions : List ℕ) (now ttl : ℕ) (entries : List Entry) → IsSome (answer_words (fetched_from place versions now ttl entries).0)
by_key None versions now ttl entries = refl
by_key (Some place) versions now ttl entries = by_place _ place versions now ttl entries

-- what a shelf in memory answers has a word
fetched_told : (key versions : List ℕ) (now ttl : ℕ) (entries : List Entry) → IsSome (answer_words (fetched key versions now ttl entries).0)
fetched_told key versions now ttl entries = by_key (place_of key entries) versions now ttl entries

-- ---- lines

appended_told : (text : List ℕ) (more : Option (List ℕ)) → IsSome more → IsSome (appended text more)
appended_told text None told = absurd (cc told)
appended_told text (Some more) told = refl

both_told : (word : Option (List ℕ)) (more : Option (List ℕ)) → IsSome word → IsSome more → IsSome (option_and_then (λ w. appended w more) word)
both_told None more first then_more = absurd (cc first)
both_told (Some word) more first then_more = appended_told word more then_more

all_told : (now : ℕ) (asks : List Ask) (entries : List Entry) → IsSome (answers_words (found_all now asks entries).0)
all_told now [] entries = refl
all_told now (ask ∷ asks) entries = both_told _ _ (fetched_told ask.key ask.versions now 0 entries) (all_told now asks (fetched ask.key ask.versions now 0 entries).1)

-- what a turn comes to has a line
turned_told : (session now : ℕ) (shelf : Shelved) (run : Run) → HasLine (step.Turn session) (turned now shelf run).outcome
turned_told session now shelf (Ends looks bytes) = refl
turned_told session now shelf (Reads looks ask rest) = appended_told (session_words (codes "turn ") session) (appended (codes "read") (answer_words (found_one now shelf ask).0)) (appended_told (codes "read") (answer_words (found_one now shelf ask).0) (fetched_told ask.key ask.versions now shelf.settings.race_ttl shelf.entries))
turned_told session now shelf (ReadsMany looks asks rest) = appended_told (session_words (codes "turn ") session) (appended (codes "many") (answers_words (found_all now asks shelf.entries).0)) (appended_told (codes "many") (answers_words (found_all now asks shelf.entries).0) (all_told now asks shelf.entries))
turned_told session now shelf (Writes looks fresh rest) = refl

opened_told : (session : ℕ) (world : WorldParts MemKept Shelved) (target : List ℕ) (run : Option Run) → HasLine (step.Open session) (opened world target run).outcome
opened_told session world target None = refl
opened_told session world target (Some run) = refl

when_told : (session : ℕ) (world : WorldParts MemKept Shelved) (late : Bool) (other : Opening) → HasLine (step.Open session) other.outcome → HasLine (step.Open session) (if late then refused 409 world else other).outcome
when_told session world true other told = refl
when_told session world false other told = told

opening_told : (session : ℕ) (world : WorldParts MemKept Shelved) (target : List ℕ) (seen : ℕ) (found : Option Found) → HasLine (step.Open session) (opening_by world target seen found).outcome
opening_told session world target seen None = refl
opening_told session world target seen (Some found) = when_told session world (nat_lt (moment_now world) seen) (opened world target (found_run world target found)) (opened_told session world target (found_run world target found))

committed_told : (result : Result Committed RecordFault) → result ≢ Err fault.Memory → HasLine step.Commit (told_of result)
committed_told (Ok committed) other = refl
committed_told (Err (fault.HistoryFull count)) other = refl
committed_told (Err (fault.MomentsEnded last)) other = refl
committed_told (Err (fault.Refused index why)) other = refl
committed_told (Err fault.Kept) other = refl
committed_told (Err fault.Memory) other = absurd (other refl)

starts_told : (one : Option SessionState) (old new : CoreState) (session : ℕ) (target : List ℕ) (seen : ℕ) (came : Outcome) → StartsBy one old session target seen came new → HasLine (step.Open session) came
starts_told None old new session target seen came starts = subst (HasLine (step.Open session)) (sym starts.0) (opening_told session old.world target seen (route_of old.world.checked.routes (path_of target)))
starts_told (Some busy) old new session target seen came starts = subst (HasLine (step.Open session)) (sym starts.0) tt

turns_told : (one : Option SessionState) (old new : CoreState) (session now : ℕ) (came : Outcome) → TurnsBy one old session now came new → HasLine (step.Turn session) came
turns_told None old new session now came turns = subst (HasLine (step.Turn session)) (sym turns.0) tt
turns_told (Some one) old new session now came turns = subst (HasLine (step.Turn session)) (sym turns.0) (turned_told session now old.world.shelf one.run)

-- what an event comes to has a line
pub step_told : (old new : CoreState) (one : Event) (came : Outcome) → Steps old one came new → HasLine (kind_of one) came
step_told old new (event.Start session target seen now) came steps = starts_told (old.sessions session) old new session target seen came steps
step_told old new (event.Turn session now) came steps = turns_told (old.sessions session) old new session now came steps
step_told old new (event.Commit changes now) came steps = subst (HasLine step.Commit) (sym steps.is) (committed_told steps.result steps.remembered)
step_told old new (event.Expire now) came steps = subst (HasLine step.Expire) (sym steps.0) refl

-- the same of a step of this kind
pub kind_told : (old new : CoreState) (one : Event) (kind : Step) (came : Outcome) → kind ≡ kind_of one → Steps old one came new → HasLine kind came
kind_told old new one kind came is steps = subst (λ k. HasLine k came) (sym is) (step_told old new one came steps)
