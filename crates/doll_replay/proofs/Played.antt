-- Orders of a script one after another.
use Rattle.std.proofs.Common.{◌≡◌, ◌+◌, ℕ, Bool, true, false, not, List, [], ◌∷◌, ◌++◌, ◌<◌, ◌≤◌, ◌^◌, drop, get_or, length, Option, Some, None, refl, ap, sym, subst, ◌∙◌, arith}
use Rattle.std.specs.List.{list_any}
use Rattle.std.proofs.lemmas.Grind.{flat_map-append}
use Rattle.std.proofs.lemmas.List.{append_assoc, append-nil, drop_all, drop_more}
use Rattle.doll_core.specs.States.{CoreState}
use Rattle.doll_core.specs.Steps.{Stays}
use Rattle.doll_script.specs.declared.order.Order.{Order}
use Rattle.doll_replay.specs.Plays.{OrderPlays, Plays, Told, Whether, clock_behind, is_bad}
use Rattle.doll_replay.specs.Reports.{IsTold, Replays, report_of, told_line}
use Rattle.doll_replay.specs.declared.playing.Replayed.TheVariants as replayed

-- the first orders are played, so many of them, and their lines are written
pub record Played (orders : List Order) (old here : CoreState) (count now : ℕ) (out : List ℕ) : Type 0 where
  pub told : List Told
  pub then_more : (rest : List Told) (bad : Option ℕ) (new : CoreState) → Plays (count + 1) now here (drop count orders) rest bad new → Plays 1 0 old orders (told ++ rest) bad new
  pub written : out ≡ report_of told

pub none_played : (orders : List Order) (old : CoreState) → Played orders old old 0 0 []
none_played orders old = record { told = []; then_more = λ rest bad new plays. plays; written = refl }

good_means : (bad good : Bool) → good ≡ not bad → good ≡ true → bad ≡ false
good_means true good is true_is = absurd (cc (sym is ∙ true_is))
good_means false good is true_is = refl

bad_means : (bad good : Bool) → good ≡ not bad → good ≡ false → bad ≡ true
bad_means true good is false_is = refl
bad_means false good is false_is = absurd (cc (sym is ∙ false_is))

pub one_played : (orders more : List Order) (order : Order) (old here next : CoreState) (count now : ℕ) (before after : List ℕ) (good : Bool) → drop count orders ≡ order ∷ more → drop (count + 1) orders ≡ more
    → Played orders old here count now before → IsTold (OrderPlays now here order) before after next good → good ≡ true → Played orders old next (count + 1) (clock_behind now order) after
one_played orders more order old here next count now before after good there behind played told is = record {
  told = played.told ++ told.0;
  then_more = λ rest bad new plays.
      subst (λ t. Plays 1 0 old orders t bad new) (sym (append_assoc played.told told.0 rest))
      (played.then_more (told.0 ++ rest) bad new
      (subst (λ os. Plays (count + 1) now here os (told.0 ++ rest) bad new) (sym there) (
        told.0,
        (
          next,
          (
            told.1.0,
            subst (λ b. Whether b ((told.0 ++ rest ≡ told.0) × ((bad ≡ Some (count + 1)) × Stays next new)) ((others : List Told) × ((told.0 ++ rest ≡ told.0 ++ others) × Plays (count + 1 + 1) (clock_behind now order) next more others bad new)))
                (sym (good_means (list_any is_bad told.0) good told.1.1.0 is)) (rest, (refl, subst (λ os. Plays (count + 1 + 1) (clock_behind now order) next os rest bad new) behind plays)),
          ),
        ),
      )));
  written = told.1.1.1 ∙ ap (λ b. b ++ report_of told.0) played.written ∙ sym (flat_map-append told_line played.told told.0);
}

stays : (state : CoreState) → Stays state state
stays state = record { world = refl; sessions = λ n. refl }

pub stopped_at : (orders more : List Order) (order : Order) (old here next : CoreState) (count now : ℕ) (before after : List ℕ) (good : Bool) → drop count orders ≡ order ∷ more
    → Played orders old here count now before → IsTold (OrderPlays now here order) before after next good → good ≡ false → Replays old orders (replayed.Stopped (count + 1)) next
stopped_at orders more order old here next count now before after good there played told is = (
  played.told ++ told.0,
  (
    Some (count + 1),
    (
      played.then_more told.0 (Some (count + 1)) next
          (subst (λ os. Plays (count + 1) now here os told.0 (Some (count + 1)) next) (sym there) (
            told.0,
            (
              next,
              (
                told.1.0,
                subst (λ b. Whether b ((told.0 ≡ told.0) × ((Path (Option ℕ) (Some (count + 1)) (Some (count + 1))) × Stays next next)) ((others : List Told) × ((told.0 ≡ told.0 ++ others) × Plays (count + 1 + 1) (clock_behind now order) next more others (Some (count + 1)) next)))
                    (sym (bad_means (list_any is_bad told.0) good told.1.1.0 is)) (refl, (refl, stays next)),
              ),
            ),
          )),
      refl,
    ),
  ),
)

pub all_played : (orders : List Order) (old here : CoreState) (count now : ℕ) (out : List ℕ) → drop count orders ≡ [] → Played orders old here count now out → Replays old orders (replayed.Report out) here
all_played orders old here count now out none played = (
  played.told ++ [],
  (
    None,
    (
      played.then_more [] None here (subst (λ os. Plays (count + 1) now here os [] None here) (sym none) (refl, refl, stays here)),
      ap replayed.Report (played.written ∙ ap report_of (sym (append-nil played.told))),
    ),
  ),
)

-- ---- by the number of the orders that are played

-- nothing is written yet
pub none_written : (orders : List Order) (old : CoreState) (out : List ℕ) → out ≡ [] → Played orders old old 0 0 out
none_written orders old out empty = subst (Played orders old old 0 0) (sym empty) (none_played orders old)

left_at : (orders : List Order) (order : Order) (count : ℕ) → count < length orders → order ≡ get_or orders count order → drop count orders ≡ order ∷ drop (count + 1) orders
left_at orders order count within is = drop_more orders count order within ∙ ap (λ o. o ∷ drop (count + 1) orders) (sym is)

pub line_within : (line count most : ℕ) → line ≡ count → count < most → most < 2 ^ 32 → line + 1 < 2 ^ 32
line_within line count most is within few = omega arith

pub next_played : (orders : List Order) (order : Order) (old here next : CoreState) (count now later : ℕ) (before after : List ℕ) (good : Bool) → count < length orders → order ≡ get_or orders count order → later ≡ clock_behind now order
    → Played orders old here count now before → IsTold (OrderPlays now here order) before after next good → good ≡ true → Played orders old next (count + 1) later after
next_played orders order old here next count now later before after good within is clock played told good_is =
    subst (λ t. Played orders old next (count + 1) t after) (sym clock)
    (one_played orders (drop (count + 1) orders) order old here next count now before after good (left_at orders order count within is) refl played told good_is)

pub next_stopped : (orders : List Order) (order : Order) (old here next : CoreState) (line count now : ℕ) (before after : List ℕ) (good : Bool) → line ≡ count → count < length orders → order ≡ get_or orders count order
    → Played orders old here count now before → IsTold (OrderPlays now here order) before after next good → good ≡ false → Replays old orders (replayed.Stopped (line + 1)) next
next_stopped orders order old here next line count now before after good same within is played told bad =
    subst (λ n. Replays old orders (replayed.Stopped (n + 1)) next) (sym same)
    (stopped_at orders (drop (count + 1) orders) order old here next count now before after good (left_at orders order count within is) played told bad)

pub whole_played : (orders : List Order) (old here : CoreState) (count now : ℕ) (out text : List ℕ) → length orders ≤ count → text ≡ out → Played orders old here count now out → Replays old orders (replayed.Report text) here
whole_played orders old here count now out text end same played = subst (λ t. Replays old orders (replayed.Report t) here) (sym same) (all_played orders old here count now out (drop_all count orders end) played)
