-- The first commits of a history are those up to a moment.
use Rattle.std.proofs.Common.{◌≡◌, ℕ, zero, suc, ◌<◌, ◌≤◌, true, false, List, [], ◌∷◌, take, IsTrue, nat_le, ap, refl, le_refl, arith}
use Rattle.std.proofs.lemmas.Bool.{and_parts, le-leb, lt-leb}
use Rattle.doll_journal.specs.declared.change.Commit.{Commit}
use Rattle.doll_table.specs.Tables.{empty_table}
use Rattle.doll_records.specs.Histories.{made_on, up_to, last_moment, follows, rise, MomentsTellPlaces}
use Rattle.doll_records.proofs.Growing.{follows_by}

at_least : (before : ℕ) (history : List Commit) (place : ℕ) → IsTrue (rise before history) → before ≤ last_moment before (take place history)
unfolding last_moment rise
at_least before [] zero rises = le_refl before
at_least before [] (suc place) rises = le_refl before
at_least before (first ∷ more) zero rises = le_refl before
at_least before (first ∷ more) (suc place) rises =
    let parts = and_parts (follows before first) (rise first.moment more) rises in
    let by = follows_by before first parts.0 in
    let on : first.moment ≤ last_moment first.moment (take place more) = at_least first.moment more place parts.1 in
    omega arith

-- no commit that follows is up to a moment before
none_up_to : (moment before : ℕ) (history : List Commit) → moment ≤ before → IsTrue (rise before history) → up_to history moment ≡ []
unfolding rise
none_up_to moment before [] within rises = refl
none_up_to moment before (first ∷ more) within rises =
    let parts = and_parts (follows before first) (rise first.moment more) rises in
    let by = follows_by before first parts.0 in
    let above : moment < first.moment = omega arith in
    let late : nat_le first.moment moment ≡ false = lt-leb first.moment moment above in
    let on : moment ≤ first.moment = omega arith in
    rw late (none_up_to moment first.moment more on parts.1)

first_ones : (before : ℕ) (history : List Commit) (place : ℕ) → IsTrue (rise before history) → up_to history (last_moment before (take place history)) ≡ take place history
unfolding last_moment rise
first_ones before [] zero rises = refl
first_ones before [] (suc place) rises = refl
first_ones before (first ∷ more) zero rises = none_up_to before before (first ∷ more) (le_refl before) rises
first_ones before (first ∷ more) (suc place) rises =
    let parts = and_parts (follows before first) (rise first.moment more) rises in
    let early : nat_le first.moment (last_moment first.moment (take place more)) ≡ true = le-leb first.moment (last_moment first.moment (take place more)) (at_least first.moment more place parts.1) in
    rw early (ap (λ xs. first ∷ xs) (first_ones first.moment more place parts.1))

pub moments_tell_places : MomentsTellPlaces
moments_tell_places schema history place is within =
    let same = first_ones 0 history place is.rises in
    (same, ap (made_on schema (empty_table schema)) same)
