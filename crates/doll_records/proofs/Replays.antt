-- A history made of the first items of a list, and what opening the whole list then comes to.
use Rattle.std.proofs.Common.{◌≡◌, ℕ, zero, suc, ◌+◌, ◌<◌, ◌≤◌, true, List, [], ◌∷◌, ◌++◌, map, length, drop, Option, Some, None, Ok, Err, Vec, Global, slice_get, nat_lt, refl, sym, ap, ◌∙◌, append_assoc, append-nil, arith, lt-ltb}
use Rattle.std.proofs.lemmas.List.{length-map, length_push}
use Rattle.doll_schema.specs.declared.model.Schema.{Schema}
use Rattle.doll_journal.specs.declared.change.Commit.{Commit}
use Rattle.doll_journal.specs.Spelling.{spelling}
use Rattle.doll_table.specs.Tables.{TableMap}
use Rattle.doll_keep.specs.Kept.{GivesItem}
use Rattle.doll_records.specs.declared.fault.OpenFault.{OpenFault}
use Rattle.doll_records.specs.declared.fault.OpenFault.TheVariants as opens
use Rattle.doll_records.specs.Histories.{IsSpelled, Holds}
use Rattle.doll_records.specs.Openings.{opened_with, opened_from, opened, OfList}
use Rattle.doll_records.specs.declared.limits.TheConstants.{MOST_COMMITS}

-- the spellings of a history stand first in a list, where it is told
abbrev pub IsFront : Option (List (List ℕ)) → List Commit → Type 0
IsFront None history = Unit {0}
IsFront (Some items) history = items ≡ map spelling history ++ drop (length history) items

-- a history is what its spellings open to, and what follows them goes on from it
pub record Replays (schema : Schema) (kept : Option (List (List ℕ))) (history : List Commit) : Type 0 where
  pub goes_on : (rest : List (List ℕ)) → opened schema (map spelling history ++ rest) ≡ opened_from schema history rest
  pub front : IsFront kept history

drop_from : {X : Type 0} (xs : List X) (i : ℕ) (x : X) → slice_get xs i ≡ Some x → drop i xs ≡ x ∷ drop (i + 1) xs
drop_from [] i x e = absurd (cc e)
drop_from (y ∷ ys) zero x e = let same : y ≡ x = cc in rw same refl
drop_from (y ∷ ys) (suc i) x e = let k : suc i + 1 ≡ suc (i + 1) = omega arith in rw k (drop_from ys i x e)

drop_past : {X : Type 0} (xs : List X) (i : ℕ) → slice_get xs i ≡ None → drop i xs ≡ []
drop_past [] zero e = refl
drop_past [] (suc i) e = refl
drop_past (y ∷ ys) zero e = absurd (cc e)
drop_past (y ∷ ys) (suc i) e = drop_past ys i e

front_none : (kept : Option (List (List ℕ))) → IsFront kept []
front_none None = tt
front_none (Some items) = refl

-- what is known of a history between two items, beside what opening comes to
pub record Midway (schema : Schema) (kept now : Option (List (List ℕ))) (before faults : ℕ) (history : List Commit) (table : TableMap) (last at : ℕ) : Type 0 where
  pub holds : Holds schema history table last
  pub index : at ≡ length history
  pub replays : Replays schema kept history
  pub same : now ≡ kept
  pub count : before ≤ faults

pub replays_none : (schema : Schema) (kept : Option (List (List ℕ))) (history : List Commit) → history ≡ [] → Replays schema kept history
replays_none schema kept history none = rw none (record { goes_on = λ rest. refl; front = front_none kept })

-- the next item goes on
pub step : (schema : Schema) (history next : List Commit) (item : List ℕ) (rest : List (List ℕ)) → length history < MOST_COMMITS → opened_with schema history item ≡ Ok next
    → opened_from schema history (item ∷ rest) ≡ opened_from schema next rest
unfolding opened_from
step schema history next item rest room is =
    let few : nat_lt (length history) MOST_COMMITS ≡ true = lt-ltb (length history) MOST_COMMITS room in
    rw (few, is) refl

pub one_more : (history next : List Commit) (item : List ℕ) → map spelling next ≡ map spelling history ++ item ∷ [] → length next ≡ length history + 1
one_more history next item more = sym (length-map next spelling) ∙ ap length more ∙ length_push (map spelling history) item ∙ ap (λ n. n + 1) (length-map history spelling)

front_more : (kept : Option (List (List ℕ))) (history next : List Commit) (item : Vec ℕ Global) → map spelling next ≡ map spelling history ++ item.items ∷ []
    → GivesItem kept (length history) (Some item) → IsFront kept history → IsFront kept next
front_more None history next item more gives front = tt
front_more (Some items) history next item more gives front =
    let count : length next ≡ length history + 1 = one_more history next item.items more in
    let split : drop (length history) items ≡ item.items ∷ drop (length history + 1) items = drop_from items (length history) item.items gives in
    rw (count, more) (front ∙ ap (λ xs. map spelling history ++ xs) split ∙ sym (append_assoc (map spelling history) (item.items ∷ []) (drop (length history + 1) items)))

pub replays_more : (schema : Schema) (kept : Option (List (List ℕ))) (history next : List Commit) (item : Vec ℕ Global) → length history < MOST_COMMITS
    → map spelling next ≡ map spelling history ++ item.items ∷ [] → opened_with schema history item.items ≡ Ok next → GivesItem kept (length history) (Some item)
    → Replays schema kept history → Replays schema kept next
replays_more schema kept history next item room more is gives replays = record {
  goes_on = λ rest. ap (λ xs. opened schema (xs ++ rest)) more ∙ ap (opened schema) (append_assoc (map spelling history) (item.items ∷ []) rest) ∙ replays.goes_on (item.items ∷ rest) ∙ step schema history next item.items rest room is;
  front = front_more kept history next item more gives replays.front;
}

-- what was loaded is the item of the history's place
pub at_place : (kept now : Option (List (List ℕ))) (history : List Commit) (index : ℕ) (loaded item : Option (Vec ℕ Global)) → now ≡ kept → index ≡ length history → loaded ≡ item → GivesItem now index loaded → GivesItem kept (length history) item
at_place kept now history index loaded item same at is gives = rw (← same, ← at, ← is) gives

-- where nothing follows, the history is that of the list
pub ends : (schema : Schema) (kept : Option (List (List ℕ))) (history : List Commit) → GivesItem kept (length history) None → Replays schema kept history
    → OfList kept (λ items. opened schema items ≡ Ok history) × IsSpelled kept history
unfolding opened_from
ends schema None history gives replays = ((map spelling history, ap (opened schema) (sym (append-nil (map spelling history))) ∙ replays.goes_on []), tt)
ends schema (Some items) history gives replays =
    let all : items ≡ map spelling history ++ [] = replays.front ∙ ap (λ xs. map spelling history ++ xs) (drop_past items (length history) gives) in
    (ap (opened schema) all ∙ replays.goes_on [], all ∙ append-nil (map spelling history))

-- where the next item has a fault, that is the list's
pub stops : (schema : Schema) (kept : Option (List (List ℕ))) (history : List Commit) (item : Vec ℕ Global) (e : OpenFault) → GivesItem kept (length history) (Some item) → Replays schema kept history
    → ((e ≡ opens.Memory → ⊥) → (rest : List (List ℕ)) → opened_from schema history (item.items ∷ rest) ≡ Err e)
    → OfList kept (λ items. (e ≡ opens.Kept → ⊥) → (e ≡ opens.Memory → ⊥) → opened schema items ≡ Err e)
stops schema None history item e gives replays fault = (map spelling history ++ item.items ∷ [], λ _ other. replays.goes_on (item.items ∷ []) ∙ fault other [])
stops schema (Some items) history item e gives replays fault =
    λ _ other. ap (opened schema) (replays.front ∙ ap (λ xs. map spelling history ++ xs) (drop_from items (length history) item.items gives)) ∙ replays.goes_on (item.items ∷ drop (length history + 1) items) ∙ fault other (drop (length history + 1) items)

-- an item that gives a fault
pub faulty : (schema : Schema) (history : List Commit) (item : List ℕ) (rest : List (List ℕ)) (e : OpenFault) → length history < MOST_COMMITS → opened_with schema history item ≡ Err e
    → opened_from schema history (item ∷ rest) ≡ Err e
unfolding opened_from
faulty schema history item rest e room is =
    let few : nat_lt (length history) MOST_COMMITS ≡ true = lt-ltb (length history) MOST_COMMITS room in
    rw (few, is) refl

-- an item too many
pub too_long : (schema : Schema) (history : List Commit) (item : List ℕ) (rest : List (List ℕ)) → length history ≡ MOST_COMMITS
    → opened_from schema history (item ∷ rest) ≡ Err (opens.TooLong MOST_COMMITS)
unfolding opened_from
too_long schema history item rest full = rw full refl

-- a fault of the keeper or of memory says nothing of the list
pub no_matter : (schema : Schema) (kept : Option (List (List ℕ))) (e : OpenFault) → ((e ≡ opens.Kept → ⊥) → (e ≡ opens.Memory → ⊥) → ⊥)
    → OfList kept (λ items. (e ≡ opens.Kept → ⊥) → (e ≡ opens.Memory → ⊥) → opened schema items ≡ Err e)
no_matter schema None e free = ([], λ a b. absurd (free a b))
no_matter schema (Some items) e free = λ a b. absurd (free a b)
