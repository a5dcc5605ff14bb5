-- Sound fragments stay sound, and are what pages are shown.
use Rattle.std.proofs.Common.{◌≡◌, ◌<◌, ◌≤◌, ℕ, zero, suc, List, [], ◌∷◌, ◌++◌, length, map, take, inl, inr, refl, sym, ap, subst, ◌∙◌, arith, length-append}
use Rattle.std.specs.List.{Contains, slice_index_or}
use Rattle.std.proofs.lemmas.List.{map-append, take-append-le, length-map}
use Rattle.std.proofs.lemmas.List.Elements.{Contains-append_left}
use Rattle.doll_schema.specs.Models.{ModelList}
use Rattle.doll_journal.specs.declared.change.Commit.{Commit}
use Rattle.doll_records.specs.Histories.{IsHistory, last_moment, made_on, moment_at, table_at, table_up_to}
use Rattle.doll_records.proofs.Places.{moments_tell_places}
use Rattle.doll_table.specs.Tables.{empty_table}
use Rattle.doll_sound.specs.Entries.{IsOrigin, ShownIsSound, SoundIsShown, SoundStays}
use Rattle.doll_sound.proofs.Fragments.{same_bytes}

-- ---- origins

-- the last moment of the first commits is that of the last of these
last_at : (before : ℕ) (history : List Commit) (k d : ℕ) → k < length history → last_moment before (take (suc k) history) ≡ slice_index_or (map (λ (c : Commit). c.moment) history) k d
unfolding last_moment
last_at before [] k d within = absurd (omega arith)
last_at before (c ∷ history) zero d within = refl
last_at before (c ∷ history) (suc k) d within = last_at c.moment history k d (omega (arith, within))

none_before : (history : List Commit) → moment_at history 0 ≡ 0
unfolding last_moment
none_before history = refl

-- an origin is the moment of a place
origin_place : (history : List Commit) (origin : ℕ) → IsOrigin history origin → (place : ℕ) × (place ≤ length history) × (moment_at history place ≡ origin)
origin_place history origin (inl none) = (0, omega arith, none_before history ∙ sym none)
origin_place history origin (inr among) =
    let within : among.0 < length history = omega (arith, among.1, length-map history (λ (c : Commit). c.moment)) in
    (suc among.0, within, last_at 0 history among.0 origin within ∙ among.2)

-- the table up to an origin is that at its place
table_there : (schema : ModelList) (history : List Commit) (origin place : ℕ) → IsHistory schema history → place ≤ length history → moment_at history place ≡ origin
    → table_up_to schema history origin ≡ table_at schema history place
table_there schema history origin place is within at =
    subst (λ o. table_up_to schema history o ≡ table_at schema history place) at (moments_tell_places schema history place is within).1

-- the moment of a place is an origin
place_origin : (history : List Commit) (place origin : ℕ) → place ≤ length history → origin ≡ moment_at history place → IsOrigin history origin
place_origin history zero origin within at = inl (at ∙ none_before history)
place_origin history (suc k) origin within at =
    inr (k, omega (arith, within, length-map history (λ (c : Commit). c.moment)), sym (last_at 0 history k origin (omega (arith, within))) ∙ sym at)

pub shown_is_sound : ShownIsSound
shown_is_sound set schema routes history place table block fresh is within at shown from = record {
  origin = place_origin history place fresh.origin within from;
  table = table;
  table_is = table_there schema history fresh.origin place is within (sym from) ∙ at;
  block = block;
  shown = shown;
}

-- ---- histories that grow

origin_stays : (history more : List Commit) (origin : ℕ) → IsOrigin history origin → IsOrigin (history ++ more) origin
origin_stays history more origin (inl none) = inl none
origin_stays history more origin (inr among) =
    let moment = λ (c : Commit). c.moment in
    inr (subst (λ moments. Contains moments origin) (sym (map-append moment history more)) (Contains-append_left (map moment history) (map moment more) origin among))

table_stays : (schema : ModelList) (history more : List Commit) (origin : ℕ) → IsHistory schema history → IsHistory schema (history ++ more) → IsOrigin history origin
    → table_up_to schema (history ++ more) origin ≡ table_up_to schema history origin
table_stays schema history more origin is longer from =
    let place = origin_place history origin from in
    let same : take place.0 (history ++ more) ≡ take place.0 history = take-append-le place.0 history more place.1 in
    let within : place.0 ≤ length (history ++ more) = omega (arith, place.1, length-append history more) in
    table_there schema (history ++ more) origin place.0 longer within (ap (last_moment 0) same ∙ place.2)
    ∙ ap (made_on schema (empty_table schema)) same
    ∙ sym (table_there schema history origin place.0 is place.1 place.2)

pub sound_stays : SoundStays
sound_stays set schema routes history more fresh is longer sound = record {
  origin = origin_stays history more fresh.origin sound.origin;
  table = sound.table;
  table_is = table_stays schema history more fresh.origin is longer sound.origin ∙ sound.table_is;
  block = sound.block;
  shown = sound.shown;
}

-- ---- what is shown

pub sound_is_shown : SoundIsShown
sound_is_shown set schema routes history fresh site is sound place table block vars asks =
    let from = origin_place history fresh.origin sound.origin in
    let there = table_there schema history fresh.origin from.0 is from.1 from.2 in
    same_bytes set schema routes history site is place from.0 table sound.table block sound.block vars fresh.vars fresh.key fresh.versions asks
    (record { within = from.1; table_is = sym there ∙ sound.table_is; reached = sound.shown.reached; key = sound.shown.key })
    ∙ sound.shown.value
