-- How a table in memory keeps the children of each record: a set of ids for each parent at each place (this project's own).
use Rattle.std.specs.Prelude.{ℕ, ◌≡◌, Bool, true, false, not, ◌&&◌, ◌||◌, ◌==◌, List, Option, Some, if◌then◌else◌}
use Rattle.std.specs.List.{list_any}
use Rattle.std.specs.Option.{option_map, option_map_or}
use Rattle.std.specs.Ordering.{nat_cmp}
use Rattle.std.specs.FinMap as finite
use Rattle.doll_schema.specs.declared.value.Row.{Row}
use Rattle.doll_pages.specs.Maps.{under}
use Rattle.doll_table.specs.Ids.{IdSet, with_id, without_id, has_id}
use Rattle.doll_table.specs.Tables.{names_parent}

-- for each place among the foreign keys of a model's rows, the children of each parent by its id
abbrev pub LinkMaps : Type 0
LinkMaps = List (Option (finite.FinMap nat_cmp IdSet))

-- the children of a parent at a place
abbrev pub linked : LinkMaps → ℕ → ℕ → IdSet
linked links place parent = option_map_or (λ ids. ids) (under finite.get links (place, parent)) finite.empty

-- the children with one more
abbrev pub more_linked : ℕ → Option IdSet → Option IdSet
more_linked id ids = Some (with_id (option_map_or (λ set. set) ids finite.empty) id)

-- the children without one
abbrev pub less_linked : ℕ → Option IdSet → Option IdSet
less_linked id ids = option_map (λ set. without_id set id) ids

-- the ids under which rows live
abbrev pub living_ids : finite.FinMap nat_cmp Row → IdSet → IdSet
living_ids rows ids = finite.retain_keys ids (finite.contains_key rows)

-- the children, of which those that live stay alone if a child is among them
abbrev pub living_linked : finite.FinMap nat_cmp Row → ℕ → Option IdSet → Option IdSet
living_linked rows id ids = option_map (λ set. if has_id set id then living_ids rows set else set) ids

-- whether a row, where it lives, names a parent at a place
abbrev pub has_link : ℕ → ℕ → Option Row → Bool
has_link place parent row = option_map_or (names_parent place parent) row false

-- the links with those of a row
abbrev pub HasMore : LinkMaps → LinkMaps → Row → ℕ → Type 0
HasMore links more row id = (place parent child : ℕ) → has_id (linked more place parent) child ≡ (has_id (linked links place parent) child || (child == id && names_parent place parent row))

-- the links without those of a row
abbrev pub HasLess : LinkMaps → LinkMaps → Row → ℕ → Type 0
HasLess links less row id = (place parent child : ℕ) → has_id (linked less place parent) child ≡ (has_id (linked links place parent) child && not (child == id && names_parent place parent row))

-- the links of rows that live stay, and none comes
pub record HasFewer (rows : finite.FinMap nat_cmp Row) (links fewer : LinkMaps) : Type 0 where
  pub stays : (place parent child : ℕ) → finite.contains_key rows child ≡ true → has_id (linked fewer place parent) child ≡ has_id (linked links place parent) child
  pub none : (place parent child : ℕ) → has_id (linked links place parent) child ≡ false → has_id (linked fewer place parent) child ≡ false

-- none of a row's links is there
abbrev pub HasNone : LinkMaps → Row → ℕ → Type 0
HasNone links row id = (place parent : ℕ) → names_parent place parent row ≡ true → has_id (linked links place parent) id ≡ false

-- none of the links of the rows under these ids is there
abbrev pub HaveNone : finite.FinMap nat_cmp Row → LinkMaps → List ℕ → Type 0
HaveNone rows links ids = (id place parent : ℕ) → list_any (λ one. one == id) ids ≡ true → has_link place parent (finite.get rows id) ≡ true → has_id (linked links place parent) id ≡ false

-- a model's ids and its rows' links are those of its rows
pub record AreKept (rows : finite.FinMap nat_cmp Row) (ids : IdSet) (links : LinkMaps) : Type 0 where
  pub living : (id : ℕ) → has_id ids id ≡ finite.contains_key rows id
  pub named : (place parent id : ℕ) → has_id (linked links place parent) id ≡ has_link place parent (finite.get rows id)
