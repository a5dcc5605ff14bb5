-- A route as its JSON has it: what it is about is still a name (this project's own).
use Rattle.std.specs.Prelude.{ℕ, List, [], ◌∷◌, ◌++◌, Bool, true, false, Option, Some, None, option_and_then, option_map, Result, Ok, codes, if◌then◌else◌}
use Rattle.std.specs.Option.{ok_or}
use Rattle.serde_json.specs.Data.{Data, Items, no_items, item}
use Rattle.serde_json.specs.Find.{as_str, get}
use Rattle.doll_text.specs.Names.{is_name}
use Rattle.doll_text.specs.Segments.{is_virtual_path}
use Rattle.doll_text.specs.Steps.{◌>>=◌, ◌>>◌, check}
use Rattle.doll_schema.specs.Json.{has_only, list_or_empty, text_at}
use Rattle.doll_route.specs.declared.draft.Named.{Named}
use Rattle.doll_route.specs.declared.draft.Named.TheVariants as named
use Rattle.doll_route.specs.declared.draft.RouteDraft.{RouteDraft}
use Rattle.doll_route.specs.declared.fault.RouteFault.{RouteFault}
use Rattle.doll_route.specs.declared.fault.RouteFault.TheVariants.{BadForm}

abbrev pub route_keys : List (List ℕ)
route_keys = codes "path" ∷ codes "template" ∷ codes "record" ∷ codes "list" ∷ codes "params" ∷ []

-- the virtual path under a key
abbrev pub virtual_path_at : List ℕ → Data → Option (List ℕ)
virtual_path_at key d = option_and_then (λ text. if is_virtual_path text then Some text else None) (text_at key d)

-- a record or a list, named by its model, but not both; null is neither
abbrev pub named_by : Option Data → Option Data → Option Named
named_by None None = Some named.Nothing
named_by (Some d) None = option_map named.Record (as_str d)
named_by None (Some d) = option_map named.List (as_str d)
named_by (Some d) (Some e) = None

abbrev pub named_at : Data → Option Named
named_at d = named_by (get (codes "record") d) (get (codes "list") d)

-- the name that a value is
abbrev pub name_in : Data → Option (List ℕ)
name_in d = option_and_then (λ text. if is_name text then Some text else None) (as_str d)

-- the names, each behind those before it
abbrev pub names_from : ℕ → List (List ℕ) → Items → Result (List (List ℕ)) RouteFault
names_from at earlier no_items = Ok earlier
names_from at earlier (item d ds) = do
  name ← ok_or (name_in d) (BadForm at)
  names_from at (earlier ++ name ∷ []) ds

abbrev pub names_at : ℕ → Data → Result (List (List ℕ)) RouteFault
names_at at d = do
  items ← ok_or (list_or_empty (codes "params") d) (BadForm at)
  names_from at [] items

-- the draft with a number, where it keeps the form of a route
abbrev pub draft_of : ℕ → Data → Result RouteDraft RouteFault
draft_of at d = do
  check (has_only route_keys d) (BadForm at)
  path ← ok_or (text_at (codes "path") d) (BadForm at)
  template ← ok_or (virtual_path_at (codes "template") d) (BadForm at)
  about ← ok_or (named_at d) (BadForm at)
  params ← names_at at d
  Ok (record { path = path; template = template; named = about; params = params })

-- whether a record is named
abbrev pub names_record : Named → Bool
names_record (named.Record name) = true
names_record (named.List name) = false
names_record named.Nothing = false
