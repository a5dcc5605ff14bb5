-- What stands under the keys of a JSON object.
use Rattle.std.specs.Prelude.{ℕ, ◌&&◌, Bool, true, false, List, Option, Some, None, option_and_then}
use Rattle.std.specs.List.{list_any}
use Rattle.std.specs.Str.{bytes_eq}
use Rattle.serde_json.specs.Data.{Data, null, boolean, number, string, array, object, Items, no_items, Members, no_members, member}
use Rattle.serde_json.specs.Find.{get, as_array, as_bool, as_number, as_object, as_str, as_u64}

-- each key is among these
abbrev pub members_within : List (List ℕ) → Members → Bool
members_within keys no_members = true
members_within keys (member k d ms) = list_any (bytes_eq k) keys && members_within keys ms

-- an object with no other keys than these
abbrev pub has_only : List (List ℕ) → Data → Bool
has_only keys null = false
has_only keys (boolean b) = false
has_only keys (number n) = false
has_only keys (string s) = false
has_only keys (array ds) = false
has_only keys (object ms) = members_within keys ms

-- the text under a key
abbrev pub text_at : List ℕ → Data → Option (List ℕ)
text_at key d = option_and_then as_str (get key d)

-- the array under a key
abbrev pub list_at : List ℕ → Data → Option Items
list_at key d = option_and_then as_array (get key d)

-- the object under a key
abbrev pub object_at : List ℕ → Data → Option Members
object_at key d = option_and_then as_object (get key d)

-- the whole number under a key, from 0 to 2^64 - 1
abbrev pub whole_at : List ℕ → Data → Option ℕ
whole_at key d = option_and_then as_u64 (option_and_then as_number (get key d))

-- the array, none of whose items is there where there is no such key; null is no array
abbrev pub list_if_given : Option Data → Option Items
list_if_given None = Some no_items
list_if_given (Some d) = as_array d

-- the array under a key that may be left out
abbrev pub list_or_empty : List ℕ → Data → Option Items
list_or_empty key d = list_if_given (get key d)

-- the truth value, or this one where there is no such key; null is no truth value
abbrev pub bool_if_given : Bool → Option Data → Option Bool
bool_if_given otherwise None = Some otherwise
bool_if_given otherwise (Some d) = as_bool d

-- the truth value under a key that may be left out
abbrev pub bool_or : List ℕ → Bool → Data → Option Bool
bool_or key otherwise d = bool_if_given otherwise (get key d)
