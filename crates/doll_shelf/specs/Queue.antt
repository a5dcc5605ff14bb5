-- What a map that orders its pairs by their age has (this project's own).
use Rattle.std.specs.Prelude.{◌≡◌, ◌-◌, ◌^◌, ℕ, List, [], reverse, Option, Some, None, ⊤}
use Rattle.lru.specs.LruCache.{LruCache}
use Rattle.doll_shelf.specs.declared.kept.Kept.{Kept}

-- the pairs of a map that has the newest first, from the oldest on; none where there is no map yet
abbrev pub queued : Option (LruCache (List ℕ) Kept) → List (List ℕ × Kept)
queued None = []
queued (Some map) = reverse map.entries

-- The map never pushes a pair out.
abbrev pub IsEndless : Option (LruCache (List ℕ) Kept) → Type 0
IsEndless None = ⊤
IsEndless (Some map) = map.cap ≡ 2 ^ 64 - 1

-- a value whose expiry is moved
abbrev pub kept_until : ℕ → Kept → Kept
kept_until expiry kept = record {
  versions = kept.versions;
  value = kept.value;
  vars = kept.vars;
  block = kept.block;
  origin = kept.origin;
  written_at = kept.written_at;
  expires_at = Some expiry;
}
