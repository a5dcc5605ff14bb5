use Rattle.std.proofs.Common.{◌≡◌, map}
use Rattle.serde_json.specs.View.{members_view, view}
use Rattle.doll_schema.specs.Json.{has_only, members_within}
use Rattle.doll_schema.proofs.json.has_only.Given as goal

-- what is left decides
abbrev pub invariant-loop-key : goal.invariant-loop-key
invariant-loop-key l = members_within (map (λ k. k.now) l.keys) (members_view l.key-iterator) ≡ has_only (map (λ k. k.now) l.keys) (view l.json)
