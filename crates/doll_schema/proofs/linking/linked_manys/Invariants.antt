use Rattle.std.proofs.Common.{◌≡◌, [], length, drop}
use Rattle.doll_schema.specs.Schemas.{has_many_from}
use Rattle.doll_schema.proofs.linking.linked_manys.Given as goal

-- what is looked up and what is left give the whole
abbrev pub invariant-loop-draft : goal.invariant-loop-draft
invariant-loop-draft l = record {
  so_far : has_many_from l.models l.number l.own l.manys (drop l.draft-index l.drafts) ≡ has_many_from l.models l.number l.own [] l.drafts;
  count : length l.manys ≡ l.draft-index;
}
