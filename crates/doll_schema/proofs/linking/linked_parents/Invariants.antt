use Rattle.std.proofs.Common.{◌≡◌, [], length, drop}
use Rattle.doll_schema.specs.Schemas.{belongs_to_from}
use Rattle.doll_schema.proofs.linking.linked_parents.Given as goal

-- what is looked up and what is left give the whole
abbrev pub invariant-loop-draft : goal.invariant-loop-draft
invariant-loop-draft l = record {
  so_far : belongs_to_from l.models l.number l.parents (drop l.draft-index l.drafts) ≡ belongs_to_from l.models l.number [] l.drafts;
  count : length l.parents ≡ l.draft-index;
}
