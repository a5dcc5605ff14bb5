use Rattle.std.proofs.Common.{◌≡◌, [], length, drop, All}
use Rattle.doll_schema.specs.Limits.{HasFewParts}
use Rattle.doll_schema.specs.Schemas.{linked_from}
use Rattle.doll_schema.proofs.linking.linked.Given as goal

-- what is looked up and what is left give the whole
abbrev pub invariant-loop-number : goal.invariant-loop-number
invariant-loop-number l = record {
  so_far : linked_from l.drafts l.models (drop l.number l.drafts) ≡ linked_from l.drafts [] l.drafts;
  count : length l.models ≡ l.number;
  few : All HasFewParts l.models;
}
