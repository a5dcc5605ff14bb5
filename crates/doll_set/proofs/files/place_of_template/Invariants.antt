use Rattle.std.proofs.Common.{◌≡◌, ◌+◌, drop}
use Rattle.std.specs.List.{prefix_len}
use Rattle.doll_set.specs.Order.{isnt_above}
use Rattle.doll_set.proofs.files.place_of_template.Given as goal

-- those so far aren't above
abbrev pub invariant-loop-template : goal.invariant-loop-template
invariant-loop-template l = record {
  place : l.at + prefix_len (λ t. isnt_above t.name l.name) (drop l.template-index l.templates) ≡ prefix_len (λ t. isnt_above t.name l.name) l.templates;
  at : l.at ≡ l.template-index;
}
