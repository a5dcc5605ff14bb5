use Rattle.std.proofs.Common.{◌≡◌}
use Rattle.form_urlencoded.specs.Parse.{pairs_left}
use Rattle.doll_route.specs.Queries.{first_value, param_value}
use Rattle.doll_route.proofs.query.param_value.Given as goal

-- what is left decides
abbrev pub invariant-loop-pair : goal.invariant-loop-pair
invariant-loop-pair l = first_value l.name (pairs_left l.pair-iterator) ≡ param_value l.query l.name
