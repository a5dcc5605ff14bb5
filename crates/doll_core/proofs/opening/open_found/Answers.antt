use Rattle.std.proofs.Common.{◌∙◌}
use Rattle.doll_core.proofs.Beginning.{begun_by}
use Rattle.doll_core.proofs.opening.open_found.Goals as goal

pub returns : goal.returns
returns c =
    record {
      exact = begun_by c.args.world.now c.args.snapshot c.requires.now c.args.target c.args.found.now c.args.params
          c.get-checked.result.now c.args.routes.now c.new-rows.result.table.now
          (c.get-checked.ensures ∙ c.checked.ensures.value) c.requires.routes (c.new-rows.ensures.table ∙ c.get.ensures) c.requires.found c.requires.params
          c.checked.ensures.world.site c.requires.are c.in_ok-started.started c.in-Some.job c.in-Some.is c.in_ok-started.ensures.opens c.in_ok-started.ensures.lives
          c.looks_of-charged.result c.looks_of-charged.ensures;
    }
