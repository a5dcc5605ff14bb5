use Rattle.doll_route.proofs.Kept.{only-one}
use Rattle.doll_route.proofs.routes.Routes.find.Goals as goal

pub returns-clause-only : goal.returns-clause-only
returns-clause-only c = rw c.found.ensures.exact (only-one c.args.self.now c.args.path.now c.candidate.result c.candidate.ensures)
