use Rattle.doll_set.specs.Dependencies.{all_links, links_of, names_of}
use Rattle.doll_set.proofs.Closed.{all_closed, links_of_each}
use Rattle.doll_set.proofs.Making.{all_made}
use Rattle.doll_set.proofs.dependencies.all_links.Goals as goal

pub returns-clause-closed : goal.returns-clause-closed
returns-clause-closed c =
    let templates = c.args.templates.now in
    let whole = all_made (links_of (names_of templates)) templates c.loop-template.template-index c.loop-template.links (all_links templates templates) c.loop-template-test.false c.loop-template.invariant in
    all_closed templates templates c.loop-template.links whole

pub returns-clause-each : goal.returns-clause-each
returns-clause-each c =
    let templates = c.args.templates.now in
    let whole = all_made (links_of (names_of templates)) templates c.loop-template.template-index c.loop-template.links (all_links templates templates) c.loop-template-test.false c.loop-template.invariant in
    links_of_each templates templates c.loop-template.links whole
