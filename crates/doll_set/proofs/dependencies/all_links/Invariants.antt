use Rattle.std.proofs.Common.{◌≡◌, drop}
use Rattle.doll_set.specs.Dependencies.{all_links, links_of, names_of}
use Rattle.doll_set.proofs.Making.{made_with}
use Rattle.doll_set.proofs.dependencies.all_links.Given as goal

-- the links so far and those of the templates left are those of all
abbrev pub invariant-loop-template : goal.invariant-loop-template
invariant-loop-template l = made_with (links_of (names_of l.templates)) l.links (drop l.template-index l.templates) ≡ all_links l.templates l.templates
