use Rattle.doll_core_tests.proofs.site.site_of.Goals as goal

pub checked-requires-clause-named : goal.checked-requires-clause-named
checked-requires-clause-named c = c.in_ok-schema.ensures.names

pub checked-requires-clause-distinct : goal.checked-requires-clause-distinct
checked-requires-clause-distinct c = c.in_ok-schema.ensures.plurals
