use Rattle.md5.specs.Md5.{md5}
use Rattle.doll_core_tests.proofs.Sites.{read_has_paths}
use Rattle.doll_core_tests.proofs.site.set_of.Goals as goal

pub returns : goal.returns
returns c = read_has_paths _ _ c.read.result c.read.ensures.answer (λ set is. c.sets_have_paths.ensures md5 c.new-registry.result c.args.files.now set c.md5_gives_digests.ensures is)
