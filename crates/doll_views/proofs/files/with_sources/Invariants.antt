use Rattle.std.proofs.Common.{◌≡◌, map, take}
use Rattle.doll_views.specs.Files.{with_source}
use Rattle.doll_views.proofs.files.with_sources.Given as goal

-- those so far
abbrev pub invariant-loop-file : goal.invariant-loop-file
invariant-loop-file l = l.all.items ≡ map (with_source l.read) (take l.file-index l.files)
