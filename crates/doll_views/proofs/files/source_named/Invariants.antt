use Rattle.std.proofs.Common.{◌≡◌, length}
use Rattle.doll_base.specs.Folders.{file_named, named_files}
use Rattle.doll_views.proofs.files.source_named.Given as goal

-- the files passed have other names
abbrev pub invariant-loop-rest : goal.invariant-loop-rest
invariant-loop-rest l = file_named l.name (named_files l.rest) ≡ file_named l.name (named_files l.read)

abbrev pub decreases-loop-rest : goal.decreases-loop-rest
decreases-loop-rest l = length l.rest
