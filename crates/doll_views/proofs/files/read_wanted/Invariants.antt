use Rattle.std.proofs.Common.{◌≡◌, ◌++◌, take}
use Rattle.doll_base.specs.Faults.{KeepsCount}
use Rattle.doll_views.specs.Files.{wanted_names}
use Rattle.doll_views.proofs.Readings.{ReadSoFar}
use Rattle.doll_views.proofs.files.read_wanted.Given as goal

-- so many files were asked for, and read
abbrev pub invariant-loop-file : goal.invariant-loop-file
invariant-loop-file g l = record {
  so_far : ReadSoFar (g.F.Folder.files l.fn.folder) l.files l.wanted l.read.items l.file-index;
  asked : g.F.Folder.asked l.folder ≡ g.F.Folder.asked l.fn.folder ++ take l.file-index (wanted_names l.wanted);
  kept : g.F.Folder.files l.folder ≡ g.F.Folder.files l.fn.folder;
  count : KeepsCount (g.F.Folder.faults l.fn.folder) (g.F.Folder.faults l.folder);
}
