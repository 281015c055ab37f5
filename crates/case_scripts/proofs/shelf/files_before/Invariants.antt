use Rattle.std.proofs.Common.{◌≡◌, drop}
use Rattle.std.specs.List.{fold}
use Rattle.case_scripts.specs.Shelf.{files_before, with_first}
use Rattle.case_scripts.proofs.shelf.files_before.Given as goal

-- the shelf so far, with the rest of the files
abbrev pub invariant-loop-file : goal.invariant-loop-file
invariant-loop-file l = fold with_first l.shelf (drop l.file-index l.files) ≡ files_before l.files
