-- The files after a run.
use Rattle.std.specs.Prelude.{◌≡◌, ℕ, ◌&&◌, Bool, true, not, if◌then◌else◌, List, length, Option, Some, None}
use Rattle.std.specs.List.{AllByRecursion, filter}
use Rattle.outside.specs.Shelf.{bytes_of}
use Rattle.case_scripts.specs.declared.shelf.FileSaid.{FileSaid}
use Rattle.case_scripts.specs.declared.shelf.When.TheVariants.{After}
use Rattle.case_scripts.specs.Shelf.{Files, is_before, is_named, may_hold}

-- what a file holds before the run counts after it too, where nothing is said of it then
abbrev pub counts : List FileSaid → FileSaid → Bool
counts said file = not (is_before file.when && is_named said After file.path)

-- what is to be found there
abbrev pub end_of : FileSaid → Option (List ℕ)
end_of file = if may_hold file.when then Some file.bytes else None

-- how many files there are to be
abbrev pub count_after : List FileSaid → List FileSaid → ℕ
count_after said files = length (filter (λ file. counts said file && may_hold file.when) files)

-- a file that counts is found so
abbrev pub IsAsSaid : List FileSaid → Files → FileSaid → Type 0
IsAsSaid said files file = counts said file ≡ true → bytes_of files file.path ≡ end_of file

-- THE FILES AFTER THE RUN are those that are said: each of these is as said, and there are no others
pub record AreAsSaid (said : List FileSaid) (files : Files) : Type 0 where
  pub each : AllByRecursion (IsAsSaid said files) said
  pub count : length files ≡ count_after said said
