-- The parts of an edit that replaces runs.
use Rattle.std.specs.Prelude.{ℕ, List, [], ◌∷◌, ◌++◌, map}
use Rattle.plain_text.specs.declared.run.Run.{Run}
use Rattle.plain_edits.specs.declared.delta.Added.{Added}
use Rattle.regex_find.specs.Spots.{run_between}

-- what stands between the runs, before the first and behind the last, as runs, from a gap up to the text's end
abbrev pub rest_from : ℕ → ℕ → List Run → List Run
rest_from len at [] = run_between at len
rest_from len at (run ∷ runs) = run_between at run.start ++ rest_from len run.end runs

-- the text at the start of each run
abbrev pub at_starts : List ℕ → List Run → List Added
at_starts [] runs = []
at_starts (c ∷ new) runs = map (λ run. record { gap = run.start; text = c ∷ new }) runs
