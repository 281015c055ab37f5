-- Runs and additions that are found from left to right, in canonical form: neighbours are one, and empty ones are left out.
use Rattle.std.specs.Prelude.{ℕ, if◌then◌else◌, nat_lt, ◌==◌, List, [], ◌∷◌, ◌++◌}
use Rattle.plain_text.specs.declared.run.Run.{Run}
use Rattle.plain_edits.specs.declared.delta.Added.{Added}

-- a run in front of others, unless it is empty
abbrev pub with_run : ℕ → ℕ → List Run → List Run
with_run from to runs = if nat_lt from to then record { start = from; end = to } ∷ runs else runs

-- the run from one gap to another, and then others, of which each is one with the run before it where that ends there
abbrev pub joined_runs : ℕ → ℕ → List Run → List Run
joined_runs from to [] = with_run from to []
joined_runs from to (run ∷ runs) = if nat_lt to run.start then with_run from to (joined_runs run.start run.end runs) else joined_runs from run.end runs

-- a text at a gap in front of others, unless it is empty
abbrev pub with_text : ℕ → List ℕ → List Added → List Added
with_text gap [] adds = adds
with_text gap (c ∷ text) adds = record { gap = gap; text = c ∷ text } ∷ adds

-- the text at a gap, and then others, of which each is one with the text before it where that stands at its gap
abbrev pub joined_adds : ℕ → List ℕ → List Added → List Added
joined_adds gap text [] = with_text gap text []
joined_adds gap text (added ∷ adds) =
    if added.gap == gap then joined_adds gap (text ++ added.text) adds else with_text gap text (joined_adds added.gap added.text adds)
