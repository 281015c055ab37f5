-- The matches of some characters in a text, as contracts see them.
use Rattle.std.specs.Prelude.{ℕ, Bool, nat_le, nat_lt, ◌&&◌, ◌==◌, if◌then◌else◌, List, [], ◌∷◌, Option, None}
use Rattle.std.specs.List.{filter, find, last_or}
use Rattle.plain_text.specs.declared.run.Run.{Run}
use Rattle.find_core.specs.Matches.{matches_of}

-- WHAT IS LOOKED FOR, AND WHERE: a text, some characters, and whether ASCII letters are equal in both cases
pub record Found : Type 0 where
  pub text : List ℕ
  pub chars : List ℕ
  pub fold : Bool

-- its matches, in order
abbrev pub runs_in : Found → List Run
runs_in found = matches_of found.text found.chars found.fold

-- the first of some runs that starts not before a gap, and the last that ends not after one
abbrev pub first_from : ℕ → List Run → Option Run
first_from gap runs = find (λ run. nat_le gap run.start) runs

abbrev pub last_to : ℕ → List Run → Option Run
last_to gap runs = last_or None (filter (λ run. nat_le run.end gap) runs)

-- whether two runs have a character in common
abbrev pub shares : Run → Run → Bool
shares run other = nat_lt run.start other.end && nat_lt other.start run.end

-- runs in order, where each that starts at the end of the one before is one with it
abbrev pub joined_onto : Run → List Run → List Run
joined_onto run [] = run ∷ []
joined_onto run (next ∷ runs) =
    if run.end == next.start
    then joined_onto (record { start = run.start; end = next.end }) runs
    else run ∷ joined_onto next runs

abbrev pub joined : List Run → List Run
joined [] = []
joined (run ∷ runs) = joined_onto run runs

-- THE RUNS THAT TOUCH A RUN: those that have a character of it, joined where one starts at the end of another
abbrev pub touching : Run → List Run → List Run
touching run runs = joined (filter (shares run) runs)
