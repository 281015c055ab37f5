-- How the lines of a layout stand, without the lines.
use Rattle.std.specs.Prelude.{ℕ, ◌+◌, Bool, List, [], ◌∷◌, Option}
use Rattle.plain_text.specs.declared.run.Run.{Run}
use Rattle.plain_screen.specs.Plan.{Standing, standing}

-- the standings of lines, of which the first has this index and each has its partner, if any
abbrev pub standings : Run → Run → ℕ → List (Option (ℕ × Bool)) → List Standing
standings window request index [] = []
standings window request index (partner ∷ partners) =
    standing window request index partner ∷ standings window request (index + 1) partners
