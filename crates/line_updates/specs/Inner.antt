-- What private functions say: an update in the making.
use Rattle.std.specs.Prelude.{ℕ, List, [], ◌∷◌, take, drop, Option, None, slice_get}
use Rattle.std.specs.Option.{option_to_list}
use Rattle.plain_screen.specs.declared.piece.Piece.{Piece}
use Rattle.plain_screen.specs.declared.screen.Line.{Line}
use Rattle.plain_screen.specs.Plan.{or_number}
use Rattle.line_cache.specs.declared.step.Step.{Step}
use Rattle.line_cache.specs.declared.step.Step.TheVariants.{Keep, Restyle, Send, Drop}

-- the number of the first of some pieces that has one
abbrev pub number_in : List Piece → Option ℕ
number_in [] = None
number_in (piece ∷ pieces) = or_number piece.ln (number_in pieces)

-- that of the piece with an index, if it is there and has one
abbrev pub number_at : List Piece → ℕ → Option ℕ
number_at pieces index = number_in (option_to_list (slice_get pieces index))

-- of pieces the first ones are those of a step: the number that is told of it
abbrev pub number_told : Step → List Piece → List (Option ℕ)
number_told (Keep old n) pieces = number_in (take n pieces) ∷ []
number_told (Restyle old n) pieces = number_in (take n pieces) ∷ []
number_told (Send first n) pieces = []
number_told (Drop n) pieces = []

-- the numbers that are told of a plan
abbrev pub numbers_told : List Step → List Piece → List (Option ℕ)
numbers_told [] pieces = []
numbers_told (Keep old n ∷ plan) pieces = number_in (take n pieces) ∷ numbers_told plan (drop n pieces)
numbers_told (Restyle old n ∷ plan) pieces = number_in (take n pieces) ∷ numbers_told plan (drop n pieces)
numbers_told (Send first n ∷ plan) pieces = numbers_told plan (drop n pieces)
numbers_told (Drop n ∷ plan) pieces = numbers_told plan (drop n pieces)

-- of lines the first ones are those of a step: those that are told of it
abbrev pub told_in : Step → List Line → List Line
told_in (Keep old n) lines = []
told_in (Restyle old n) lines = take n lines
told_in (Send first n) lines = take n lines
told_in (Drop n) lines = []
