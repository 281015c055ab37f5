-- The lines of a storm come apart again.
use Rattle.std.proofs.Common.{◌≡◌, ℕ, zero, suc, ◌%◌, ◌≤◌, true, false, List, [], ◌∷◌, length, map, codes, refl, ap, arith}
use Rattle.std.proofs.lemmas.List.{length-map}
use Rattle.std.proofs.lemmas.Bool.Decides.{nat_tests}
use Rattle.std.specs.Prelude.{Bool, if◌then◌else◌, ◌==◌, ⊤}
use Rattle.std.specs.List.{AllByRecursion}
use Rattle.rand_core.specs.Steps.{first_words}
use Rattle.rand_core.specs.Pcg32Seed.{pcg32_seed}
use Rattle.rand_pcg.specs.Pcg.{pcg32, pcg32_of_seed}
use Rattle.storm_lines.specs.declared.line.StormLine.{StormLine}
use Rattle.storm_lines.specs.declared.line.StormLine.TheVariants.{Opening, Insert, InsertNewline, DeleteBackward, DeleteForward, MoveLeft, MoveUp, MoveRight, Undo, Redo}
use Rattle.storm_lines.specs.Lines.{drawn_words, letter_of, line_bytes, storm_line_of, storm_lines}
use Rattle.storm_lines.specs.Laws.{InputsComeApart}
use Rattle.storm_lines.proofs.WholeLemmas.{IsWhole, ended_all, lines_of-whole, passes, stays_open, unended_all}

-- ---- one line

-- what a line types is a letter, where it types one
abbrev pub TypesLetter : StormLine → Type 0
TypesLetter (Insert letter) = 97 ≤ letter
TypesLetter line = ⊤

-- so it is of one or of the other
one_of : (P : StormLine → Type 0) (test : Bool) (first other : StormLine) → P first → P other → P (if test then first else other)
one_of P true first other holds else_holds = holds
one_of P false first other holds else_holds = else_holds

types_letter : (word : ℕ) → TypesLetter (storm_line_of word)
types_letter word =
    one_of TypesLetter (word % 16 == 8) InsertNewline _ tt
    (one_of TypesLetter (word % 16 == 9) DeleteBackward _ tt
    (one_of TypesLetter (word % 16 == 10) DeleteForward _ tt
    (one_of TypesLetter (word % 16 == 11) MoveLeft _ tt
    (one_of TypesLetter (word % 16 == 12) MoveUp _ tt
    (one_of TypesLetter (word % 16 == 13) MoveRight _ tt
    (one_of TypesLetter (word % 16 == 14) Undo _ tt
    (one_of TypesLetter (word % 16 == 15) Redo (Insert (letter_of word)) tt (omega arith))))))))

no_feed : (letter : ℕ) → 97 ≤ letter → (letter == 10) ≡ false
no_feed letter high = grind (arith, nat_tests)

abbrev before_letter : List ℕ
before_letter = codes "{\"method\":\"edit\",\"params\":{\"method\":\"insert\",\"params\":{\"chars\":\""

abbrev after_letter : List ℕ
after_letter = codes "\"},\"view_id\":\"view-id-1\"}}\n"

whole_line : (line : StormLine) → TypesLetter line → IsWhole (line_bytes line)
whole_line Opening types = record { ended = refl; last = refl }
whole_line (Insert letter) types = record {
  ended = passes before_letter after_letter letter (no_feed letter types);
  last = stays_open before_letter after_letter letter (no_feed letter types);
}
whole_line InsertNewline types = record { ended = refl; last = refl }
whole_line DeleteBackward types = record { ended = refl; last = refl }
whole_line DeleteForward types = record { ended = refl; last = refl }
whole_line MoveLeft types = record { ended = refl; last = refl }
whole_line MoveUp types = record { ended = refl; last = refl }
whole_line MoveRight types = record { ended = refl; last = refl }
whole_line Undo types = record { ended = refl; last = refl }
whole_line Redo types = record { ended = refl; last = refl }

short_line : (line : StormLine) → length (line_bytes line) ≤ 100
short_line Opening = omega arith
short_line (Insert letter) = omega arith
short_line InsertNewline = omega arith
short_line DeleteBackward = omega arith
short_line DeleteForward = omega arith
short_line MoveLeft = omega arith
short_line MoveUp = omega arith
short_line MoveRight = omega arith
short_line Undo = omega arith
short_line Redo = omega arith

-- ---- all lines

each_types_letter : (words : List ℕ) → AllByRecursion TypesLetter (map storm_line_of words)
each_types_letter [] = tt
each_types_letter (word ∷ words) = (types_letter word, each_types_letter words)

each_short : (lines : List StormLine) → AllByRecursion (λ line. length (line_bytes line) ≤ 100) lines
each_short [] = tt
each_short (line ∷ lines) = (short_line line, each_short lines)

each_whole : (lines : List StormLine) → AllByRecursion TypesLetter lines → AllByRecursion IsWhole (map line_bytes lines)
each_whole [] types = tt
each_whole (line ∷ lines) types = (whole_line line types.0, each_whole lines types.1)

length-first_words : {S : Type 0} (step : S → ℕ × S) (count : ℕ) (state : S) → length (first_words step count state) ≡ count
unfolding first_words
length-first_words step zero state = refl
length-first_words step (suc count) state = ap suc (length-first_words step count (step state).1)

pub inputs_come_apart : InputsComeApart
inputs_come_apart count seed =
    let lines = storm_lines count seed in
    let whole : AllByRecursion IsWhole (map line_bytes lines) = each_whole lines (tt, each_types_letter (drawn_words count seed)) in
    record {
      lines = lines_of-whole (map line_bytes lines) whole;
      ended = ended_all (map line_bytes lines) whole;
      last = unended_all (map line_bytes lines) whole;
      short = each_short lines;
      many =
          omega (arith, length-map (drawn_words count seed) storm_line_of, length-first_words pcg32 count (pcg32_of_seed (pcg32_seed 16 seed)));
    }
