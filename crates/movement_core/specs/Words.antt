-- Words: what a word motion passes over, and where it stops.
use Rattle.std.specs.Prelude.{ℕ, ◌+◌, ◌-◌, ◌==◌, ◌||◌, Bool, List, [], ◌∷◌, take, drop, reverse}
use Rattle.std.specs.List.{prefix_len}
use Rattle.cluster_core.specs.Classes.{class_of, is_blank}
use Rattle.cluster_core.specs.declared.classes.Class.{Class}
use Rattle.cluster_core.specs.declared.classes.Class.TheVariants.{Feed, Blank, Punct, Other}
use Rattle.movement_core.specs.Places.{outward_left, outward_right}

-- whether a character stands between words: LF, a space, a tab or CR
abbrev pub is_between_words : ℕ → Bool
is_between_words c = c == 10 || is_blank c

-- a number for each class, so that classes can be compared
abbrev pub class_number : Class → ℕ
class_number Feed = 0
class_number Blank = 1
class_number Punct = 2
class_number Other = 3

-- whether two characters are of one class
abbrev pub is_alike : ℕ → ℕ → Bool
is_alike c other = class_number (class_of other) == class_number (class_of c)

-- how long the run of one class is at the front of the characters
abbrev pub run_len : List ℕ → ℕ
run_len [] = 0
run_len (c ∷ characters) = 1 + prefix_len (is_alike c) characters

-- HOW FAR A WORD REACHES: over what stands between words, and then over the longest run of one class
abbrev pub word_len : List ℕ → ℕ
word_len characters =
    let blanks = prefix_len is_between_words characters in
    blanks + run_len (drop blanks characters)

-- where a word motion takes a caret
abbrev pub word_left : List ℕ → ℕ → ℕ
word_left text gap = outward_left text (gap - word_len (reverse (take gap text)))

abbrev pub word_right : List ℕ → ℕ → ℕ
word_right text gap = outward_right text (gap + word_len (drop gap text))
