-- What the words of the program ask.
use Rattle.std.specs.Prelude.{ℕ, Bool, List, [], ◌∷◌, codes, Option, Some, None, option_map, option_and_then, if◌then◌else◌}
use Rattle.std.specs.Str.{bytes_eq, encode_utf8_all}
use Rattle.case_lines.specs.Number.{positive_of}
use Rattle.session_load.specs.declared.words.Size.{Size}
use Rattle.session_load.specs.declared.words.Size.TheVariants.{Lines, Line}

-- WHAT IS ASKED: the text's size, and at least one script
pub record Wish : Type 0 where
  pub size : Size
  pub scripts : List (List ℕ)

-- a word is this name
abbrev pub is_named : List ℕ → List ℕ → Bool
is_named word name = bytes_eq (encode_utf8_all word) name

-- the number above 0 that a word writes
abbrev pub number_in : List ℕ → Option ℕ
number_in word = positive_of (encode_utf8_all word)

-- of this size, where there is a script
abbrev pub wish_of : Option Size → List (List ℕ) → Option Wish
wish_of size [] = None
wish_of size (script ∷ scripts) = option_map (λ size. record { size = size; scripts = script ∷ scripts }) size

-- so many lines of so many characters
abbrev pub lines_of : Option ℕ → Option ℕ → Option Size
lines_of (Some count) (Some len) = Some (Lines count len)
lines_of count len = None

-- the words `N of M SCRIPT..`, and `of N SCRIPT..`
abbrev pub after_lines : List (List ℕ) → Option Wish
after_lines (count ∷ of ∷ len ∷ scripts) =
    if is_named of (codes "of") then wish_of (lines_of (number_in count) (number_in len)) scripts else None
after_lines words = None

abbrev pub after_line : List (List ℕ) → Option Wish
after_line (of ∷ len ∷ scripts) = if is_named of (codes "of") then wish_of (option_map Line (number_in len)) scripts else None
after_line words = None

-- THE WISH of some words, where they are a form
abbrev pub wish_in : List (List ℕ) → Option Wish
wish_in [] = None
wish_in (form ∷ words) =
    if is_named form (codes "lines") then after_lines words else if is_named form (codes "line") then after_line words else None

-- the status of the program where nothing fails: 0, or 2 where the words are no form
abbrev pub status_for : Option Wish → ℕ
status_for None = 2
status_for (Some wish) = 0
