-- THE FORMS of words that ask for a run.
use Rattle.std.specs.Prelude.{ℕ, nat_le, Bool, if◌then◌else◌, List, [], ◌∷◌, codes, Option, Some, None}
use Rattle.std.specs.Str.{bytes_eq, encode_utf8_all}
use Rattle.case_lines.specs.Number.{number_of}
use Rattle.storm_lines.specs.declared.form.Form.{Form}
use Rattle.storm_lines.specs.declared.form.Form.TheVariants.{Threads, Alone, Storm}

-- a word is this name
abbrev pub is_named : List ℕ → List ℕ → Bool
is_named word name = bytes_eq (encode_utf8_all word) name

-- the number that a word writes: decimal digits alone, where leading zeros count nothing, below 2^64
abbrev pub number_in : List ℕ → Option ℕ
number_in word = number_of (encode_utf8_all word)

-- the most lines of a storm
abbrev pub most_lines : ℕ
most_lines = 1000000

-- a storm of these numbers
abbrev pub storm_form : Option ℕ → Option ℕ → Option Form
storm_form (Some count) (Some seed) = if nat_le count most_lines then Some (Storm count seed) else None
storm_form count seed = None

-- what one word asks for, and what three do
abbrev pub form_of_one : List ℕ → Option Form
form_of_one form = if is_named form (codes "alone") then Some Alone else None

abbrev pub form_of_three : List ℕ → List ℕ → List ℕ → Option Form
form_of_three form count seed = if is_named form (codes "storm") then storm_form (number_in count) (number_in seed) else None

-- WHAT THE WORDS ASK FOR: there are none, or they are `alone`, or `storm N SEED`; else they are no form
abbrev pub form_in : List (List ℕ) → Option Form
form_in [] = Some Threads
form_in (form ∷ []) = form_of_one form
form_in (form ∷ count ∷ seed ∷ []) = form_of_three form count seed
form_in words = None
