-- What the files of a shelf are to a path: as a map from paths to bytes.
use Rattle.std.specs.Prelude.{◌≡◌, ◌≢◌, ℕ, List, Some}
use Rattle.std.specs.Str.{all_scalars}
use Rattle.std.specs.Prelude.{true}
use Rattle.outside.specs.Shelf.{bytes_of, with_file}

-- a path that was set has those bytes
abbrev pub SetPathsHaveTheirBytes : Type 0
SetPathsHaveTheirBytes =
    (files : List (List ℕ × List ℕ)) (path bytes : List ℕ) → bytes_of (with_file files path bytes) path ≡ Some bytes

-- every other text has what it had
abbrev pub OtherPathsStay : Type 0
OtherPathsStay =
    (files : List (List ℕ × List ℕ)) (path other bytes : List ℕ) → all_scalars path ≡ true → all_scalars other ≡ true →
    other ≢ path → bytes_of (with_file files path bytes) other ≡ bytes_of files other
