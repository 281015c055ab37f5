-- Where the first LF stands.
use Rattle.std.specs.Prelude.{◌≡◌, ℕ, ◌+◌, ◌<◌, List, ◌∷◌, ◌++◌, length, take, drop, Option, Some, None}
use Rattle.plugin_link.specs.Turns.{HasNoLf}

-- an LF stands at this place of the bytes, and none before it
pub record HasLfAt (bytes : List ℕ) (at : ℕ) : Type 0 where
  pub inside : at < length bytes
  pub no_lf : HasNoLf (take at bytes)
  pub parts : bytes ≡ take at bytes ++ 10 ∷ drop (at + 1) bytes

-- where the first LF stands, if one does
abbrev pub IsLfAt : List ℕ → Option ℕ → Type 0
IsLfAt bytes None = HasNoLf bytes
IsLfAt bytes (Some at) = HasLfAt bytes at
