-- What a sink in memory keeps.
use Rattle.std.specs.Prelude.{◌≡◌, ℕ, List, ◌++◌, Option, None, option_map, ◌⊎◌}
use Rattle.outside.specs.Faults.{counted}

-- the bytes that it holds, where it tells them, and how often it was refused memory to keep a piece
pub record Kept : Type 0 where
  pub held : Option (List ℕ)
  pub refused : ℕ

-- the piece stands after what it told, or memory was refused and that is counted: only there it stops telling
abbrev pub KeepsUnlessRefused : Kept → Kept → List ℕ → Type 0
KeepsUnlessRefused old new piece =
    ((new.refused ≡ old.refused) × (new.held ≡ option_map (λ held. held ++ piece) old.held)) ⊎
    ((new.refused ≡ counted old.refused) × (new.held ≡ None))
