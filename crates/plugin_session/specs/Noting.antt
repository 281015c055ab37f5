-- What a door keeps and tells of what goes through it.
use Rattle.std.specs.Prelude.{◌≡◌, ◌⊎◌, ℕ, List, [], ◌∷◌, ◌++◌, Option, None, option_map}
use Rattle.outside.specs.Faults.{counted}
use Rattle.plugin_session.specs.declared.noted.Noted.{Noted}

-- the door inside, what went through it, where that is told, and how often memory to keep it was refused
pub record Noting (D : Type 0) : Type 0 where
  pub door : D
  pub kept : Option (List Noted)
  pub refused : ℕ

-- what went through stands after what was told, or memory was refused and that is counted: only there it stops telling
abbrev pub KeepsUnlessRefused : {D : Type 0} → Noting D → Noting D → Noted → Type 0
KeepsUnlessRefused old new noted =
    ((new.refused ≡ old.refused) × (new.kept ≡ option_map (λ kept. kept ++ noted ∷ []) old.kept)) ⊎
    ((new.refused ≡ counted old.refused) × (new.kept ≡ None))
