-- The delta of the notices.
use Rattle.std.specs.Prelude.{◌≡◌, ℕ, ◌+◌, Bool, if◌then◌else◌, ◌==◌, List, [], ◌∷◌, ◌++◌}
use Rattle.std.specs.Char.{len_utf8}
use Rattle.plain_edits.specs.declared.delta.El.{El}
use Rattle.plain_edits.specs.declared.delta.El.TheVariants.{Copy, Insert}
use Rattle.plain_edits.specs.declared.delta.Delta.{Delta}
use Rattle.plain_edits.specs.declared.delta.UnitDelta.{UnitDelta}
use Rattle.plain_text.specs.Text.{byte_len}
use Rattle.plain_edits.specs.Delta.{Fits, keeps, adds, applied}
use Rattle.plain_edits.specs.UnitDelta.{unit_keeps, unit_adds}
use Rattle.delta_core.specs.Units.{text_after}

-- a copy in front of other elements: one with the first of them where that is a copy that begins where this ends; an empty one is left out
abbrev pub copy_before : ℕ → ℕ → List El → List El
copy_before a b [] = if a == b then [] else Copy a b ∷ []
copy_before a b (Copy c d ∷ els) = if a == b then Copy c d ∷ els else (if b == c then Copy a d ∷ els else Copy a b ∷ Copy c d ∷ els)
copy_before a b (Insert text ∷ els) = if a == b then Insert text ∷ els else Copy a b ∷ Insert text ∷ els

-- a text in front of other elements: one with the first of them where that is an insertion; an empty one is left out
abbrev pub text_before : List ℕ → List El → List El
text_before [] els = els
text_before (c ∷ text) [] = Insert (c ∷ text) ∷ []
text_before (c ∷ text) (Copy a b ∷ els) = Insert (c ∷ text) ∷ Copy a b ∷ els
text_before (c ∷ text) (Insert more ∷ els) = Insert ((c ∷ text) ++ more) ∷ els

-- the elements from a gap with its place on: the text at each gap and a copy of each kept character, and neighbours are one element
abbrev pub wire_from : (ℕ → Bool) → (ℕ → List ℕ) → ℕ → ℕ → List ℕ → List El
wire_from keeps adds gap at [] = text_before (adds gap) []
wire_from keeps adds gap at (c ∷ text) =
    let rest = wire_from keeps adds (gap + 1) (at + len_utf8 c) text in
    text_before (adds gap) (if keeps gap then copy_before at (at + len_utf8 c) rest else rest)

-- the delta of the notices over the text before
abbrev pub wire_of : List ℕ → UnitDelta → Delta
wire_of text units = record { els = wire_from (unit_keeps units) (unit_adds units) 0 0 text; base_len = byte_len text }

-- the delta is that of the notices: it fits the text before, and leads to the same text
pub record IsWireOf (text : List ℕ) (units : UnitDelta) (delta : Delta) : Type 0 where
  pub is : delta ≡ wire_of text units
  pub fits : Fits text delta
  pub leads : applied (keeps text delta) (adds text delta) text ≡ text_after units text
