-- The delta on the wire that a unit delta is, element for element.
use Rattle.std.specs.Prelude.{◌≡◌, ℕ, ◌+◌, Bool, if◌then◌else◌, List, [], ◌∷◌}
use Rattle.std.specs.Char.{len_utf8}
use Rattle.plain_edits.specs.declared.delta.El.{El}
use Rattle.plain_edits.specs.declared.delta.El.TheVariants.{Copy, Insert}
use Rattle.plain_edits.specs.declared.delta.Delta.{Delta}
use Rattle.plain_edits.specs.declared.delta.UnitDelta.{UnitDelta}
use Rattle.plain_text.specs.Text.{byte_len}
use Rattle.plain_edits.specs.Delta.{Fits, keeps, adds, applied}
use Rattle.plain_edits.specs.UnitDelta.{unit_keeps, unit_adds}
use Rattle.delta_core.specs.Units.{text_after}
use Rattle.delta_core.specs.Wire.{copy_before}

-- a text in front of other elements, after an empty copy that fixes its gap by the place; an empty text is left out
abbrev pub fixed_before : ℕ → List ℕ → List El → List El
fixed_before at [] els = els
fixed_before at (c ∷ text) els = Copy at at ∷ Insert (c ∷ text) ∷ els

-- the elements from a gap with its place on: the text at each gap and a copy of each kept character, and copies that touch are one
abbrev pub elements_from : (ℕ → Bool) → (ℕ → List ℕ) → ℕ → ℕ → List ℕ → List El
elements_from keeps adds gap at [] = fixed_before at (adds gap) []
elements_from keeps adds gap at (c ∷ text) =
    let rest = elements_from keeps adds (gap + 1) (at + len_utf8 c) text in
    fixed_before at (adds gap) (if keeps gap then copy_before at (at + len_utf8 c) rest else rest)

-- the delta over a text, of what is kept of it and added: the text of each gap stands at that gap
abbrev pub delta_by : (ℕ → Bool) → (ℕ → List ℕ) → List ℕ → Delta
delta_by keeps adds text = record { els = elements_from keeps adds 0 0 text; base_len = byte_len text }

-- the delta of a unit delta over a text
abbrev pub delta_of : List ℕ → UnitDelta → Delta
delta_of text units = delta_by (unit_keeps units) (unit_adds units) text

-- the delta is that one: it fits the text, keeps and adds what the unit delta keeps and adds, and so leads to the same text
pub record IsDeltaOf (text : List ℕ) (units : UnitDelta) (delta : Delta) : Type 0 where
  pub is : delta ≡ delta_of text units
  pub fits : Fits text delta
  pub kept : (index : ℕ) → keeps text delta index ≡ unit_keeps units index
  pub added : (gap : ℕ) → adds text delta gap ≡ unit_adds units gap
  pub leads : applied (keeps text delta) (adds text delta) text ≡ text_after units text
