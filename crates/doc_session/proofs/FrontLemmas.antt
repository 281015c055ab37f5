-- The edit of a command in characters, and in bytes.
use Rattle.std.proofs.Common.{◌≡◌, ℕ, List, length, ap, arith}
use Rattle.plain_edits.specs.UnitDelta.{unit_adds, unit_keeps}
use Rattle.plain_edits.specs.declared.delta.UnitDelta.{UnitDelta}
use Rattle.plain_text.specs.Text.{byte_len}
use Rattle.delta_core.specs.Elements.{delta_of}
use Rattle.delta_core.specs.Units.{text_after}
use Rattle.delta_core.proofs.ForCallers.{elements_from-same, woven-within}
use Rattle.edit_ops.specs.declared.replacement.Replacement.{Replacement}
use Rattle.edit_ops.specs.Replacements.{IsEditOf, added_by, kept_by, text_with}
use Rattle.doc_session.specs.Asking.{replacing_delta}

-- the delta of replacements is that of their unit delta
pub delta-same : (text : List ℕ) (replacements : List Replacement) (units : UnitDelta) → IsEditOf (length text) replacements units →
    delta_of text units ≡ replacing_delta replacements text
delta-same text replacements units is =
    ap (λ els. record { els = els; base_len = byte_len text })
    (elements_from-same (unit_keeps units) (kept_by replacements) (unit_adds units) (added_by replacements) 0 0 text
    (λ index less. is.kept index (omega arith)) (λ gap less. is.added gap))

-- and that leads to the text after the replacements
pub text_after-front : (text : List ℕ) (replacements : List Replacement) (units : UnitDelta) → IsEditOf (length text) replacements units →
    text_after units text ≡ text_with replacements text
text_after-front text replacements units is =
    woven-within (unit_keeps units) (kept_by replacements) (unit_adds units) (added_by replacements) 0 text
    (λ index less. is.kept index (omega (arith, less))) (λ gap less. is.added gap)
