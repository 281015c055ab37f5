-- The gap of a byte offset.
use Rattle.std.proofs.Common.{◌≡◌, ℕ, ◌+◌, List, length, take, drop, take-append-drop, Option, Some, None, refl, ap, ap₂, sym, ◌∙◌, arith}
use Rattle.std.specs.Prelude.{IfNone, IfSome}
use Rattle.plain_text.specs.Text.{gap_at}
use Rattle.plain_text.proofs.callers.PlaceLemmas.{gap_from-seam}
use Rattle.plain_text.proofs.callers.TextLemmas.{gap_at_iff}
use Rattle.rope_metrics.specs.declared.measure.Measure.TheVariants.{Bytes, Chars}
use Rattle.rope_metrics.specs.Measure.{HasNone, IsConverted}

pub gap_at-converted : (text : List ℕ) (at : ℕ) (found : Option ℕ) → IfSome found (λ offset. IsConverted Bytes Chars text at offset) →
    IfNone found (HasNone Bytes text at) → found ≡ gap_at text at
gap_at-converted text at (Some offset) some none =
    ap Some some.is ∙
    sym (ap₂ (λ t n. gap_at t n) some.cut.cut (sym some.cut.ends) ∙ gap_from-seam 0 some.front some.back ∙
    (let start : 0 + length some.front ≡ length some.front = omega arith in ap Some start))
gap_at-converted text at None some none = go (gap_at text at) refl
  where
    go : (found : Option ℕ) → gap_at text at ≡ found → None ≡ found
    go None is = refl
    go (Some gap) is = absurd (none (take gap text) (drop gap text) (sym (take-append-drop gap text)) ((gap_at_iff text at gap).0 is).1)
