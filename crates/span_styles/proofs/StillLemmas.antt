-- An edit that keeps all characters and adds none leaves a layer as it is.
use Rattle.std.proofs.Common.{◌≡◌, ℕ, ◌+◌, ◌<◌, Bool, true, false, if◌then◌else◌, List, [], ◌∷◌, ◌++◌, length, refl, ap, ap₂, ◌∙◌, arith}
use Rattle.std.specs.Prelude.{◌&&◌, ◌||◌, nat_le, nat_lt}
use Rattle.std.proofs.lemmas.Bool.Decides.{nat_tests}
use Rattle.plain_text.specs.Woven.{woven}
use Rattle.plain_text.specs.declared.run.Run.{Run}
use Rattle.plain_edits.specs.declared.delta.UnitDelta.{UnitDelta}
use Rattle.plain_edits.specs.Delta.{is_in_runs, text_at_gap}
use Rattle.plain_edits.specs.UnitDelta.{unit_keeps, unit_adds}
use Rattle.plain_edits.specs.Styles.{Layer, mapped_layer}
use Rattle.span_styles.specs.Inner.{IsWhole, LeavesAll}
use Rattle.span_styles.specs.Layers.{AreOver, mapped_layers}

keeps_each : (base index : ℕ) (kept : List Run) → IsWhole base kept → index < base → is_in_runs kept index ≡ true
keeps_each base index [] whole inside = absurd (omega (arith, whole))
keeps_each base index (run ∷ []) whole inside = by (nat_le run.start index) (nat_lt index run.end) (from run.start whole.0) (to run.end whole.1)
  where
    by : (b c : Bool) → b ≡ true → c ≡ true → (b && c || false) ≡ true
    by true true low high = refl
    by true false low high = absurd (let no = high in cc)
    by false c low high = absurd (let no = low in cc)

    from : (start : ℕ) → start ≡ 0 → nat_le start index ≡ true
    from start none = grind (arith, nat_tests)

    to : (end : ℕ) → end ≡ base → nat_lt index end ≡ true
    to end all = grind (arith, nat_tests)
keeps_each base index (run ∷ next ∷ runs) whole inside = absurd whole

woven-kept : (k : ℕ → Bool) (gap : ℕ) (layer : Layer) → ((index : ℕ) → index < gap + length layer → k index ≡ true) →
    woven (λ g. []) (λ index style. if k index then style ∷ [] else []) gap layer ≡ layer
woven-kept k gap [] keeps = refl
woven-kept k gap (style ∷ layer) keeps =
    ap₂ (λ b ss. (if b then style ∷ [] else []) ++ ss) (keeps gap (omega arith)) (woven-kept k (gap + 1) layer (λ index inside. keeps index (omega arith)))

mapped_layer-still : (units : UnitDelta) (layer : Layer) → LeavesAll units → length layer ≡ units.base → mapped_layer (unit_keeps units) (unit_adds units) layer ≡ layer
mapped_layer-still units layer still over =
    ap (λ added. mapped_layer (unit_keeps units) (text_at_gap added) layer) still.1 ∙
    woven-kept (unit_keeps units) 0 layer (λ index inside. keeps_each units.base index units.kept still.0 (omega arith))

pub mapped_layers-still : (units : UnitDelta) (layers : List Layer) → LeavesAll units → AreOver units.base layers → mapped_layers units layers ≡ layers
mapped_layers-still units [] still over = refl
mapped_layers-still units (layer ∷ layers) still over = ap₂ (λ l ls. l ∷ ls) (mapped_layer-still units layer still over.0) (mapped_layers-still units layers still over.1)
