-- Lemmas on how long layers are.
use Rattle.std.proofs.Common.{◌≡◌, ℕ, zero, suc, ◌+◌, ◌<◌, Bool, true, false, if◌then◌else◌, List, [], ◌∷◌, length, map, fold, Option, None, refl, ap₂, sym, ◌∙◌, arith, length-append}
use Rattle.std.specs.Prelude.{slice_set}
use Rattle.std.specs.List.{enumerate_from}
use Rattle.std.proofs.lemmas.List.{length-map, length-replicate}
use Rattle.std.proofs.lemmas.List.FromFn.{length-enumerate_from}
use Rattle.plain_text.specs.Woven.{woven}
use Rattle.plain_edits.specs.declared.delta.UnitDelta.{UnitDelta}
use Rattle.plain_edits.specs.UnitDelta.{unit_keeps, unit_adds}
use Rattle.plain_edits.specs.Styles.{Layer}
use Rattle.delta_core.specs.Units.{text_after}
use Rattle.span_styles.specs.declared.spanned.SpannedRange.{SpannedRange}
use Rattle.span_styles.specs.Layers.{unstyled, new_layers, spanned_layer, spanned_layers, layer_at, mapped_layers, AreOver, length_after}
use Rattle.span_styles.proofs.MapLemmas.{length-mapped_layer}

-- new layers are over the text
pub AreOver-new : (n len : ℕ) → AreOver len (new_layers n len)
AreOver-new zero len = tt
AreOver-new (suc n) len = (length-replicate len None, AreOver-new n len)

-- spans leave a layer as long as it was
length-spanned_layer : (layer : Layer) (spanned : SpannedRange) → length (spanned_layer layer spanned) ≡ length layer
length-spanned_layer layer spanned = length-map (enumerate_from 0 layer) _ ∙ length-enumerate_from 0 layer

length-spanned : (layer : Layer) (ranges : List SpannedRange) → length (fold spanned_layer layer ranges) ≡ length layer
length-spanned layer [] = refl
length-spanned layer (spanned ∷ ranges) = length-spanned (spanned_layer layer spanned) ranges ∙ length-spanned_layer layer spanned

AreOver-set : (len : ℕ) (layers : List Layer) (index : ℕ) (layer : Layer) → AreOver len layers → length layer ≡ len → AreOver len (slice_set layers index layer)
AreOver-set len [] index layer each over = tt
AreOver-set len (first ∷ layers) zero layer each over = (over, each.1)
AreOver-set len (first ∷ layers) (suc index) layer each over = (each.0, AreOver-set len layers index layer each.1 over)

length-layer_at : (len : ℕ) (layers : List Layer) (index : ℕ) → AreOver len layers → index < length layers → length (layer_at layers index) ≡ len
length-layer_at len [] index each inside = absurd (omega arith)
length-layer_at len (layer ∷ layers) zero each inside = each.0
length-layer_at len (layer ∷ layers) (suc index) each inside = length-layer_at len layers index each.1 (omega arith)

pub AreOver-spanned : (len : ℕ) (layers : List Layer) (index : ℕ) (ranges : List SpannedRange) → AreOver len layers → index < length layers →
    AreOver len (spanned_layers layers index ranges)
AreOver-spanned len layers index ranges each inside =
    AreOver-set len layers index (fold spanned_layer (layer_at layers index) ranges) each
    (length-spanned (layer_at layers index) ranges ∙ length-layer_at len layers index each inside)

-- an edit makes all layers as long as it makes one
pub AreOver-mapped : (units : UnitDelta) (layers : List Layer) → AreOver units.base layers → AreOver (length_after units) (mapped_layers units layers)
AreOver-mapped units [] each = tt
AreOver-mapped units (layer ∷ layers) each = (length-mapped_layer units layer each.0, AreOver-mapped units layers each.1)

-- and so long is the text then
length-woven : (k : ℕ → Bool) (f : ℕ → List ℕ) (gap : ℕ) (layer : Layer) (text : List ℕ) → length layer ≡ length text →
    length (woven {Y = Option ℕ} (λ g. map (λ c. None) (f g)) (λ index style. if k index then style ∷ [] else []) gap layer) ≡
    length (woven f (λ index c. if k index then c ∷ [] else []) gap text)
length-woven k f gap [] [] same = length-map (f gap) (λ c. None)
length-woven k f gap [] (c ∷ text) same = absurd (omega arith)
length-woven k f gap (style ∷ layer) [] same = absurd (omega arith)
length-woven k f gap (style ∷ layer) (c ∷ text) same =
    length-append (map (λ x. None) (f gap)) _ ∙
    ap₂ (λ n m. n + m) (length-map {B = Option ℕ} (f gap) (λ x. None))
    (length-append (if k gap then style ∷ [] else []) _ ∙
    ap₂ (λ n m. n + m) (one (k gap)) (length-woven k f (gap + 1) layer text (omega arith)) ∙
    sym (length-append (if k gap then c ∷ [] else []) _)) ∙
    sym (length-append (f gap) _)
  where
    one : (b : Bool) → length (if b then style ∷ [] else []) ≡ length (if b then c ∷ [] else [])
    one true = refl
    one false = refl

pub length_after-text : (units : UnitDelta) (text : List ℕ) → length text ≡ units.base → length_after units ≡ length (text_after units text)
length_after-text units text over =
    length-woven (unit_keeps units) (unit_adds units) 0 (unstyled units.base) text (length-replicate units.base None ∙ sym over)
