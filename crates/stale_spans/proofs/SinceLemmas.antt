-- The layers after spans against a revision.
use Rattle.std.proofs.Common.{◌≡◌, ℕ, zero, suc, ◌<◌, List, [], ◌∷◌, length, map, fold, None, ap, ap₂, sym, subst, ◌∙◌, arith}
use Rattle.std.proofs.Math.Path.{fun_ext}
use Rattle.std.specs.Prelude.{slice_set}
use Rattle.std.proofs.lemmas.List.{length-map, length-replicate}
use Rattle.plain_edits.specs.History.{History, head, text_at, visible_at}
use Rattle.plain_edits.specs.Styles.{Layer, mapped_layer, with_spans}
use Rattle.plain_edits.proofs.callers.StyleLemmas.{carried_layer-length, mapped_layer-change}
use Rattle.span_runs.specs.Spans.{spans_from}
use Rattle.span_styles.specs.declared.spanned.SpannedRange.{SpannedRange}
use Rattle.span_styles.specs.Layers.{AreOver, RiseWithin, layer_at, length_after, spanned_layer, spanned_layers, unstyled}
use Rattle.stale_spans.specs.declared.asked.AskedSpans.{AskedSpans}
use Rattle.stale_spans.specs.declared.read.Read.{Read}
use Rattle.stale_spans.specs.Asked.{layers_with_spans}
use Rattle.stale_spans.specs.Marks.{carried_marks, marks_of, meaning_of, piece_of}
use Rattle.stale_spans.specs.Places.{meant_range}
use Rattle.stale_spans.specs.Read.{IsReadAt}
use Rattle.stale_spans.proofs.CarriedLemmas.{length-carried}
use Rattle.stale_spans.proofs.MarkLemmas.{with_spans-marks}
use Rattle.stale_spans.proofs.PieceLemmas.{put_all-marks}

length-layer_at : (len : ℕ) (layers : List Layer) (index : ℕ) → AreOver len layers → index < length layers → length (layer_at layers index) ≡ len
length-layer_at len [] index each inside = absurd (omega (arith, inside))
length-layer_at len (layer ∷ layers) zero each inside = each.0
length-layer_at len (layer ∷ layers) (suc index) each inside = length-layer_at len layers index each.1 (omega (arith, inside))

-- the ranges rise within the layer
pub RiseWithin-layer : (len : ℕ) (layers : List Layer) (layer : ℕ) (ranges : List SpannedRange) → AreOver len layers → layer < length layers →
    RiseWithin 0 len ranges → RiseWithin 0 (length (layer_at layers layer)) ranges
RiseWithin-layer len layers layer ranges over known rise =
    subst (λ to. RiseWithin 0 to ranges) (sym (length-layer_at len layers layer over known)) rise

module _ (h : History) (rev : ℕ) (read : Read) (base : read.units.base ≡ length read.text) (at : IsReadAt h rev read) where
  -- the text that it is of is that of the revision
  based : read.units.base ≡ length (text_at h rev)
  based = base ∙ ap length at.text

  -- it leads to a text that is as long as what the head shows
  leads : length_after read.units ≡ length (text_at h (head h))
  leads =
      ap₂ (λ k a. length (mapped_layer k a bare)) (fun_ext at.kept) (fun_ext at.added) ∙
      ap length (mapped_layer-change h rev (head h) bare (length-replicate read.units.base None ∙ based ∙ length-map (visible_at h rev) (λ tagged. tagged.character))) ∙
      carried_layer-length h rev (head h) bare ∙ sym (length-map (visible_at h (head h)) (λ tagged. tagged.character))
    where
      bare : Layer
      bare = unstyled read.units.base

  module _ (layer : Layer) (over : length layer ≡ length_after read.units) where
    -- the pieces of the range are what the rule says
    pub fold-pieces : (spanned : SpannedRange) → fold spanned_layer layer
        (map (piece_of (meaning_of spanned.spans)) (spans_from 0 (carried_marks read.units spanned.range (marks_of spanned.range spanned.spans)))) ≡
        with_spans h rev spanned.range spanned.spans layer
    fold-pieces spanned =
        put_all-marks (meaning_of spanned.spans) 0 (carried_marks read.units spanned.range (marks_of spanned.range spanned.spans)) layer
        (length-carried read.units spanned.range (marks_of spanned.range spanned.spans) ∙ sym over) ∙
        with_spans-marks h rev spanned.range spanned.spans layer read.units based at.kept at.added (over ∙ leads)

pub layers_with_spans-made : (h : History) (asked : AskedSpans) (layers : List Layer) (layer : ℕ) (read : Read) → read.units.base ≡ length read.text →
    AreOver (length_after read.units) layers → layer < length layers → IsReadAt h asked.rev read →
    (spanned : SpannedRange) (ranges : List SpannedRange) (made : List Layer) →
    spanned ≡ meant_range read.text asked.start asked.len asked.spans →
    ranges ≡ map (piece_of (meaning_of spanned.spans)) (spans_from 0 (carried_marks read.units spanned.range (marks_of spanned.range spanned.spans))) →
    made ≡ spanned_layers layers layer ranges → made ≡ layers_with_spans h asked layer layers
layers_with_spans-made h asked layers layer read base over known at spanned ranges made is_meant is_pieces is_made =
    is_made ∙ ap (spanned_layers layers layer) is_pieces ∙
    ap (slice_set layers layer)
    (fold-pieces h asked.rev read base at (layer_at layers layer) (length-layer_at (length_after read.units) layers layer over known) spanned ∙
    ap (λ (s : SpannedRange). with_spans h asked.rev s.range s.spans (layer_at layers layer))
    (is_meant ∙ ap (λ text. meant_range text asked.start asked.len asked.spans) at.text))
