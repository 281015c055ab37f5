-- Layers of the head text at a revision: over its change they become what the style rule makes of them.
use Rattle.std.proofs.Common.{◌≡◌, ℕ, List, [], ◌∷◌, length, refl, ap, ap₂, sym, ◌∙◌}
use Rattle.std.proofs.Math.Path.{fun_ext}
use Rattle.std.proofs.lemmas.List.{length-map}
use Rattle.plain_edits.specs.declared.delta.UnitDelta.{UnitDelta}
use Rattle.plain_edits.specs.UnitDelta.{unit_keeps, unit_adds}
use Rattle.plain_edits.specs.Change.{change_keeps, change_adds}
use Rattle.plain_edits.specs.History.{History, head, text_at, visible_at}
use Rattle.plain_edits.specs.Styles.{Layer, mapped_layer}
use Rattle.plain_edits.proofs.callers.StyleLemmas.{mapped_layer-change}
use Rattle.span_styles.specs.Layers.{AreOver, mapped_layers}
use Rattle.stale_spans.specs.Asked.{moved_layers}

module _ (before after : History) (units : UnitDelta) (kept : (index : ℕ) → unit_keeps units index ≡ change_keeps after (head before) (head after) index)
    (added : (gap : ℕ) → unit_adds units gap ≡ change_adds after (head before) (head after) gap)
    (same : text_at after (head before) ≡ text_at before (head before)) where
  pub mapped_layers-change : (layers : List Layer) → AreOver (length (text_at before (head before))) layers →
      mapped_layers units layers ≡ moved_layers before after layers
  mapped_layers-change [] over = refl
  mapped_layers-change (layer ∷ layers) over =
      ap₂ (λ l ls. l ∷ ls)
      (ap₂ (λ k a. mapped_layer k a layer) (fun_ext kept) (fun_ext added) ∙
      mapped_layer-change after (head before) (head after) layer
      (over.0 ∙ ap length (sym same) ∙ length-map (visible_at after (head before)) (λ tagged. tagged.character)))
      (mapped_layers-change layers over.1)
