use Rattle.std.proofs.Common.{ap, fold, length, subst, sym, ◌∙◌}
use Rattle.std.proofs.lemmas.List.{length-set}
use Rattle.span_styles.specs.Layers.{AreOver, layer_at, length_after, spanned_layer, spanned_layers}
use Rattle.span_styles.proofs.ForCallers.{AreOver-spanned}
use Rattle.stale_spans.proofs.SinceLemmas.{layers_with_spans-made}
use Rattle.stale_spans.proofs.since.with_spans.Goals as goal

pub returns-clause-layers : goal.returns-clause-layers
returns-clause-layers c = λ history at.
    layers_with_spans-made history c.args.asked.now c.args.layers.now c.args.layer c.args.read.now c.requires.edit.base c.requires.over
    c.requires.known at c.in_ok-spanned.spanned c.in_ok-ranges.ranges.items
    c.in_ok-set_ranges.field-0 c.in_ok-spanned.ensures.meant c.in_ok-ranges.ensures.pieces
    (c.in_ok-set_ranges.ensures ∙ ap (spanned_layers c.args.layers.now c.args.layer) c.deref.ensures.value)

pub returns-clause-over : goal.returns-clause-over
returns-clause-over c =
    subst (AreOver (length_after c.args.read.now.units)) (sym c.in_ok-set_ranges.ensures)
    (AreOver-spanned (length_after c.args.read.now.units) c.args.layers.now c.args.layer c.deref.result.now c.requires.over c.requires.known)

pub returns-clause-as_many : goal.returns-clause-as_many
returns-clause-as_many c =
    ap length c.in_ok-set_ranges.ensures ∙
    length-set c.args.layers.now c.args.layer (fold spanned_layer (layer_at c.args.layers.now c.args.layer) c.deref.result.now)
