use Rattle.std.proofs.Common.{ap, subst, sym, ◌∙◌, map}
use Rattle.std.proofs.lemmas.Result.{IfOk-weaker}
use Rattle.span_styles.specs.Layers.{LieIn, RiseWithin, length_after}
use Rattle.stale_spans.specs.Marks.{marks_of, meaning_of, piece_of}
use Rattle.stale_spans.proofs.CarriedLemmas.{LieIn-marks_of, Rise-carried}
use Rattle.stale_spans.proofs.PieceLemmas.{RiseWithin-pieces}
use Rattle.stale_spans.proofs.marks.brought.Goals as goal

pub carried-requires-clause-within : goal.carried-requires-clause-within
carried-requires-clause-within c =
    subst (LieIn c.args.spanned.now.range) (sym (c.as_slice-2.ensures ∙ c.in_ok-marks.ensures ∙ ap (marks_of c.args.spanned.now.range) c.as_slice.ensures))
    (LieIn-marks_of c.args.spanned.now.range c.args.spanned.now.spans c.requires.ordered c.requires.within)

pub returns-clause-rise : goal.returns-clause-rise
returns-clause-rise c =
    IfOk-weaker c.pieces.result _ _
    (λ made is. subst (RiseWithin 0 (length_after c.args.units.now))
    (sym (is ∙ ap (map (piece_of (meaning_of c.as_slice-4.result.now))) (c.as_slice-3.ensures ∙ c.in_ok-carried.ensures)))
    (RiseWithin-pieces (meaning_of c.as_slice-4.result.now) 0 (length_after c.args.units.now) _
    (Rise-carried c.args.units.now c.args.spanned.now.range c.as_slice-2.result.now)))
    c.pieces.ensures
