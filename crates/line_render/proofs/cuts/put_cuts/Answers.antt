use Rattle.std.proofs.Common.{List, ◌++◌, ◌∷◌, [], ◌+◌, ap, sym, ◌∙◌, drop, get_or, append_assoc}
use Rattle.plain_edits.specs.declared.style.Span.{Span}
use Rattle.line_render.specs.Rendered.{cut_spans}
use Rattle.line_render.proofs.CutLemmas.{cut_spans-step}
use Rattle.line_render.proofs.cuts.put_cuts.Goals as goal

pub loop-span-preserved : goal.loop-span-preserved
loop-span-preserved c =
    let cuts = cut_spans c.args.start c.args.end in
    let spans = c.args.spans.now in
    let rest = cuts (drop (c.loop-span.span-index + 1) spans) in
    let one = cuts (get_or spans c.loop-span.span-index (record { start = 0; end = 0; style = 0 }) ∷ []) in
    ap (λ (ss : List Span). ss ++ rest) c.in_ok-put_cut.ensures ∙
    append_assoc c.loop-span.list one rest ∙
    ap (λ (ss : List Span). c.loop-span.list ++ ss) (sym (cut_spans-step c.args.start c.args.end c.loop-span.span-index spans (record { start = 0; end = 0; style = 0 }) c.loop-span-test.true)) ∙
    c.loop-span.invariant
