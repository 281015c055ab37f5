use Rattle.std.proofs.Common.{◌≡◌, ℕ, List, Bool, true, false, ◌+◌, ◌-◌, ◌≤◌, ◌++◌, length, map, ap, ap₂, sym, ◌∙◌, subst, arith, append_assoc}
use Rattle.plain_text.specs.Text.{place_of}
use Rattle.plain_text.specs.declared.selection.Region.{Region}
use Rattle.plain_edits.specs.declared.style.Span.{Span}
use Rattle.plain_screen.specs.declared.screen.Triple.{Triple}
use Rattle.plain_screen.specs.declared.screen.Line.{Line}
use Rattle.span_runs.specs.Triples.{LieInLine, triples_of}
use Rattle.line_render.specs.Rendered.{carets_of, own_gaps, cut_spans, selected_spans}
use Rattle.line_render.specs.Inner.{selected_runs, shown_gaps, touching_regions}
use Rattle.line_render.proofs.CaretLemmas.{shown_gaps-touching}
use Rattle.line_render.proofs.CutLemmas.{cut_spans-touching, cut_spans-append, LieInLine-append, LieInLine-selected_runs, LieInLine-cut_spans}
use Rattle.line_render.proofs.SelectedLemmas.{selected_runs-touching}
use Rattle.line_render.proofs.lines.render_piece.Goals as goal

own_gaps-few : (is_last : Bool) (len : ℕ) → own_gaps is_last len ≤ len + 1
own_gaps-few true len = omega arith
own_gaps-few false len = omega arith

pub gaps_of-gaps-requires : goal.gaps_of-gaps-requires
gaps_of-gaps-requires c = let is = c.requires.characters in omega (arith, ap length c.as_str.ensures.characters)

pub cursor_in-requires-clause-len : goal.cursor_in-requires-clause-len
cursor_in-requires-clause-len c = let is = c.requires.characters in omega arith

pub cursor_in-requires-clause-gaps : goal.cursor_in-requires-clause-gaps
cursor_in-requires-clause-gaps c =
    let is = c.requires.characters in
    omega (arith, c.gaps_of-gaps.ensures, own_gaps-few c.args.is_last (c.args.piece.now.end - c.args.piece.now.start))

pub triples-requires : goal.triples-requires
triples-requires c =
    let start = c.args.piece.now.start in
    let end = c.args.piece.now.end in
    let len = length c.args.line in
    let is = c.requires.characters in
    subst (LieInLine len) (sym (c.as_slice-2.ensures ∙ c.in_ok-put_cuts-2.ensures ∙ ap (λ (ss : List Span). ss ++ cut_spans start end c.args.spans.now)
    (c.in_ok-put_cuts.ensures ∙ ap (λ (ss : List Span). ss ++ cut_spans start end c.spans_touching.result.now) c.in_ok-shown.ensures)))
    (LieInLine-append len (selected_runs start end c.regions_touching-regions.result.now ++ cut_spans start end c.spans_touching.result.now) (cut_spans start end c.args.spans.now)
    (LieInLine-append len (selected_runs start end c.regions_touching-regions.result.now) (cut_spans start end c.spans_touching.result.now)
    (LieInLine-selected_runs start end len is c.regions_touching-regions.result.now) (LieInLine-cut_spans start end len is c.spans_touching.result.now))
    (LieInLine-cut_spans start end len is c.args.spans.now))

pub returns : goal.returns
returns c =
    let start = c.args.piece.now.start in
    let end = c.args.piece.now.end in
    let line = c.args.line in
    let len = length line in
    let is = c.requires.characters in
    let regions = c.args.sel.now.regions in
    let gaps = own_gaps c.args.is_last len in
    let touching : c.regions_touching-regions.result.now ≡ touching_regions start end regions =
    c.regions_touching-regions.ensures ∙ ap (touching_regions start end) c.as_slice.ensures in
    let selected : c.in_ok-shown.shown ≡ selected_spans regions start len =
    c.in_ok-shown.ensures ∙ ap (selected_runs start end) touching ∙ selected_runs-touching start len end regions is c.requires.selection in
    let found : cut_spans start end c.spans_touching.result.now ≡ cut_spans start end c.args.found.now =
    ap (cut_spans start end) c.spans_touching.ensures ∙ cut_spans-touching start end c.args.found.now in
    let shown : c.as_slice-2.result.now ≡ selected_spans regions start len ++ cut_spans start end (c.args.found.now ++ c.args.spans.now) =
    c.as_slice-2.ensures ∙ c.in_ok-put_cuts-2.ensures ∙
    ap (λ (ss : List Span). ss ++ cut_spans start end c.args.spans.now) (c.in_ok-put_cuts.ensures ∙ ap₂ (λ (ss ts : List Span). ss ++ ts) selected found) ∙
    append_assoc (selected_spans regions start len) (cut_spans start end c.args.found.now) (cut_spans start end c.args.spans.now) ∙
    ap (λ (ss : List Span). selected_spans regions start len ++ ss) (sym (cut_spans-append start end c.args.found.now c.args.spans.now)) in
    let few : end - start ≡ len = omega arith in
    let many : c.gaps_of-gaps.result ≡ gaps = c.gaps_of-gaps.ensures ∙ ap (own_gaps c.args.is_last) few in
    let cursor = c.in_ok-cursor.ensures ∙
    ap₂ (λ (n : ℕ) (rs : List Region). map (place_of line) (shown_gaps start n 0 (carets_of rs))) many touching ∙
    ap (map (place_of line)) (shown_gaps-touching start len end gaps regions is (own_gaps-few c.args.is_last len) c.requires.selection) in
    ap₂ (λ (cs : List ℕ) (ts : List Triple). made cs ts) cursor (c.in_ok-styles.ensures ∙ ap (triples_of line) shown)
  where
    made : List ℕ → List Triple → Line
    made cs ts = record { text = c.args.line; ln = c.args.piece.now.ln; cursor = cs; styles = ts }
