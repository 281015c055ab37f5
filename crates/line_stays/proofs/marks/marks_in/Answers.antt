use Rattle.std.proofs.Common.{List, Bool, ap, ap₂, length, subst, sym, ◌∙◌}
use Rattle.plain_text.specs.declared.selection.Region.{Region}
use Rattle.plain_text.specs.Numbers.{has}
use Rattle.subset_runs.specs.Subset.{contains, symmetric_difference, union}
use Rattle.line_render.specs.Rendered.{carets_of, is_selected}
use Rattle.match_index.specs.Found.{runs_in}
use Rattle.selection_core.specs.Selection.{IsSelection}
use Rattle.line_stays.specs.Inner.{flags_by}
use Rattle.line_stays.proofs.MarkLemmas.{alike-at, long-carets, long-found, long-marks, long-more, long-selected, long-some, long-styled, marks-made, styled-at}
use Rattle.line_stays.proofs.marks.marks_in.Goals as goal

pub carets_apart-requires-clause-one : goal.carets_apart-requires-clause-one
carets_apart-requires-clause-one g c = subst IsSelection (sym c.as_slice-regions.ensures) c.requires.one.selection

pub carets_apart-requires-clause-another : goal.carets_apart-requires-clause-another
carets_apart-requires-clause-another g c = subst IsSelection (sym c.as_slice-others.ensures) c.requires.another.selection

pub selected_apart-requires-clause-one : goal.selected_apart-requires-clause-one
selected_apart-requires-clause-one g c = subst IsSelection (sym c.as_slice-regions.ensures) c.requires.one.selection

pub selected_apart-requires-clause-another : goal.selected_apart-requires-clause-another
selected_apart-requires-clause-another g c = subst IsSelection (sym c.as_slice-others.ensures) c.requires.another.selection

pub union-requires : goal.union-requires
union-requires g c =
    ap length c.in_ok-carets.ensures ∙
    long-carets c.as_slice-regions.result.now c.as_slice-others.result.now c.args.gaps.old c.args.gaps.new c.args.gaps.n ∙
    sym
    (ap length c.in_ok-selected.ensures ∙
    long-selected c.as_slice-regions.result.now c.as_slice-others.result.now c.args.gaps.old c.args.gaps.new c.args.gaps.n)

pub union-requires-2 : goal.union-requires-2
union-requires-2 g c =
    ap length (c.in_ok-some.ensures ∙ ap₂ (λ (xs ys : List Bool). union xs ys) c.in_ok-carets.ensures c.in_ok-selected.ensures) ∙
    long-some c.as_slice-regions.result.now c.as_slice-others.result.now c.args.gaps.old c.args.gaps.new c.args.gaps.n ∙
    sym
    (ap length c.in_ok-found.ensures ∙
    long-found (runs_in c.args.before.now.results.now) (runs_in c.args.after.now.results.now) c.args.gaps.old c.args.gaps.new c.args.gaps.n)

pub union-requires-3 : goal.union-requires-3
union-requires-3 g c =
    ap length
    (c.in_ok-more.ensures ∙
    ap₂ (λ (xs ys : List Bool). union xs ys)
    (c.in_ok-some.ensures ∙ ap₂ (λ (xs ys : List Bool). union xs ys) c.in_ok-carets.ensures c.in_ok-selected.ensures) c.in_ok-found.ensures) ∙
    long-more c.as_slice-regions.result.now c.as_slice-others.result.now (runs_in c.args.before.now.results.now) (runs_in c.args.after.now.results.now)
    c.args.gaps.old c.args.gaps.new c.args.gaps.n ∙
    sym (ap length c.in_ok-styled.ensures ∙ long-styled c.args.change c.args.gaps.old c.args.gaps.n)

pub returns-clause-count : goal.returns-clause-count
returns-clause-count g c =
    ap length
    (marks-made c.as_slice-regions.result.now c.as_slice-others.result.now (runs_in c.args.before.now.results.now) (runs_in c.args.after.now.results.now)
    c.args.change c.args.gaps.old c.args.gaps.new c.args.gaps.n _ _ _ _ _ _ _ c.in_ok-carets.ensures c.in_ok-selected.ensures c.in_ok-found.ensures
    c.in_ok-styled.ensures c.in_ok-some.ensures c.in_ok-more.ensures c.in_ok-union.ensures) ∙
    long-marks c.as_slice-regions.result.now c.as_slice-others.result.now (runs_in c.args.before.now.results.now) (runs_in c.args.after.now.results.now)
    c.args.change c.args.gaps.old c.args.gaps.new c.args.gaps.n

pub returns-clause-alike : goal.returns-clause-alike
returns-clause-alike g c = λ k less none.
    let made =
    marks-made c.args.before.now.sel.now.regions c.args.after.now.sel.now.regions (runs_in c.args.before.now.results.now) (runs_in c.args.after.now.results.now)
    c.args.change c.args.gaps.old c.args.gaps.new c.args.gaps.n _ _ _ _ _ _ _
    (c.in_ok-carets.ensures ∙
    ap₂
    (λ (rs os : List Region). symmetric_difference (flags_by (has (carets_of rs)) c.args.gaps.old c.args.gaps.n)
    (flags_by (has (carets_of os)) c.args.gaps.new c.args.gaps.n)) c.as_slice-regions.ensures c.as_slice-others.ensures)
    (c.in_ok-selected.ensures ∙
    ap₂
    (λ (rs os : List Region). symmetric_difference (flags_by (is_selected rs) c.args.gaps.old c.args.gaps.n)
    (flags_by (is_selected os) c.args.gaps.new c.args.gaps.n)) c.as_slice-regions.ensures c.as_slice-others.ensures) c.in_ok-found.ensures
    c.in_ok-styled.ensures c.in_ok-some.ensures c.in_ok-more.ensures c.in_ok-union.ensures in
    alike-at c.args.before.now.sel.now.regions c.args.after.now.sel.now.regions (runs_in c.args.before.now.results.now) (runs_in c.args.after.now.results.now)
    c.args.change c.args.gaps.old c.args.gaps.new c.args.gaps.n k less (sym (ap (λ (marks : List Bool). contains marks k) made) ∙ none)

pub returns-clause-styled : goal.returns-clause-styled
returns-clause-styled g c = λ k less none.
    let made =
    marks-made c.as_slice-regions.result.now c.as_slice-others.result.now (runs_in c.args.before.now.results.now) (runs_in c.args.after.now.results.now)
    c.args.change c.args.gaps.old c.args.gaps.new c.args.gaps.n _ _ _ _ _ _ _ c.in_ok-carets.ensures c.in_ok-selected.ensures c.in_ok-found.ensures
    c.in_ok-styled.ensures c.in_ok-some.ensures c.in_ok-more.ensures c.in_ok-union.ensures in
    styled-at c.as_slice-regions.result.now c.as_slice-others.result.now (runs_in c.args.before.now.results.now) (runs_in c.args.after.now.results.now)
    c.args.change c.args.gaps.old c.args.gaps.new c.args.gaps.n k less (sym (ap (λ (marks : List Bool). contains marks k) made) ∙ none)
