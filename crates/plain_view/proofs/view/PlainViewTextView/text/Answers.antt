use Rattle.std.proofs.Common.{ℕ, List, ◌-◌, ◌≡◌, ◌≤◌, take, drop, ap, ◌∙◌, sym, subst}
use Rattle.std.specs.Prelude.{IfOk}
use Rattle.std.specs.Str.{chars}
use Rattle.plain_view.proofs.PieceLemmas.{drop-from, layout_line_of-there, length-from}
use Rattle.plain_view.proofs.view.PlainViewTextView.text.Goals as goal

pub overflow_sub-from : goal.overflow_sub-from
overflow_sub-from c = rw (c.from_line-start.ensures.start, c.line_of.ensures.line) (layout_line_of-there _ _ c.args.from c.line_of.ensures.sound).1

pub split_at_gap-requires-2 : goal.split_at_gap-requires-2
split_at_gap-requires-2 c =
    let start : c.from_line-start.result.0 ≤ c.args.from =
    rw (c.from_line-start.ensures.start, c.line_of.ensures.line) (layout_line_of-there _ _ c.args.from c.line_of.ensures.sound).1 in
    rw (c.split_at_gap.ensures.back, c.from_line-start.ensures.rest, sym c.from_line-start.ensures.start)
    (length-from c.args.self.now.text c.from_line-start.result.0 c.args.from c.args.to start c.requires.ordered c.requires.inside)

pub returns : goal.returns
returns c =
    let text = c.args.self.now.text in
    let start : c.from_line-start.result.0 ≤ c.args.from =
    rw (c.from_line-start.ensures.start, c.line_of.ensures.line) (layout_line_of-there _ _ c.args.from c.line_of.ensures.sound).1 in
    let rest : chars c.from_line-start.result.1.now ≡ drop c.from_line-start.result.0 text =
    c.from_line-start.ensures.rest ∙ ap (λ (n : ℕ). drop n text) (sym c.from_line-start.ensures.start) in
    let part : chars c.split_at_gap-2.result.0.now ≡ take (c.args.to - c.args.from) (drop c.args.from text) =
    c.split_at_gap-2.ensures.front ∙
    ap (take (c.args.to - c.args.from)) (c.split_at_gap.ensures.back ∙ ap (drop (c.args.from - c.from_line-start.result.0)) rest ∙
    drop-from text c.from_line-start.result.0 c.args.from start) in
    subst (λ (wanted : List ℕ). IfOk c.from_str.result (λ made. made ≡ wanted)) part c.from_str.ensures.made
