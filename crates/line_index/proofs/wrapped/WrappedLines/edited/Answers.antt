use Rattle.std.proofs.Common.{IsTrue, List, ap, arith, length, subst, sym, ◌∙◌}
use Rattle.plain_text.specs.Lines.{logical_lines}
use Rattle.line_index.specs.declared.cut.Cut.{Cut}
use Rattle.line_index.specs.Cuts.{cuts_of}
use Rattle.line_index.specs.Inner.{cuts_under}
use Rattle.line_index.specs.Sizes.{is_countable, sizes_of}
use Rattle.line_index.proofs.ChangedLemmas.{cuts_before-inside, cuts_before-rise}
use Rattle.line_index.proofs.CutLemmas.{sizes-fit}
use Rattle.line_index.proofs.WrappedLemmas.{edited-cuts}
use Rattle.line_index.proofs.wrapped.WrappedLines.edited.Goals as goal

pub touched_lines-lines-requires-clause-base : goal.touched_lines-lines-requires-clause-base
touched_lines-lines-requires-clause-base g c = rw (← c.self.view_is) at c.requires.base

pub touched_lines-lines-requires-clause-leads : goal.touched_lines-lines-requires-clause-leads
touched_lines-lines-requires-clause-leads g c = rw (← c.self.view_is) at c.requires.after

pub touched_lines-lines-requires-clause-short : goal.touched_lines-lines-requires-clause-short
touched_lines-lines-requires-clause-short g c = c.self.invariant.small

pub touched_lines-lines-requires-clause-short_after : goal.touched_lines-lines-requires-clause-short_after
touched_lines-lines-requires-clause-short_after g c = c.in_ok-check_length.ensures.small

pub cuts-requires-clause-ordered : goal.cuts-requires-clause-ordered
cuts-requires-clause-ordered g c = c.touched_lines-lines.ensures.low

pub cuts-requires-clause-inside : goal.cuts-requires-clause-inside
cuts-requires-clause-inside g c = c.touched_lines-lines.ensures.inside

pub cuts-requires-clause-small : goal.cuts-requires-clause-small
cuts-requires-clause-small g c = c.in_ok-check_length.ensures.small

pub returns-in_err-come-clause-ticks : goal.returns-in_err-come-clause-ticks
returns-in_err-come-clause-ticks g c =
    let few = c.touched_lines-lines.ensures.few in rw (← c.self.view_is) (omega (arith, few, c.cuts.ensures.ticks))

pub cuts_before-first-requires : goal.cuts_before-first-requires
cuts_before-first-requires g c =
    let ordered = c.touched_lines-lines.ensures.ordered in
    let within = c.touched_lines-lines.ensures.within in
    rw (← c.self.view_is) (omega (arith, ordered, within))

pub cuts_before-past-requires : goal.cuts_before-past-requires
cuts_before-past-requires g c = rw (← c.self.view_is) c.touched_lines-lines.ensures.within

pub edited-requires-clause-ordered : goal.edited-requires-clause-ordered
edited-requires-clause-ordered g c =
    let own = c.args.self.now in
    omega (
      arith,
      c.cuts_before-first.ensures,
      c.cuts_before-past.ensures,
      cuts_before-rise own.width own.tab c.touched_lines-lines.result.from c.touched_lines-lines.result.old (logical_lines own.text) c.touched_lines-lines.ensures.ordered,
    )

pub edited-requires-clause-inside : goal.edited-requires-clause-inside
edited-requires-clause-inside g c =
    let own = c.self.inside in
    let past = rw (← c.self.view_is) at c.cuts_before-past.ensures in
    omega (arith, past, ap (λ (cuts : List Cut). length cuts) c.self.invariant.are, cuts_before-inside own.width own.tab own.rope c.touched_lines-lines.result.old)

pub edited-requires-clause-fits : goal.edited-requires-clause-fits
edited-requires-clause-fits g c =
    let own = c.self.inside in
    let lines = c.touched_lines-lines.result in
    let first = rw (← c.self.view_is) at c.cuts_before-first.ensures in
    let past = rw (← c.self.view_is) at c.cuts_before-past.ensures in
    subst (λ (cuts : List Cut). IsTrue (is_countable (sizes_of cuts)))
    (sym (edited-cuts c.args.units.now own.rope c.args.rope.now lines.from lines.old lines.new own.width own.tab (cuts_under own.cuts) (cuts_under c.in_ok-come.come)
    c.cuts_before-first.result c.cuts_before-past.result c.touched_lines-lines.ensures c.self.invariant first past c.in_ok-come.ensures.cuts))
    (sizes-fit own.width own.tab c.args.rope.now c.check_length.ensures.characters c.in_ok-check_length.ensures.small)

pub returns-in_err-cuts-clause-ticks : goal.returns-in_err-cuts-clause-ticks
returns-in_err-cuts-clause-ticks g c =
    let few = c.touched_lines-lines.ensures.few in rw (← c.self.view_is) (omega (arith, few, c.cuts.ensures.ticks))

pub returns-in_err-copy-clause-ticks : goal.returns-in_err-copy-clause-ticks
returns-in_err-copy-clause-ticks g c =
    let few = c.touched_lines-lines.ensures.few in rw (← c.self.view_is) (omega (arith, few, c.cuts.ensures.ticks))

pub invariant_of-result : goal.invariant_of-result
invariant_of-result g c =
    let own = c.self.inside in
    let lines = c.touched_lines-lines.result in
    let first = rw (← c.self.view_is) at c.cuts_before-first.ensures in
    let past = rw (← c.self.view_is) at c.cuts_before-past.ensures in
    let made =
    edited-cuts c.args.units.now own.rope c.args.rope.now lines.from lines.old lines.new own.width own.tab (cuts_under own.cuts) (cuts_under c.in_ok-come.come)
    c.cuts_before-first.result c.cuts_before-past.result c.touched_lines-lines.ensures c.self.invariant first past c.in_ok-come.ensures.cuts in
    record {
      wraps = c.self.invariant.wraps;
      are = c.in_ok-cuts.ensures ∙ made ∙ ap (cuts_of own.width own.tab) (sym c.in_ok-copy.ensures);
      characters = rw c.in_ok-copy.ensures c.check_length.ensures.characters;
      small = rw c.in_ok-copy.ensures c.in_ok-check_length.ensures.small;
    }

pub returns-clause-ticks : goal.returns-clause-ticks
returns-clause-ticks g c =
    let few = c.touched_lines-lines.ensures.few in rw (← c.self.view_is) (omega (arith, few, c.cuts.ensures.ticks))
