use Rattle.std.proofs.Common.{arith, ap, ◌∙◌}
use Rattle.std.specs.Prelude.{slice_range}
use Rattle.plain_text.specs.declared.run.Run.{Run}
use Rattle.movement_core.proofs.LineLemmas.{under-le, under-text}
use Rattle.movement_core.proofs.lines.line_text.Goals as goal

pub text-requires-clause-ordered : goal.text-requires-clause-ordered
text-requires-clause-ordered g c = let own = c.logical_of-own.ensures in rw own (omega arith)

pub text-requires-clause-inside : goal.text-requires-clause-inside
text-requires-clause-inside g c = rw c.logical_of-own.ensures (under-le (g.T.TextView.text_of c.args.view.now) (g.T.TextView.pieces_of c.args.view.now) c.args.line)

pub returns : goal.returns
returns g c =
    let text = g.T.TextView.text_of c.args.view.now in
    let pieces = g.T.TextView.pieces_of c.args.view.now in record {
      start = ap (λ (own : Run). own.start) c.logical_of-own.ensures;
      text = c.in_ok-text.ensures ∙ ap (λ (own : Run). slice_range text own.start own.end) c.logical_of-own.ensures ∙ under-text text pieces c.args.line;
    }
