use Rattle.std.proofs.Common.{arith, ap, length, sym, subst, ◌∙◌}
use Rattle.line_render.specs.Rendered.{carets_of}
use Rattle.span_runs.specs.Places.{RiseUpTo}
use Rattle.line_render.proofs.CursorLemmas.{RiseUpTo-shown}
use Rattle.line_render.proofs.carets.cursor_in.Goals as goal

pub places_of-requires-clause-len : goal.places_of-requires-clause-len
places_of-requires-clause-len c = c.requires.len ∙ ap length (sym c.as_str.ensures.characters)

pub places_of-requires-clause-rise : goal.places_of-requires-clause-rise
places_of-requires-clause-rise c =
    subst (RiseUpTo 0 c.args.len) (sym (c.as_slice.ensures ∙ c.in_ok-shown.ensures))
    (RiseUpTo-shown c.args.start c.args.gaps c.args.len 0 (carets_of c.args.regions.now) (let few = c.requires.gaps in let len = c.requires.len in omega arith))
