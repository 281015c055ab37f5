use Rattle.std.proofs.Common.{arith, ◌∙◌}
use Rattle.std.specs.Str.{chars}
use Rattle.span_runs.proofs.GapLemmas.{byte_len-chars, place_of-plain}
use Rattle.span_runs.proofs.places.place_past.Goals as goal

pub returns-then-text-len : goal.returns-then-text-len
returns-then-text-len c =
    let inside = c.requires.inside in
    let len = c.requires.len in
    place_of-plain (chars c.args.text.now) c.args.gap (byte_len-chars c.args.text.now c.utf8.text ∙ c.if-text-len.true ∙ c.requires.len) (omega arith)
