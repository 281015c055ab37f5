use Rattle.std.proofs.Common.{rules, ◌≡◌, arith, length}
use Rattle.std.specs.Str.{chars}
use Rattle.std.proofs.lemmas.Str.{chars_from_encodes}
use Rattle.line_cases.proofs.stretch_breaks.parts_at.Goals as goal

pub split_at_gap-requires : goal.split_at_gap-requires
split_at_gap-requires c =
    let last : c.count-last.result ≡ length (chars c.args.text.now) = search (rules, chars_from_encodes) in
    omega (arith, last, c.min.ensures)
