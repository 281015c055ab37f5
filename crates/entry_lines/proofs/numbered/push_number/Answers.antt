use Rattle.std.proofs.Common.{◌≡◌, ◌++◌, OnOk, decimal, ap, ◌∙◌, subst, arith}
use Rattle.std.proofs.lemmas.Fmt.{IsAscii-decimal}
use Rattle.std.proofs.lemmas.Str.{chars-IsAscii}
use Rattle.std.specs.Str.{chars}
use Rattle.entry_lines.proofs.numbered.push_number.Goals as goal

pub returns : goal.returns
returns c =
    let same : chars c.as_str.result.now ≡ decimal c.args.n =
    ap chars (c.as_str.ensures.value ∙ c.in_ok-to_string.ensures.ok) ∙ chars-IsAscii (decimal c.args.n) (IsAscii-decimal c.args.n (omega (arith, c.ranges.n.fits))) in
    subst (λ xs. OnOk c.push_str.result (c.push_str.new.self ≡ c.args.text.now ++ xs)) same c.push_str.ensures.pushed
