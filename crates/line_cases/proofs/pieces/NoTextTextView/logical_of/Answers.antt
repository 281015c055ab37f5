use Rattle.std.proofs.Common.{◌≡◌, ℕ, [], ◌∷◌, Some, ap, sym, arith}
use Rattle.plain_screen.specs.View.{extent_of, line_under}
use Rattle.line_cases.proofs.pieces.NoTextTextView.logical_of.Goals as goal

pub returns : goal.returns
returns c =
    let first : c.args._line ≡ 0 = omega (arith, c.requires) in
    ap (λ (n : ℕ). extent_of (line_under [] (record { start = 0; end = 0; ln = Some 1 } ∷ []) n)) (sym first)
