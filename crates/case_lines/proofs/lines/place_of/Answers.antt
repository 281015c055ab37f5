use Rattle.std.proofs.Common.{length, sym, arith}
use Rattle.std.specs.Prelude.{◌==◌}
use Rattle.std.proofs.lemmas.List.Sums.{position_or_len_is}
use Rattle.std.proofs.lemmas.Bool.Decides.{nat_tests}
use Rattle.case_lines.proofs.lines.place_of.Goals as goal

pub returns-then-b-byte-clause-place : goal.returns-then-b-byte-clause-place
returns-then-b-byte-clause-place c =
    sym (position_or_len_is (λ b. b == c.args.byte) c.args.bytes.now c.loop-place.place 0 (omega arith) c.loop-place.invariant
    (λ _. grind (arith, nat_tests)))

pub returns-clause-place : goal.returns-clause-place
returns-clause-place c =
    sym (position_or_len_is (λ b. b == c.args.byte) c.args.bytes.now (length c.args.bytes.now) 0 (omega arith)
    (λ k below. c.loop-place.invariant k (omega (arith, below))) (λ within. absurd (omega (arith, within))))
