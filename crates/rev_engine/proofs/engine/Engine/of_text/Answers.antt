use Rattle.std.proofs.Common.{refl, ap, arith, replicate, ◌∙◌}
use Rattle.plain_edits.specs.History.{loaded}
use Rattle.rev_engine.proofs.StandLemmas.{IsHeld-loaded, StandsFor-loaded}
use Rattle.rev_engine.proofs.engine.Engine.of_text.Goals as goal

pub invariant_of-result : goal.invariant_of-result
invariant_of-result c =
    IsHeld-loaded c.args.text _ _ _ c.args.limit c.in_ok-union.ensures (c.in_ok-head.ensures ∙ c.in_ok-union.ensures)
    (c.in_ok-revs.ensures ∙ ap (λ n. loaded (replicate n 0)) c.char_count.ensures) c.requires
    (omega (arith, c.len_of-bytes.ensures.length, c.len_of-bytes.ensures.bound))

pub returns-clause-stands : goal.returns-clause-stands
returns-clause-stands c =
    StandsFor-loaded _ c.args.text c.in_ok-union.ensures (c.in_ok-revs.ensures ∙ ap (λ n. loaded (replicate n 0)) c.char_count.ensures) refl
