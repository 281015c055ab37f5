use Rattle.std.proofs.Common.{◌∙◌, subst, arith, List, ℕ, length-drop}
use Rattle.outside.specs.Sink.{Gains}
use Rattle.outside.proofs.ForCallers.{Gains-append}
use Rattle.xi_forms.proofs.PieceLemmas.{take-plus_rest}
use Rattle.xi_forms.proofs.write.write_piece.Goals as goal

pub loop-taken-preserved : goal.loop-taken-preserved
loop-taken-preserved g c =
    let At : List ℕ → Type 0 = λ gained. Gains (g.K.Sink.held c.args.sink.now) (g.K.Sink.held c.write.new.self) gained in
    record {
      within = omega (arith, c.in-Took.ensures.part, length-drop c.loop-taken.taken c.args.piece.now);
      gains =
          subst At (take-plus_rest c.loop-taken.taken c.in-Took.n c.args.piece.now)
          (Gains-append _ _ _ _ _ c.loop-taken.invariant.gains c.in-Took.ensures.gains);
      failures = c.in-Took.ensures.failures ∙ c.loop-taken.invariant.failures;
      stays = omega (arith, c.loop-taken.invariant.stays, c.in-Took.ensures.faults_stay);
    }
