use Rattle.std.proofs.Common.{arith, ap, refl}
use Rattle.rev_engine.specs.State.{State}
use Rattle.rev_engine.proofs.SpentLemmas.{length-added_text}
use Rattle.rev_engine.proofs.StandLemmas.{refused-spent}
use Rattle.rev_engine.proofs.engine.Engine.fitting.Goals as goal

pub returns-then-from-total-clause-refused : goal.returns-then-from-total-clause-refused
returns-then-from-total-clause-refused c = λ history stands _.
    refused-spent c.args.self.now history c.args.edit.now.rev c.args.edit.now.delta stands _ _ c.in_ok-units.ensures.units.kept refl
    c.in_ok-units.ensures.units.fits (omega (arith, c.from.ensures, c.inserted_len.ensures.total, ap (λ (s : State). s.spent) c.self.view_is))
    (omega (arith, c.if-from-total.true, c.from-2.ensures, ap (λ (s : State). s.limit) c.self.view_is))

pub returns-clause-fits : goal.returns-clause-fits
returns-clause-fits c = record {
  base_kept = c.in_ok-units.ensures.units.kept.0;
  base_known = c.in_ok-units.ensures.units.kept.1;
  canonical = c.in_ok-units.ensures.units.says.canonical;
  base = c.in_ok-units.ensures.units.says.base;
  room = record {
    is = omega (
      arith,
      c.from.ensures,
      c.inserted_len.ensures.total,
      ap (λ (s : State). s.spent) c.self.view_is,
      length-added_text _ _ _ c.in_ok-units.ensures.units.says,
    );
    within = omega (arith, c.if-from-total.false, c.from-2.ensures, ap (λ (s : State). s.limit) c.self.view_is);
  };
}
