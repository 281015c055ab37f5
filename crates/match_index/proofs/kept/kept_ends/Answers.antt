use Rattle.std.proofs.Common.{sym, ◌∙◌}
use Rattle.delta_core.specs.UnitStep.{part_steps, steps_of}
use Rattle.match_index.proofs.KeptLemmas.{keeping-next, keeping-start, keeps-none}
use Rattle.match_index.proofs.kept.kept_ends.Goals as goal

pub returns-then-is_empty : goal.returns-then-is_empty
returns-then-is_empty c = keeps-none (steps_of c.args.units.now) (sym c.new-walk.ensures ∙ c.is_empty.ensures.0 c.if-is_empty.true)

pub loop-back-init : goal.loop-back-init
loop-back-init c =
    keeping-start (steps_of c.args.units.now) (part_steps c.next.result) c.next.new.self c.kept_in-front.result (sym c.new-walk.ensures ∙ c.next.ensures.next)
    c.kept_in-front.ensures

pub loop-back-preserved : goal.loop-back-preserved
loop-back-preserved c =
    keeping-next (steps_of c.args.units.now) (part_steps c.next-in-loop-back.result) c.next-in-loop-back.new.self c.loop-back.walk c.kept_in-front.result
    c.loop-back.back c.kept_in-back.result c.loop-back.invariant c.next-in-loop-back.ensures.next c.kept_in-back.ensures
