use Rattle.std.proofs.Common.{◌∙◌, arith}
use Rattle.std.proofs.lemmas.Grind.{common_steps}
use Rattle.std.specs.Str.{chars}
use Rattle.screen_flags.proofs.NextLemmas.{next_line}
use Rattle.screen_flags.proofs.told.count_valid.Goals as goal

pub loop-rest-preserved : goal.loop-rest-preserved
loop-rest-preserved c =
    c.loop-rest.invariant ∙
    next_line (chars c.args.id.now) c.loop-rest.flags c.heed.new.flags c.loop-rest.rest.now c.first_line.result.0.now c.first_line.result.1.now
    (grind (arith, common_steps)) c.first_line.ensures.line c.first_line.ensures.rest c.in_ok-heed.ensures
