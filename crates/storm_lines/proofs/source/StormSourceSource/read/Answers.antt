use Rattle.std.proofs.Common.{◌∙◌, sym, ap, arith}
use Rattle.std.proofs.lemmas.Grind.{common_steps}
use Rattle.storm_lines.specs.Lines.{line_bytes}
use Rattle.storm_lines.proofs.ReadLemmas.{next_given}
use Rattle.storm_lines.proofs.source.StormSourceSource.read.Goals as goal

pub returns-in-Some-clause-gives : goal.returns-in-Some-clause-gives
returns-in-Some-clause-gives c =
    sym c.self.view_is ∙
    next_given c.self.inside.begun c.self.inside.draws c.draw.new.self c.give-count.new.buf c.give.new.buf c.new-self-inside.result
    c.give.new.self c.in-Some.word c.give.result (grind (arith, common_steps)) c.in-Some.ensures.some
    (c.new-self-inside.ensures ∙ ap line_bytes c.of_word.ensures) c.give.ensures.count c.give.ensures.given c.give.ensures.after
