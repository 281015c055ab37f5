use Rattle.std.proofs.Common.{◌∙◌, sym, arith}
use Rattle.std.proofs.lemmas.Bool.Decides.{nat_tests}
use Rattle.storm_lines.proofs.DrawLemmas.{draws_next}
use Rattle.storm_lines.proofs.source.Draws.draw.Goals as goal

pub returns-clause-some : goal.returns-clause-some
returns-clause-some c =
    sym c.self.view_is ∙
    draws_next c.self.inside.count c.self.inside.words c.next_word.new.self c.next_word.result (grind (arith, nat_tests, c.if-self-eq0.false))
    c.next_word.ensures
