use Rattle.std.proofs.Common.{sym, ap, ◌∙◌}
use Rattle.shipped_plugins.specs.Turns.{utf8_of}
use Rattle.shipped_plugins.proofs.TurnLemmas.{Gives-pushed}
use Rattle.shipped_plugins.proofs.StepLemmas.{Comes-read, popped-back}
use Rattle.shipped_plugins.proofs.marking.Marking.read_version.Goals as goal
use Rattle.shipped_plugins.proofs.marking.Marking.read_version.Goals.{in-Some-1, in-None-1}

pub returns-in-Ok-clause-all : goal.returns-in-Ok-clause-all
returns-in-Ok-clause-all c =
    Comes-read c.args.self.now c.args.version c.self.inside.next c.self.inside.asked.entries c.insert.new.self.entries c.in_ok-command.command
    (utf8_of c.args.given.now) (utf8_of c.push.new.self) c.self.view_is c.requires c.in_ok-command.ensures.command c.in-Ok.ensures.entries
    (Gives-pushed c.in_ok-command.command c.in_ok-line.line c.args.given.now c.push.new.self c.in_ok-line.ensures.line (c.in_ok-line.ensures.asked c.in_ok-command.ensures.taken) c.in_ok-push.ensures.pushed)

pub returns-clause-unchanged : goal.returns-clause-unchanged
returns-clause-unchanged c =
    let same = ap (λ entries. record { next = c.self.inside.next; asked = entries }) c.in-Err.ensures.err ∙ c.self.view_is in
    let pushed = sym c.in_ok-push.ensures.pushed in (
      elim c.match-line.branch [
        | in-Some-1 w ↦ w.self-is ∙ same
        | in-None-1 w ↦ w.self-is ∙ same
      ],
      popped-back c.args.given.now c.pop-line.new.self c.in_ok-line.line c.pop-line.result (pushed ∙ c.pop-line.ensures.popped)
          (λ none. pushed ∙ c.pop-line.ensures.none.0 none),
    )
