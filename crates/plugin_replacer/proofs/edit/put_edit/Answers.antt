use Rattle.std.proofs.Common.{sym, ◌∙◌}
use Rattle.std.proofs.lemmas.Bool.{false≢true}
use Rattle.std.proofs.lemmas.Result.{on_ok_weaker}
use Rattle.plugin_replacer.specs.Turns.{in_utf8}
use Rattle.plugin_replacer.proofs.StepLemmas.{Puts-no_edit, Puts-edit}
use Rattle.plugin_replacer.proofs.edit.put_edit.Goals as goal

pub returns-then-is_empty-clause-all : goal.returns-then-is_empty-clause-all
returns-then-is_empty-clause-all c =
    Puts-no_edit c.args.leaf.now c.args.runs.now c.args.with.now (in_utf8 c.args.given.now) (c.is_empty.ensures.0 c.if-is_empty.true)

pub returns-clause-all : goal.returns-clause-all
returns-clause-all c =
    on_ok_weaker c.push.result
    (Puts-edit c.args.leaf.now c.args.runs.now c.args.with.now c.in_ok-command.command c.in_ok-line.line c.args.given.now _ (λ none. false≢true (sym c.if-is_empty.false ∙ c.is_empty.ensures.1 none))
    c.in_ok-command.ensures.command c.in_ok-line.ensures.line)
    c.push.ensures.pushed
