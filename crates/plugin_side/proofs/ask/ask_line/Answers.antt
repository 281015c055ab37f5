use Rattle.std.proofs.Common.{IfOk, sym, ap, ◌∙◌, subst}
use Rattle.std.specs.Str.{encode_utf8_all}
use Rattle.std.proofs.lemmas.Result.{IfOk-weaker}
use Rattle.json_rpc.specs.Line.{line_of, IsLineOf}
use Rattle.plugin_side.specs.Asking.{command_data}
use Rattle.plugin_side.proofs.Plain.{IsPlain-command, IsLineOf-command}
use Rattle.plugin_side.proofs.ReadBack.{ask_of-command}
use Rattle.plugin_side.proofs.ask.ask_line.Goals as goal

pub line-requires : goal.line-requires
line-requires c = rw c.in_ok-value.ensures.value (IsPlain-command c.args.command.now c.requires c.in_ok-value.ensures.held).whole

written : (c : goal.Joined-value) → IfOk c.line.result (λ text. IsLineOf (command_data c.args.command.now) (encode_utf8_all text))
written c =
    IfOk-weaker c.line.result _ _
    (λ text is. subst (IsLineOf (command_data c.args.command.now)) (sym (is ∙ ap line_of c.in_ok-value.ensures.value)) (IsLineOf-command c.args.command.now c.requires c.in_ok-value.ensures.held))
    c.line.ensures

pub returns-clause-line : goal.returns-clause-line
returns-clause-line c = written c

pub returns-clause-asked : goal.returns-clause-asked
returns-clause-asked c =
    IfOk-weaker c.line.result _ _ (λ text is taken. ask_of-command c.args.command.now _ is c.requires c.in_ok-value.ensures.held taken) (written c)
