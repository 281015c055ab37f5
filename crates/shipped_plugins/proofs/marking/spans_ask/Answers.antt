use Rattle.std.proofs.Common.{◌<◌, ◌^◌, length, rules, ap, ◌∙◌}
use Rattle.plain_text.proofs.callers.TextLemmas.{length-encodes}
use Rattle.shipped_plugins.proofs.StepLemmas.{spans_ask-is, IsTakenCommand-spans}
use Rattle.shipped_plugins.proofs.marking.spans_ask.Goals as goal

pub returns-clause-command : goal.returns-clause-command
returns-clause-command c =
    spans_ask-is c.args.version.now c.args.chunk.now c.version.inside.view c.in_ok-copy.field-0 c.version.inside.rev _ c.in_ok-spans_of.field-0 c.version.view_is
    c.in_ok-copy.ensures (ap length c.as_str.ensures.utf8 ∙ length-encodes c.args.chunk.now) c.in_ok-spans_of.ensures

pub returns-clause-taken : goal.returns-clause-taken
returns-clause-taken c =
    let short : length c.as_str.result.now < 2 ^ 63 = search rules in
    IsTakenCommand-spans c.args.chunk.now c.in_ok-copy.field-0 c.version.inside.rev _ c.in_ok-spans_of.field-0 c.version.invariant short
    (ap length c.as_str.ensures.utf8 ∙ length-encodes c.args.chunk.now) c.in_ok-spans_of.ensures
