use Rattle.std.proofs.Common.{sym, ap, subst, ◌∙◌}
use Rattle.std.proofs.lemmas.Result.{IfOk-weaker}
use Rattle.serde_json.specs.View.{view}
use Rattle.journal_file.specs.Filed.{entry_of}
use Rattle.journal_file.specs.Lined.{IsPlain}
use Rattle.journal_file.proofs.LinedLemmas.{IsPlain-entry_data, entry_of-back}
use Rattle.journal_file.proofs.writing.entry_value.Goals as goal

pub returns-clause-plain : goal.returns-clause-plain
returns-clause-plain c =
    IfOk-weaker c.parts_value.result _ _
    (λ value is. subst (IsPlain 2) (sym is)
    (IsPlain-entry_data _ _ _ _ c.parts_value.ensures.held c.in_ok-command.ensures.plain c.in_ok-note.ensures.plain))
    c.parts_value.ensures.value

pub returns-clause-reads : goal.returns-clause-reads
returns-clause-reads c =
    IfOk-weaker c.parts_value.result _ _
    (λ value is has. ap entry_of is
    ∙ entry_of-back c.args.entry.now (view c.in_ok-command.command) (view c.in_ok-note.note) c.parts_value.ensures.held (c.in_ok-command.ensures.reads has) c.in_ok-note.ensures.reads)
    c.parts_value.ensures.value
