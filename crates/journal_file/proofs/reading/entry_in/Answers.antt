use Rattle.std.proofs.Common.{T, sym, subst, ◌∙◌}
use Rattle.std.proofs.lemmas.Result.{IfOk-weaker}
use Rattle.serde_json.specs.View.{view}
use Rattle.journal_file.proofs.FileLemmas.{entry_in-read, entry_in-unread}
use Rattle.journal_file.proofs.reading.entry_in.Goals as goal

pub returns-in-Ok : goal.returns-in-Ok
returns-in-Ok c =
    IfOk-weaker c.entry_of.result _ _ (λ entry is. is ∙ sym (entry_in-read c.args.line.now _ (view c.in-Ok.value) c.without_lf.ensures c.in-Ok.ensures.ok))
    c.entry_of.ensures

pub returns-else-is_memory : goal.returns-else-is_memory
returns-else-is_memory c =
    sym (entry_in-unread c.args.line.now _ c.without_lf.ensures
    (c.in-Err.ensures.err (λ memory. subst T (sym (c.is_memory.ensures.1 memory) ∙ c.if-is_memory.false) tt)))
