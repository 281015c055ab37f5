use Rattle.std.proofs.Common.{◌∙◌}
use Rattle.std.proofs.lemmas.Result.{IfOk-weaker}
use Rattle.journal_file.proofs.LinedLemmas.{IsOneLine-line_of, entry_in-line_of}
use Rattle.journal_file.proofs.writing.entry_line.Goals as goal

pub returns-clause-line : goal.returns-clause-line
returns-clause-line c =
    IfOk-weaker c.value_line.result _ _ (λ text is. IsOneLine-line_of _ _ is c.in_ok-value.ensures.plain) c.value_line.ensures

pub returns-clause-reads : goal.returns-clause-reads
returns-clause-reads c =
    IfOk-weaker c.value_line.result _ _
    (λ text is has. entry_in-line_of _ _ is c.in_ok-value.ensures.plain ∙ c.in_ok-value.ensures.reads has) c.value_line.ensures
