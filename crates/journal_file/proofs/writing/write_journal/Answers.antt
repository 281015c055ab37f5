use Rattle.std.proofs.Common.{◌≡◌, Some, sym, subst, ◌∙◌, arith}
use Rattle.std.specs.Prelude.{IfSome}
use Rattle.std.specs.Str.{encode_utf8_all}
use Rattle.journal_file.specs.Filed.{IsOneLine, entry_in}
use Rattle.journal_file.proofs.FileLemmas.{pushed_on, written_all, written_next}
use Rattle.journal_file.proofs.writing.write_journal.Goals as goal

pub loop-at-preserved : goal.loop-at-preserved
loop-at-preserved c =
    written_next c.loop-at.text c.in-Ok-Some.line c.push_text.new.self c.args.journal.now c.loop-at.at c.index-journal-at.result
    (pushed_on c.push_text.result (sym c.is_err.ensures.value ∙ c.if-is_err.false) c.push_text.ensures.pushed)
    (subst (λ made. IfSome made (λ text. IsOneLine (encode_utf8_all text))) c.in-Ok-Some.field-0-is c.in-Ok-Some.ensures.line)
    (subst (λ made. IfSome made (λ text. entry_in (encode_utf8_all text) ≡ Some c.index-journal-at.result)) c.in-Ok-Some.field-0-is
    c.in-Ok-Some.ensures.reads_back)
    c.loop-at-test.true c.index-journal-at.is c.loop-at.invariant

pub returns-clause-reads_back : goal.returns-clause-reads_back
returns-clause-reads_back c =
    written_all c.args.journal.now c.loop-at.at c.loop-at.text (omega (arith, c.loop-at-test.false, c.loop-at.auto.at-end)) c.loop-at.invariant
