use Rattle.entry_lines.proofs.Texts.{IsTellingTo}
use Rattle.entry_lines.proofs.notice.notices_of.Given as goal

abbrev pub invariant-loop-told : goal.invariant-loop-told
invariant-loop-told l = IsTellingTo l.news l.told-index l.texts
