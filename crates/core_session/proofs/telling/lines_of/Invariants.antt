use Rattle.std.proofs.Common.{◌≡◌, ◌++◌, drop}
use Rattle.core_session.specs.Notes.{lines_in}
use Rattle.core_session.proofs.telling.lines_of.Given as goal

abbrev pub invariant-loop-news : goal.invariant-loop-news
invariant-loop-news l = l.lines ++ lines_in (drop l.news-index l.told) ≡ lines_in l.told
