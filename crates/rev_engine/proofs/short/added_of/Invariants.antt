use Rattle.std.proofs.Common.{◌≡◌, [], ◌++◌, drop}
use Rattle.plain_edits.specs.Delta.{insertions}
use Rattle.rev_engine.specs.Joined.{joined_adds}
use Rattle.rev_engine.proofs.short.added_of.Given as goal

abbrev pub invariant-loop-el : goal.invariant-loop-el
invariant-loop-el l = l.made ++ joined_adds l.gap l.here (insertions l.text l.at (drop l.el-index l.els)) ≡ joined_adds 0 [] (insertions l.text 0 l.els)
