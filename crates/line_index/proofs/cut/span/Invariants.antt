use Rattle.std.proofs.Common.{◌≡◌, ◌+◌, drop}
use Rattle.line_index.specs.Cuts.{span}
use Rattle.line_index.specs.Sizes.{cuts_in}
use Rattle.line_index.proofs.cut.span.Given as goal

abbrev pub invariant-loop-word : goal.invariant-loop-word
invariant-loop-word l = record {
  rest : l.count + span (cuts_in (drop l.word-index l.words)) ≡ span (cuts_in l.words);
}
