use Rattle.std.proofs.Common.{◌≡◌, ◌+◌, ◌≤◌, drop}
use Rattle.line_index.specs.Cuts.{firsts}
use Rattle.line_index.specs.Sizes.{cuts_in}
use Rattle.line_index.proofs.cut.firsts.Given as goal

abbrev pub invariant-loop-word : goal.invariant-loop-word
invariant-loop-word l = record {
  rest : l.count + firsts (cuts_in (drop l.word-index l.words)) ≡ firsts (cuts_in l.words);
  room : l.count ≤ l.word-index;
}
