use Rattle.std.proofs.Common.{drop}
use Rattle.style_numbers.specs.InMemory.{IsNumbering}
use Rattle.style_numbers.proofs.numbered.number_spans.Given as goal

abbrev pub invariant-loop-span : goal.invariant-loop-span
invariant-loop-span l = IsNumbering l.table l.spans (drop l.span-index l.spans) l.made
