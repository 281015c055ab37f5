use Rattle.std.proofs.Common.{◌≡◌, drop}
use Rattle.plain_text.specs.Text.{byte_len}
use Rattle.plain_edits.specs.Delta.{copies_misfit}
use Rattle.rev_engine.proofs.short.fits.Given as goal

abbrev pub invariant-loop-el : goal.invariant-loop-el
invariant-loop-el l = record {
  base : l.delta.base_len ≡ byte_len l.text;
  rest : copies_misfit l.text l.end (drop l.el-index l.delta.els) ≡ copies_misfit l.text 0 l.delta.els;
}
