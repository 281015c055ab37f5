use denote.Shadow.{shadow}
use denote.Text.{Utf8}
use Rattle.std.proofs.Common.{◌≡◌, ◌+◌, length}
use Rattle.std.specs.Str.{chars}
use Rattle.plain_text.specs.Text.{byte_len}
use Rattle.rev_rebase.specs.Rebase.{put_in}
use Rattle.rev_engine.proofs.FlatLemmas.{IsPuttingAt}
use Rattle.rev_engine.proofs.flat.with_put_in.Given as goal

abbrev pub invariant-loop-rest : goal.invariant-loop-rest
invariant-loop-rest l = record {
  putting : IsPuttingAt l.made l.gap (chars l.rest) l.walk (put_in l.at l.text l.union) (byte_len l.union + byte_len l.text);
  passed : l.gap + length l.walk ≡ length l.at;
  utf8 : shadow (Utf8 l.rest);
}

abbrev pub decreases-loop-rest : goal.decreases-loop-rest
decreases-loop-rest l = length l.walk
