use Rattle.std.proofs.Common.{◌+◌}
use Rattle.macro_record.proofs.LineLemmas.{no_lf_found, lf_found, lines_of-only, lines_of-first}
use Rattle.macro_record.proofs.playing.cut_line.Goals as goal

pub returns-in-Some-clause-lines : goal.returns-in-Some-clause-lines
returns-in-Some-clause-lines c =
    let found = c.in-Some.ensures in
    lines_of-first c.args.bytes.now c.split_at.result.0.now c.split_at.result.1.now (c.in-Some.at + 1)
    (lf_found c.args.bytes.now c.in-Some.at found.0.high found.0.before found.1) c.split_at.ensures.front c.split_at.ensures.back

pub returns-in-None-clause-lines : goal.returns-in-None-clause-lines
returns-in-None-clause-lines c =
    lines_of-only c.args.bytes.now c.split_at-in-None.result.0.now c.split_at-in-None.result.1.now c.requires
    (no_lf_found c.args.bytes.now c.in-None.ensures) c.split_at-in-None.ensures.front c.split_at-in-None.ensures.back
