use Rattle.std.proofs.Common.{codes}
use Rattle.std.specs.Prelude.{string_bytes}
use Rattle.storm_lines.specs.Summary.{named_line}
use Rattle.storm_lines.proofs.PushLemmas.{six_pushed}
use Rattle.storm_lines.proofs.summary.Summary.text.Goals as goal

pub returns : goal.returns
returns c =
    let s = c.args.self.now in
    six_pushed (string_bytes c.new-text.result)
    (string_bytes c.push_line.new.text) (string_bytes c.push_line-2.new.text) (string_bytes c.push_line-3.new.text) (string_bytes c.push_line-4.new.text) (string_bytes c.push_line-5.new.text) (string_bytes c.push_line-6.new.text)
    (named_line (codes "entries") s.entries) (named_line (codes "revision") s.revision) (named_line (codes "characters") s.characters) (named_line (codes "kept") s.kept) (named_line (codes "lines") s.lines) (named_line (codes "valid") s.valid)
    c.new-text.ensures.bytes c.in_ok-push_line.ensures c.in_ok-push_line-2.ensures c.in_ok-push_line-3.ensures c.in_ok-push_line-4.ensures c.in_ok-push_line-5.ensures c.in_ok-push_line-6.ensures
