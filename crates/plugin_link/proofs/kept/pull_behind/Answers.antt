use Rattle.std.proofs.Common.{◌≡◌, ◌+◌, ◌≤◌, length, take, ap, ◌∙◌, arith, rules}
use Rattle.std.specs.Prelude.{is_ok}
use Rattle.std.proofs.lemmas.List.{places}
use Rattle.plugin_link.proofs.PullLemmas.{got_behind, room_behind, some_taken}
use Rattle.plugin_link.proofs.kept.pull_behind.Goals as goal

pub returns-in-Got : goal.returns-in-Got
returns-in-Got g c =
    let old = c.args.bytes.now.items in
    let len = c.len-len.result in
    let count = c.in-Got.count in
    let piece = c.in-Got.ensures.piece in
    let long : len ≡ length old = search (rules, places) in
    let room : len + count ≤ c.resize.new.self.len = search (rules, places) in
    let front : take len c.deref_mut.result.now ≡ old =
    ap (take len) c.deref_mut.ensures.value ∙
    room_behind (is_ok c.resize.result) old _ c.resize.new.self.items len (len + 4096) c.resize.ensures.items long (omega arith)
    in
    record {
      got = take count c.pull.new.buf;
      pulls = record { gives = c.in-Got.ensures.gives; held = c.in-Got.ensures.held_stay; faults = c.in-Got.ensures.faults_stay };
      kept = c.truncate.ensures.items ∙ got_behind old c.deref_mut.result.now c.pull.new.buf _ _ len count c.resize.new.self.len front long piece.1 room;
      by = some_taken count c.pull.new.buf piece.0 piece.1;
    }
