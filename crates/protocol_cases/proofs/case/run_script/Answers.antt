use Rattle.std.proofs.Common.{ap, ◌∙◌}
use Rattle.protocol_cases.specs.declared.verdict.Expected.{Expected}
use Rattle.protocol_cases.specs.Player.{players_of}
use Rattle.protocol_cases.proofs.CaseLemmas.{judged}
use Rattle.protocol_cases.proofs.case.run_script.Goals as goal

pub returns : goal.returns
returns c =
    let script = c.args.script in
    let expected : Expected =
    record { output = c.from_vec.result; turns = script.turns.turns; files = c.into_files.result; status = script.status } in
    judged script c.into_source.result c.into_sink-sink.result.0 c.in_ok-shelf_before.shelf_before c.in_ok-players.players.items c.made-run.result expected
    c.in_ok-verdict.verdict
    (λ t. record { left = c.into_source.ensures.left t; greatest = c.into_source.ensures.piece t; schedule = c.into_source.ensures.schedule t })
    (λ t. record { held = c.into_sink-sink.ensures.held t; refused = c.into_sink-sink.ensures.refused t; greatest = c.into_sink-sink.ensures.piece t; schedule = c.into_sink-sink.ensures.schedule t })
    (λ t. record { files = c.in_ok-shelf_before.ensures.files t; schedule = c.in_ok-shelf_before.ensures.schedule t })
    (c.in_ok-players.ensures.players ∙ ap (λ turns. players_of turns 1 c.min-count.result) c.as_slice.ensures ∙ ap (players_of script.turns.turns 1) c.min-count.ensures)
    (λ t. record { output = (c.from_vec.ensures ∙ c.into_sink-sink.ensures.bytes) t; turns = script.turns.turns; files = c.into_files.ensures t; status = script.status })
    (record { runs = c.made-run.ensures.runs; turns = c.made-run.ensures.turns }) c.in_ok-verdict.ensures
