use Rattle.std.proofs.Common.{ℕ, List, [], ◌∷◌, ◌++◌, map, Bor, ap, ◌∙◌}
use Rattle.std.proofs.lemmas.Iterator.Consumers.{YieldsList-end}
use Rattle.std.proofs.lemmas.Iterator.Splits.{YieldsList-from_lines}
use Rattle.std.proofs.lemmas.List.{map-append}
use Rattle.std.specs.Str.Lines.{lines}
use Rattle.core_session.specs.Core.{sink_of}
use Rattle.session_load.specs.Table.{tallies_of, table_with}
use Rattle.session_load.proofs.LoadLemmas.{table_of_none, table_of_more, table_of_same}
use Rattle.session_load.proofs.load.enter_lines.Goals as goal

pub loop-line-init : goal.loop-line-init
loop-line-init c = record {
  table = table_of_none (sink_of c.args.core.now).counts (tallies_of c.in_ok-table.table) c.in_ok-table.ensures;
}

pub loop-line-preserved : goal.loop-line-preserved
loop-line-preserved c =
    let now = λ (line : Bor (List ℕ)). line.now in
    let wrote = c.in_ok-written.written in
    let old = tallies_of c.loop-line.table in
    record {
      table =
          table_of_more (map now c.loop-line.yielded) c.in-Some.line.now (map now (c.loop-line.yielded ++ c.in-Some.line ∷ [])) (sink_of c.args.core.now).counts
          (sink_of c.loop-line.core).counts (sink_of c.enter.new.core).counts old (tallies_of c.take.new.self) wrote
          (map-append now c.loop-line.yielded (c.in-Some.line ∷ [])) c.loop-line.invariant.table c.in_ok-written.ensures
          (c.in_ok-take.ensures ∙ ap (λ kind. table_with old (record { kind = kind; written = wrote })) c.in_ok-kind_of.ensures);
    }

pub returns : goal.returns
returns c =
    let seen =
    YieldsList-end (YieldsList-from_lines c.args.script.now cc) c.loop-line.yielded _ c.loop-line.yielded_by _ _ c.in-None.is c.next.ensures.steps in
    table_of_same (map (λ (line : Bor (List ℕ)). line.now) c.loop-line.yielded) (lines c.args.script.now) (sink_of c.args.core.now).counts
    (sink_of c.loop-line.core).counts (tallies_of c.loop-line.table) seen.0 c.loop-line.invariant.table
