-- What becomes of a case.
use Rattle.std.specs.Prelude.{◌≡◌, ℕ, ◌↔◌, if◌then◌else◌, List, [], length, map, min, Option, Some, None, Result, Ok, Err}
use Rattle.outside.specs.MemSource.{Stock}
use Rattle.outside.specs.MemSink.{Store}
use Rattle.outside.specs.MemShelf.{Shelves}
use Rattle.outside.specs.Schedule.{schedule_of}
use Rattle.plugin_session.specs.Turn.{Turned}
use Rattle.xi_top.specs.Run.{Outside, Passage, RunsAlone}
use Rattle.xi_top.specs.Turns.{TakesTurns}
use Rattle.protocol_cases.specs.declared.case.Outcome.{Outcome}
use Rattle.protocol_cases.specs.declared.case.Run.{Run}
use Rattle.case_scripts.specs.declared.script.Script.{Script}
use Rattle.case_scripts.specs.declared.script.ReadFault.{ReadFault}
use Rattle.case_scripts.specs.declared.script.ReadFault.TheVariants.{BadLine as BadScript, NoMemory as NoRoom}
use Rattle.protocol_cases.specs.declared.verdict.Expected.{Expected}
use Rattle.protocol_cases.specs.declared.verdict.Verdict.{Verdict}
use Rattle.protocol_cases.specs.declared.verdict.Verdict.TheVariants.{Passes, BadLine}
use Rattle.protocol_cases.specs.Played.{Played}
use Rattle.protocol_cases.specs.Player.{players_of}
use Rattle.case_scripts.specs.Script.{script_of}
use Rattle.case_scripts.specs.Shelf.{files_before}
use Rattle.protocol_cases.specs.Turns.{turned_of}
use Rattle.protocol_cases.specs.Verdict.{IsExpected, verdict_of}

-- the source, the sink and the shelf of a script before its run: what they give or hold, and which of their calls fail
abbrev pub source_of : Script → Stock
source_of script = record { left = script.input.bytes; greatest = script.input.piece; schedule = schedule_of script.input.failing }

abbrev pub sink_from : Script → Store
sink_from script = record { held = Some []; refused = 0; greatest = script.output.piece; schedule = schedule_of script.output.failing }

abbrev pub shelf_from : Script → Shelves
shelf_from script = record { files = files_before script.shelf.files; schedule = schedule_of script.shelf.failing }

-- the plugins of a script before its run, of which none has more than 64
abbrev pub plugins_from : Script → List Played
plugins_from script = players_of script.turns.turns 1 (min script.turns.count 64)

-- the turns that a plugin tells: those that it had, unless it lacked memory to keep them
abbrev pub told_turns : Played → Option (List Turned)
told_turns played = if played.lost then None else Some (map turned_of played.had)

-- what a script is to come to
abbrev pub expected_of : Script → Expected
expected_of script = record { output = script.output.bytes; turns = script.turns.turns; files = script.shelf.files; status = script.status }

-- what a source, a sink and a shelf in memory tell
abbrev pub outside_in_memory : Stock → Store → Shelves → Outside
outside_in_memory source sink shelf = record {
  source = record {
    left = Some source.left;
    faults = source.schedule.faults;
    failures = source.schedule.faults;
    reads = Some source.schedule.calls;
  };
  sink = record { held = sink.held; faults = sink.schedule.faults; failures = sink.schedule.faults };
  shelf = record { files = Some shelf.files; faults = shelf.schedule.faults };
}

-- from this source, this sink and this shelf to those of the run
abbrev pub passage_between : Stock → Store → Shelves → Run → Passage
passage_between source sink shelf run = record {
  before = outside_in_memory source sink shelf;
  after = outside_in_memory run.source run.report.sink run.report.shelf;
}

-- the verdict on a run, of which this was expected: it passes exactly where the run did that
pub record IsVerdictOn (run : Run) (expected : Expected) (verdict : Verdict) : Type 0 where
  pub got : List ℕ
  pub held : run.report.sink.held ≡ Some got
  pub is : verdict ≡ verdict_of expected got run.report.plugins.items run.report.shelf.files run.report.status
  pub passes : (verdict ≡ Passes) ↔ IsExpected expected got run.report.plugins.items run.report.shelf.files run.report.status

-- THE RUN THAT WAS MADE is one of the script's source, sink, shelf and plugins, and the verdict is that on it
pub record IsJudged (script : Script) (outcome : Outcome) : Type 0 where
  pub run : Run
  pub made : outcome.run ≡ Some run
  pub runs : RunsAlone (length (plugins_from script)) (passage_between (source_of script) (sink_from script) (shelf_from script) run)
      run.report.journal.items run.report.status
  pub turns : TakesTurns told_turns (plugins_from script) run.report.plugins.items run.report.journal.items run.report.all_served
  pub verdict : IsVerdictOn run (expected_of script) outcome.verdict

-- what becomes of what a text was read as: the run of its script is judged, or there is none, and the bad line is told
abbrev pub IsOutcomeOf : Result Script ReadFault → Outcome → Type 0
IsOutcomeOf (Ok script) outcome = IsJudged script outcome
IsOutcomeOf (Err (BadScript line)) outcome = (outcome.run ≡ None) × (outcome.verdict ≡ BadLine line)
IsOutcomeOf (Err NoRoom) outcome = ⊥

-- WHAT BECOMES OF THE CASE whose script is this text
abbrev pub IsCaseOutcome : List ℕ → Outcome → Type 0
IsCaseOutcome text outcome = IsOutcomeOf (script_of text) outcome
