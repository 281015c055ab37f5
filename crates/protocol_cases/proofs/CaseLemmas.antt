-- The run of a script that was made is judged.
use Rattle.std.proofs.Common.{◌≡◌, List, Some, length, refl, subst}
use Rattle.outside.specs.MemSource.{Stock}
use Rattle.outside.specs.MemSink.{Store}
use Rattle.outside.specs.MemShelf.{Shelves}
use Rattle.xi_top.specs.Run.{RunsAlone}
use Rattle.xi_top.specs.Turns.{TakesTurns}
use Rattle.protocol_cases.specs.declared.case.Run.{Run}
use Rattle.case_scripts.specs.declared.script.Script.{Script}
use Rattle.protocol_cases.specs.declared.verdict.Expected.{Expected}
use Rattle.protocol_cases.specs.declared.verdict.Verdict.{Verdict}
use Rattle.protocol_cases.specs.Case.{IsJudged, IsVerdictOn, expected_of, passage_between, plugins_from, shelf_from, sink_from, source_of, told_turns}
use Rattle.protocol_cases.specs.Played.{Played}

-- a run of this source, this sink, this shelf and these plugins
pub record Ran (source : Stock) (sink : Store) (shelf : Shelves) (players : List Played) (run : Run) : Type 0 where
  pub runs : RunsAlone (length players) (passage_between source sink shelf run) run.report.journal.items run.report.status
  pub turns : TakesTurns told_turns players run.report.plugins.items run.report.journal.items run.report.all_served

pub judged : (script : Script) (source : Stock) (sink : Store) (shelf : Shelves) (players : List Played) (run : Run) (expected : Expected)
    (verdict : Verdict) → source ≡ source_of script → sink ≡ sink_from script → shelf ≡ shelf_from script → players ≡ plugins_from script →
    expected ≡ expected_of script → Ran source sink shelf players run → IsVerdictOn run expected verdict →
    IsJudged script (record { run = Some run; verdict = verdict })
judged script source sink shelf players run expected verdict from to kept plays says ran on =
    let From : Stock → Type 0 = λ s. Ran s (sink_from script) (shelf_from script) (plugins_from script) run in
    let To : Store → Type 0 = λ s. Ran source s (shelf_from script) (plugins_from script) run in
    let Kept : Shelves → Type 0 = λ s. Ran source sink s (plugins_from script) run in
    let Plays : List Played → Type 0 = λ p. Ran source sink shelf p run in
    let is : Ran (source_of script) (sink_from script) (shelf_from script) (plugins_from script) run =
    subst From from (subst To to (subst Kept kept (subst Plays plays ran))) in
    record { run = run; made = refl; runs = is.runs; turns = is.turns; verdict = subst (λ wanted. IsVerdictOn run wanted verdict) says on }
