-- The edit of a text that replaces runs of it.
use Rattle.std.proofs.Common.{◌≡◌, ℕ, List, not, ap, arith}
use Rattle.std.specs.Prelude.{[], if◌then◌else◌}
use Rattle.plain_text.specs.declared.run.Run.{Run}
use Rattle.plain_text.specs.Text.{byte_len}
use Rattle.plain_edits.specs.declared.delta.UnitDelta.{UnitDelta}
use Rattle.plain_edits.specs.Delta.{is_in_runs}
use Rattle.plain_edits.specs.UnitDelta.{unit_keeps, unit_adds}
use Rattle.delta_core.specs.Elements.{delta_of}
use Rattle.delta_core.proofs.ForCallers.{elements_from-same}
use Rattle.regex_find.specs.Replaced.{is_start, Replaces}
use Rattle.plugin_replacer.specs.Replacing.{replacement_delta}

-- the delta of an edit that replaces the runs
pub delta_of-replaces : (text : List ℕ) (runs : List Run) (new : List ℕ) (units : UnitDelta) → Replaces text runs new units →
    delta_of text units ≡ replacement_delta text runs new
delta_of-replaces text runs new units is =
    ap (λ els. record { els = els; base_len = byte_len text })
    (elements_from-same (unit_keeps units) (λ index. not (is_in_runs runs index)) (unit_adds units) (λ gap. if is_start runs gap then new else []) 0 0 text
    (λ j less. is.kept j (omega (arith, less))) (λ j less. is.added j))
