-- The edit of a text that replaces runs of it.
use Rattle.std.proofs.Common.{◌≡◌, ℕ, List, length, not, refl, ◌∙◌, arith}
use Rattle.std.specs.Prelude.{[], if◌then◌else◌}
use Rattle.plain_text.specs.declared.run.Run.{Run}
use Rattle.plain_edits.specs.Delta.{Fits, is_in_runs}
use Rattle.delta_core.proofs.ForCallers.{Fits-elements, applied-delta_by}
use Rattle.regex_find.specs.Spots.{AreSpots}
use Rattle.regex_find.specs.Replaced.{is_start, replaced}
use Rattle.regex_find.proofs.ForCallers.{woven-replaced}
use Rattle.plugin_mirror.specs.Leaf.{text_by}
use Rattle.plugin_replacer.specs.Replacing.{replacement_delta}

-- it fits the text, and leads to the text with each run replaced
pub Fits-replacing : (text : List ℕ) (runs : List Run) (new : List ℕ) → Fits text (replacement_delta text runs new)
Fits-replacing text runs new = Fits-elements (λ index. not (is_in_runs runs index)) (λ gap. if is_start runs gap then new else []) text

pub text_by-replacing : (text : List ℕ) (runs : List Run) (new : List ℕ) → AreSpots (length text) 0 runs →
    text_by text (replacement_delta text runs new) ≡ replaced text runs new
text_by-replacing text runs new are =
    applied-delta_by (λ index. not (is_in_runs runs index)) (λ gap. if is_start runs gap then new else []) text ∙
    woven-replaced new (λ index. not (is_in_runs runs index)) (λ gap. if is_start runs gap then new else []) (length text) 0 text runs
    (omega arith) are (λ i low high. refl) (λ gap low. refl)
