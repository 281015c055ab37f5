-- WHEN A RUN MUST END WELL: nothing outside stops it, and its input is one that a run can take.
use Rattle.std.specs.Prelude.{◌≡◌, ℕ, ◌<◌, ◌≤◌, List, [], length, Some, ◌⊎◌}
use Rattle.std.specs.List.{AllByRecursion}
use Rattle.plain_text.specs.InputLines.{ended_lines, unended, lines_of}
use Rattle.outside.specs.Faults.{Rose}
use Rattle.xi_top.specs.Ending.{most_lines, too_long}
use Rattle.xi_top.specs.Run.{Passage}

-- the input has fewer lines than a run takes, and each of them has fewer bytes before its LF than a line may have
pub record IsModest (bytes : List ℕ) : Type 0 where
  pub few : length (lines_of bytes) < most_lines
  -- an ended line is counted with its LF
  pub ended : AllByRecursion (λ line. length line ≤ too_long) (ended_lines [] bytes)
  pub last : length (unended [] bytes) < too_long

-- the source tells its bytes, which a run can take, and neither count of faults rose
pub record IsCalm (passage : Passage) : Type 0 where
  pub bytes : List ℕ
  pub input : passage.before.source.left ≡ Some bytes
  pub modest : IsModest bytes
  pub source_calm : Rose passage.before.source.faults passage.after.source.faults → ⊥
  pub sink_calm : Rose passage.before.sink.faults passage.after.sink.faults → ⊥

-- the status of a run that nothing stops: it took its whole input, or it lacked memory
abbrev pub EndsWell : ℕ → Type 0
EndsWell status = (status ≡ 0) ⊎ (status ≡ 3)
