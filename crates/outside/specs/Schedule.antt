-- When a source, a sink or a shelf in memory fails.
use Rattle.std.specs.Prelude.{ℕ, Bool, ◌==◌, List, if◌then◌else◌}
use Rattle.std.specs.List.{list_any}
use Rattle.outside.specs.Faults.{counted}

-- which calls fail, and what the calls so far came to
pub record FaultSchedule : Type 0 where
  -- the numbers of the calls that are to fail, counted from 1
  pub failing : List ℕ
  -- the calls so far, and those of them that failed
  pub calls : ℕ
  pub faults : ℕ

-- a schedule before the first call
abbrev pub schedule_of : List ℕ → FaultSchedule
schedule_of failing = record { failing = failing; calls = 0; faults = 0 }

-- the next call is to fail
abbrev pub is_due : FaultSchedule → Bool
is_due schedule = list_any (λ number. number == counted schedule.calls) schedule.failing

-- the schedule after one call more
abbrev pub next : FaultSchedule → FaultSchedule
next schedule =
    record schedule { calls = counted schedule.calls; faults = if is_due schedule then counted schedule.faults else schedule.faults }
