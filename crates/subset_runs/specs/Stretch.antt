use Rattle.std.specs.Prelude.{◌≡◌, ◌≢◌, ◌<◌, Bool, List, ◌++◌, drop, replicate, Some, slice_get}
use Rattle.subset_runs.specs.declared.stretch.Stretch.{Stretch}

-- the stretch is the longest front of the flags that is all members or all none
pub record IsFront (flags : List Bool) (s : Stretch) : Type 0 where
  pub some : 0 < s.len
  pub same : flags ≡ replicate s.len s.member ++ drop s.len flags
  pub longest : slice_get flags s.len ≢ Some s.member
