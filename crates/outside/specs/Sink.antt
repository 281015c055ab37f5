-- What a call of a sink does.
use Rattle.std.specs.Prelude.{◌≡◌, ℕ, ◌<◌, ◌≤◌, List, [], ◌++◌, take, Option, Some, None}
use Rattle.outside.specs.Faults.{counted}
use Rattle.outside.specs.declared.sink.Pushed.{Pushed}
use Rattle.outside.specs.declared.sink.Pushed.TheVariants.{Took, Failed}

-- the sink gained these bytes, after all that it held. It tells after a call only where it told before
abbrev pub Gains : Option (List ℕ) → Option (List ℕ) → List ℕ → Type 0
Gains None None gained = Unit {0}
Gains None (Some after) gained = ⊥
Gains (Some before) None gained = Unit {0}
Gains (Some before) (Some after) gained = after ≡ before ++ gained

-- the bytes that an answer takes, from the front of the piece
abbrev pub pushed : Pushed → List ℕ → List ℕ
pushed (Took n) piece = take n piece
pushed Failed piece = []

-- at least one byte is taken, and at most the piece
abbrev pub IsPart : Pushed → ℕ → Type 0
IsPart (Took n) len = (0 < n) × (n ≤ len)
IsPart Failed len = Unit {0}

-- the count of failed calls after an answer: one more where the call failed
abbrev pub failures_after : Pushed → ℕ → ℕ
failures_after (Took n) failures = failures
failures_after Failed failures = counted failures

-- what a sink tells of itself: the bytes that it holds, where it tells them, its faults, and how often it answered `Failed`
pub record SinkState : Type 0 where
  pub held : Option (List ℕ)
  pub faults : ℕ
  pub failures : ℕ

-- the same, put together from what each of them is for the sink
abbrev pub sink_state : {K : Type 0} → (K → Option (List ℕ)) → (K → ℕ) → (K → ℕ) → K → SinkState
sink_state held faults failures sink = record { held = held sink; faults = faults sink; failures = failures sink }
