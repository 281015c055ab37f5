-- What a call of a source does.
use Rattle.std.specs.Prelude.{◌≡◌, ℕ, ◌<◌, ◌≤◌, List, [], ◌++◌, take, drop, Option, Some, None, option_map}
use Rattle.outside.specs.Faults.{counted}
use Rattle.outside.specs.declared.source.Pulled.{Pulled}
use Rattle.outside.specs.declared.source.Pulled.TheVariants.{Got, End, Failed}

-- the source gave these bytes: they were the first ones left, and the others still are. It tells after a call
-- exactly where it told before
abbrev pub Gives : Option (List ℕ) → Option (List ℕ) → List ℕ → Type 0
Gives None None given = Unit {0}
Gives None (Some after) given = ⊥
Gives (Some before) None given = ⊥
Gives (Some before) (Some after) given = before ≡ given ++ after

-- the bytes that an answer gives, which stand at the front of the buffer
abbrev pub pulled : Pulled → List ℕ → List ℕ
pulled (Got n) buf = take n buf
pulled End buf = []
pulled Failed buf = []

-- a piece has at least one byte and finds room
abbrev pub IsPiece : Pulled → ℕ → Type 0
IsPiece (Got n) room = (0 < n) × (n ≤ room)
IsPiece End room = Unit {0}
IsPiece Failed room = Unit {0}

-- the count of failed calls after an answer: one more where the call failed
abbrev pub failures_after : Pulled → ℕ → ℕ
failures_after (Got n) failures = failures
failures_after End failures = failures
failures_after Failed failures = counted failures

-- how often it was asked, after one call more, where it tells that
abbrev pub reads_after : Option ℕ → Option ℕ
reads_after reads = option_map counted reads

-- the buffer with the first n of these bytes at its front
abbrev pub filled : List ℕ → List ℕ → ℕ → List ℕ
filled buf bytes n = take n bytes ++ drop n buf

-- what a source tells of itself: the bytes that it has left, where it tells them, its faults, how often it answered `Failed`, and how often it was
-- asked, where it tells that
pub record SourceState : Type 0 where
  pub left : Option (List ℕ)
  pub faults : ℕ
  pub failures : ℕ
  pub reads : Option ℕ

-- the same, put together from what each of them is for the source
abbrev pub source_state : {S : Type 0} → (S → Option (List ℕ)) → (S → ℕ) → (S → ℕ) → (S → Option ℕ) → S → SourceState
source_state left faults failures reads source =
    record { left = left source; faults = faults source; failures = failures source; reads = reads source }
