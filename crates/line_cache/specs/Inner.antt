-- Which step lines that stand alike make.
use Rattle.std.specs.Prelude.{ℕ, Bool, if◌then◌else◌}
use Rattle.line_cache.specs.declared.step.Step.{Step}
use Rattle.line_cache.specs.declared.step.Step.TheVariants.{Keep, Restyle, Send, Drop}

-- lines that are sent or left
abbrev pub sent_step : Bool → ℕ → ℕ → Step
sent_step is_shown at n = if is_shown then Send at n else Drop n

-- lines that are kept, or else sent or left
abbrev pub kept_step : Bool → ℕ → Bool → ℕ → ℕ → Step
kept_step is_kept old is_shown at n = if is_kept then Keep old n else sent_step is_shown at n

-- lines that are restyled or left
abbrev pub restyled_step : Bool → ℕ → ℕ → ℕ → Step
restyled_step is_shown old at n = if is_shown then Restyle old n else Drop n
