-- Insertions into one base, carried over other insertions into it. A subset has the insertions as members, and the base is what is outside.
use Rattle.std.specs.Prelude.{◌≡◌, ℕ, ◌+◌, Bool, true, false, not, List, [], ◌∷◌, ◌++◌, length, replicate}
use Rattle.std.specs.List.{filter}
use Rattle.subset_runs.specs.Subset.{count, expand}
use Rattle.plain_text.specs.Woven.{woven}
use Rattle.plain_edits.specs.Change.{block}

-- how many insertions stand at a gap of the base
abbrev pub insertions_at : List Bool → ℕ → ℕ
insertions_at flags gap = length (block not gap flags)

-- at one gap: the later insertions and then ours, or ours first
abbrev pub carried_at : Bool → ℕ → ℕ → List Bool
carried_at true ours later = replicate later false ++ replicate ours true
carried_at false ours later = replicate ours true ++ replicate later false

-- the insertions in the coordinates that hold the later ones too, gap by gap of the base; ours go after the later ones or before
abbrev pub carried : Bool → List Bool → List Bool → List Bool
carried after ins later =
    woven (λ gap. carried_at after (insertions_at ins gap) (insertions_at later gap)) (λ _ _. false ∷ []) 0 (filter not ins)

-- the result; the same said as a change of coordinates: outside the later ones it is as before; and how much there is
pub record IsCarried (after : Bool) (ins later result : List Bool) : Type 0 where
  pub is : result ≡ carried after ins later
  pub renumbered : result ≡ expand ins (carried (not after) later ins)
  pub len : length result ≡ length later + count ins
  pub members : count result ≡ count ins
