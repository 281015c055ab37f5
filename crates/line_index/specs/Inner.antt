-- What private functions say: places among cuts, and an edit from its first change to its last.
use Rattle.std.specs.Prelude.{◌≡◌, ℕ, ◌+◌, ◌-◌, ◌^◌, ◌<◌, ◌≤◌, ◌⊎◌, true, false, List, [], ◌∷◌, ◌++◌, length, take, slice_range, replicate, Option, Some, None}
use Rattle.std.specs.List.{AllByRecursion, flat_map}
use Rattle.std.specs.Str.{all_scalars}
use Rattle.plain_text.specs.Lines.{logical_lines}
use Rattle.plain_text.specs.declared.run.Run.{Run}
use Rattle.delta_core.specs.UnitStep.{UnitStep, Kept}
use Rattle.delta_core.specs.Inner.{base_count}
use Rattle.plain_edits.specs.declared.delta.UnitDelta.{UnitDelta}
use Rattle.rope_node.specs.Lengths.{lf_count}
use Rattle.shared_tree.specs.Replaced.{replaced}
use Rattle.shared_tree.specs.Shape.{Shape}
use Rattle.line_index.specs.declared.cut.Cut.{Cut}
use Rattle.line_index.specs.Cuts.{cuts_of, cuts_of_lines, span}
use Rattle.line_index.specs.Index.{is_kept, touched_lines}

-- the numbers do not fall, start at `from` or later, and fit 63 bits
abbrev pub RiseFrom : ℕ → List ℕ → Type 0
RiseFrom from [] = Unit {0}
RiseFrom from (end ∷ ends) = (from ≤ end) × (end < 2 ^ 63) × RiseFrom end ends

-- the cuts of a tree, in order
abbrev pub cuts_under : Shape (List Cut) → List Cut
cuts_under tree = flat_map (λ leaf. leaf) tree.leaves

-- these are the cuts of a text of characters that is wrapped, and not too long to be
pub record HasCuts (width tab : ℕ) (text : List ℕ) (cuts : List Cut) : Type 0 where
  pub wraps : 0 < width
  pub are : cuts ≡ cuts_of width tab text
  pub characters : all_scalars text ≡ true
  pub small : length text < 2 ^ 63

-- how many cuts the first logical lines of a text have
abbrev pub cuts_before : ℕ → ℕ → List ℕ → ℕ → ℕ
cuts_before width tab text line = length (cuts_of_lines width tab (take line (logical_lines text)))

-- the last of the cuts that starts by a gap
pub record IsCutAt (cuts : List Cut) (gap index : ℕ) : Type 0 where
  pub inside : index < length cuts
  pub by_then : span (take index cuts) ≤ gap
  pub last : (gap < span (take (index + 1) cuts)) ⊎ (index + 1 ≡ length cuts)

-- each of the steps is a change
abbrev pub AreChanges : List UnitStep → Type 0
AreChanges steps = AllByRecursion (λ step. is_kept step ≡ false) steps

-- the steps begin with a change, and end with one
pub record IsChange (steps : List UnitStep) : Type 0 where
  pub first : UnitStep
  pub later : List UnitStep
  pub begins : steps ≡ first ∷ later
  pub changes : is_kept first ≡ false
  pub earlier : List UnitStep
  pub last : UnitStep
  pub ends : steps ≡ earlier ++ last ∷ []
  pub too : is_kept last ≡ false

-- the steps keep what stands before a run of the base, and so many characters after it
pub record IsAround (steps : List UnitStep) (run : Run) (middle : List UnitStep) (right : ℕ) : Type 0 where
  pub is : steps ≡ replicate run.start Kept ++ (middle ++ replicate right Kept)
  pub to : run.start + base_count middle ≡ run.end

-- the run of the base from the first change of the steps to the last; where there is none, a gap
pub record IsTouched (steps : List UnitStep) (run : Run) : Type 0 where
  pub middle : List UnitStep
  pub right : ℕ
  pub around : IsAround steps run middle right
  pub which : (middle ≡ []) ⊎ IsChange middle

-- the same of steps that reach up to a gap, where there was a change or none
pub record IsChangedTo (steps : List UnitStep) (run : Run) (at : ℕ) : Type 0 where
  pub middle : List UnitStep
  pub right : ℕ
  pub around : IsAround steps run middle right
  pub change : IsChange middle
  pub reaches : run.end + right ≡ at

-- steps that keep a base up to a gap, but for the run from their first change to their last; none where they change nothing
abbrev pub IsSeen : List UnitStep → Option Run → ℕ → Type 0
IsSeen steps None at = steps ≡ replicate at Kept
IsSeen steps (Some run) at = IsChangedTo steps run at

-- where the first change is, or else this gap
abbrev pub start_or : Option Run → ℕ → ℕ
start_or None at = at
start_or (Some run) at = run.start

-- an edit was walked up to a gap
pub record IsSeenUpTo (all rest : List UnitStep) (changed : Option Run) (at : ℕ) : Type 0 where
  pub done : List UnitStep
  pub cut : done ++ rest ≡ all
  pub count : base_count done ≡ at
  pub seen : IsSeen done changed at

-- an edit touches the lines of a text from one index up to another, and leaves as many new ones as stand from the same index up to a third:
-- the cuts of these in place of the old ones are those of the text after
pub record HasLines (units : UnitDelta) (text after : List ℕ) (from old new : ℕ) : Type 0 where
  pub under : lf_count text ≤ lf_count after + old
  pub low : from ≤ new
  pub inside : new ≤ length (logical_lines after)
  pub ordered : from ≤ old
  pub within : old ≤ length (logical_lines text)
  pub few : new - from ≤ touched_lines units text
  pub made : (width tab : ℕ) → replaced (cuts_of width tab text) (cuts_before width tab text from) (cuts_before width tab text old)
      (cuts_of_lines width tab (slice_range (logical_lines after) from new)) ≡ cuts_of width tab after
