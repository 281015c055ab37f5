-- What private functions say: the steps of walks over deltas.
use Rattle.std.specs.Prelude.{ℕ, ◌+◌, ◌≤◌, if◌then◌else◌, nat_lt, List, [], ◌∷◌, ◌++◌, ◌≡◌, ◌<◌, ◌⊎◌, Bool, true, false, not, length, take, drop, replicate, ◌&&◌, ◌||◌, ◌==◌, None, IsTrue}
use Rattle.plain_text.specs.declared.run.Run.{Run}
use Rattle.plain_edits.specs.declared.delta.Added.{Added}
use Rattle.plain_edits.specs.UnitDelta.{AreAdds, AreApart, unit_keeps, unit_adds}
use Rattle.subset_runs.specs.Subset.{count, complement, shrink}
use Rattle.delta_core.specs.declared.carry.CarryStep.{CarryStep}
use Rattle.delta_core.specs.declared.carry.CarryStep.TheVariants.{Own, Other, Base}
use Rattle.plain_edits.specs.declared.delta.UnitDelta.{UnitDelta}
use Rattle.plain_edits.specs.declared.delta.El.{El}
use Rattle.plain_text.specs.Text.{gap_of, is_place}
use Rattle.plain_edits.specs.Delta.{adds, copies_misfit, is_in_runs, text_at_gap, kept_runs, insertions}
use Rattle.delta_core.specs.Wire.{copy_before, text_before}
use Rattle.delta_core.specs.Carry.{insertions_at, carried}
use Rattle.delta_core.specs.UnitStep.{UnitStep, Kept, Dropped, New}
pub use Rattle.delta_core.specs.UnitStep.{step_of, steps_from, steps_of, part_steps}
use Rattle.delta_core.specs.Synthesis.{appearing}

-- the run from one gap to another
abbrev pub run_to : ℕ → ℕ → Run
run_to from to = record { start = from; end = to }

-- the runs are apart, and so would be one more at `from`; the additions are in order, and so would be one more at `base`
pub record IsUnfinished (base from : ℕ) (kept : List Run) (added : List Added) : Type 0 where
  pub reached : from ≤ base
  pub apart : AreApart 0 (kept ++ run_to from (from + 1) ∷ [])
  pub adds : AreAdds base 0 (added ++ (record { gap = base; text = 0 ∷ [] }) ∷ [])

-- the additions and one more, unless it is empty
abbrev pub with_added : List Added → ℕ → List ℕ → List Added
with_added adds gap [] = adds
with_added adds gap (c ∷ text) = adds ++ (record { gap = gap; text = c ∷ text }) ∷ []

-- the runs and one more, unless it is empty
abbrev pub with_run : List Run → ℕ → ℕ → List Run
with_run runs start end = runs ++ (if nat_lt start end then run_to start end ∷ [] else [])

-- how many insertions stand before the next character of the base
abbrev pub here : List Bool → ℕ
here flags = insertions_at flags 0

-- whose turn it is at a gap with so many insertions of each, and the other's by `after`
abbrev pub IsCarryStep : ℕ → ℕ → Bool → CarryStep → Type 0
IsCarryStep ins later after Own = (0 < ins) × ((after ≡ false) ⊎ (later ≡ 0))
IsCarryStep ins later after Other = (0 < later) × ((after ≡ true) ⊎ (ins ≡ 0))
IsCarryStep ins later after Base = (ins ≡ 0) × (later ≡ 0)

-- of what is left of two subsets, a stretch comes next, and this is left then
pub record IsNext (after : Bool) (own other own_rest other_rest : List Bool) (n : ℕ) (member : Bool) : Type 0 where
  pub next : carried after own other ≡ replicate n member ++ carried after own_rest other_rest
  pub base : length own_rest + count other_rest ≡ length other_rest + count own_rest
  pub ahead : n + (length own_rest + count other_rest) ≡ length own + count other
  pub some : length own_rest + length other_rest < length own + length other

-- how many characters of the base the steps go over
abbrev pub base_count : List UnitStep → ℕ
base_count [] = 0
base_count (Kept ∷ steps) = base_count steps + 1
base_count (Dropped ∷ steps) = base_count steps + 1
base_count (New c ∷ steps) = base_count steps

-- what the steps make of a text
abbrev pub text_of_steps : List UnitStep → List ℕ → List ℕ
text_of_steps [] text = []
text_of_steps (New c ∷ steps) text = c ∷ text_of_steps steps text
text_of_steps (Kept ∷ steps) [] = []
text_of_steps (Kept ∷ steps) (c ∷ text) = c ∷ text_of_steps steps text
text_of_steps (Dropped ∷ steps) [] = []
text_of_steps (Dropped ∷ steps) (c ∷ text) = text_of_steps steps text

-- for each step whether it adds a character
abbrev pub news : List UnitStep → List Bool
news [] = []
news (Kept ∷ steps) = false ∷ news steps
news (Dropped ∷ steps) = false ∷ news steps
news (New c ∷ steps) = true ∷ news steps

-- whether the character with this index is a member, where the first flag is that of `at`
abbrev pub member_from : ℕ → List Bool → ℕ → Bool
member_from at [] index = false
member_from at (flag ∷ flags) index = (flag && at == index) || member_from (at + 1) flags index

-- characters that are alike alive or dead were put into a unit delta in the making: what it comes to with the rest of a union is as before
pub record GrowsByBlock (characters : List ℕ) (dead_before dead_after : Bool) (old new : UnitDelta) : Type 0 where
  pub base : new.base ≡ old.base + (if dead_before then 0 else length characters)
  pub kept : (before after : List Bool) (index : ℕ) →
      (unit_keeps new index || member_from new.base (shrink (complement after) before) index) ≡
      (unit_keeps old index || member_from old.base (shrink (complement (replicate (length characters) dead_after ++ after))
      (replicate (length characters) dead_before ++ before)) index)
  pub added : (union : List ℕ) (before after : List Bool) (gap : ℕ) →
      unit_adds new gap ++ appearing new.base union before after gap ≡
      unit_adds old gap ++ appearing old.base (characters ++ union) (replicate (length characters) dead_before ++ before)
      (replicate (length characters) dead_after ++ after) gap

-- whether what is dead before or not, and dead after or not, appears
abbrev pub appears : Bool → Bool → Bool
appears dead_before dead_after = dead_before && not dead_after

-- n characters that are alike alive or dead were put into a unit delta in the making: where they appear they are the first of `rest`, and
-- the others are left
pub record PutsBlock (rest : List ℕ) (n : ℕ) (dead_before dead_after : Bool) (old new : UnitDelta) (others : List ℕ) : Type 0 where
  pub base : new.base ≡ old.base + (if dead_before then 0 else n)
  pub grows : (characters : List ℕ) → length characters ≡ n → (appears dead_before dead_after ≡ true → characters ≡ take n rest) →
      GrowsByBlock characters dead_before dead_after old new
  pub left : others ≡ (if appears dead_before dead_after then drop n rest else rest)

-- an element was put into a unit delta in the making, where the copy before it ends at `at`; now the last copy ends at `end`
pub record PutsElement (text : List ℕ) (at : ℕ) (el : El) (old new : UnitDelta) (end : ℕ) : Type 0 where
  pub place : IsTrue (is_place text end)
  pub base : new.base ≡ gap_of text end
  pub fits : (els : List El) → copies_misfit text at (el ∷ els) ≡ None → copies_misfit text end els ≡ None
  pub kept : (els : List El) (index : ℕ) →
      (unit_keeps new index || is_in_runs (kept_runs text els) index) ≡ (unit_keeps old index || is_in_runs (kept_runs text (el ∷ els)) index)
  pub added : (els : List El) (gap : ℕ) →
      unit_adds new gap ++ text_at_gap (insertions text (gap_of text end) els) gap ≡
      unit_adds old gap ++ text_at_gap (insertions text (gap_of text at) (el ∷ els)) gap

-- the runs start at `from` or later, and rise without an overlap
abbrev pub Rise : ℕ → List Run → Type 0
Rise from [] = Unit {0}
Rise from (run ∷ runs) = (from ≤ run.start) × (run.start ≤ run.end) × Rise run.end runs

-- the first run ends after `at`
abbrev pub ReachesPast : ℕ → List Run → Type 0
ReachesPast at [] = Unit {0}
ReachesPast at (run ∷ runs) = at < run.end

-- the gap of the first addition, or the end of the base
abbrev pub next_stop : ℕ → List Added → ℕ
next_stop base [] = base
next_stop base (added ∷ adds) = added.gap

-- the runs that are left end after `at`, and the additions that are left are at `at` or right of it
pub record IsToCome (base at : ℕ) (kept : List Run) (added : List Added) : Type 0 where
  pub reached : at ≤ base
  pub runs : Rise 0 kept
  pub ends : ReachesPast at kept
  pub adds : AreAdds base at added

-- the rest of the runs keeps what the runs keep from `at` on, and its first run ends after `at`
pub record IsRestOfKept (runs rest : List Run) (at : ℕ) : Type 0 where
  pub rise : Rise 0 runs → Rise 0 rest
  pub kept : (index : ℕ) → at ≤ index → is_in_runs rest index ≡ is_in_runs runs index

-- all the characters from `at` up to the stretch's end, which is at most `stop`, are kept, or none is
pub record IsStretch (runs : List Run) (at stop end : ℕ) (kept : Bool) : Type 0 where
  pub ahead : at < end
  pub within : end ≤ stop
  pub same : (index : ℕ) → at ≤ index → index < end → is_in_runs runs index ≡ kept

-- elements, a copy after them, and a text after the copy; the two may be empty and may still grow
pub record Gathered : Type 0 where
  pub els : List El
  pub from : ℕ
  pub to : ℕ
  pub text : List ℕ

-- the elements and the copy after them, where these are ahead
abbrev pub with_copy : Gathered → List El → List El
with_copy w ahead = w.els ++ copy_before w.from w.to ahead

-- all elements, where these are ahead
abbrev pub whole : Gathered → List El → List El
whole w ahead = w.els ++ copy_before w.from w.to (text_before w.text ahead)
