-- What is read of a revision: its text, and the edit since then.
use Rattle.std.specs.Prelude.{◌≡◌, ℕ, ◌^◌, ◌<◌, length}
use Rattle.plain_edits.specs.Change.{change_keeps, change_adds}
use Rattle.plain_edits.specs.History.{History, head, text_at}
use Rattle.plain_edits.specs.UnitDelta.{IsUnitDelta, unit_keeps, unit_adds}
use Rattle.span_styles.specs.Layers.{length_after}
use Rattle.stale_spans.specs.declared.read.Read.{Read}

-- THEY ARE THOSE OF A REVISION of a history: of its text the edit keeps what the head shows too, and it adds each other character of the
-- head text at the gap that counts the characters of the revision left of it
pub record IsReadAt (history : History) (rev : ℕ) (read : Read) : Type 0 where
  pub text : read.text ≡ text_at history rev
  pub kept : (index : ℕ) → unit_keeps read.units index ≡ change_keeps history rev (head history) index
  pub added : (gap : ℕ) → unit_adds read.units gap ≡ change_adds history rev (head history) gap

-- whatever the history: the edit is one of the text, and 64 bits count the characters after it
pub record IsEdit (read : Read) : Type 0 where
  pub well_formed : IsUnitDelta read.units
  pub base : read.units.base ≡ length read.text
  pub bound : length_after read.units < 2 ^ 64
