-- A delta on the wire, over a base text: the first misfit, and what it keeps and adds where it has none.
use Rattle.std.specs.Prelude.{◌≡◌, ℕ, ◌+◌, Bool, not, ◌&&◌, ◌||◌, if◌then◌else◌, nat_lt, nat_le, ◌==◌, List, [], ◌∷◌, length, Option, Some, None}
use Rattle.std.specs.List.{list_any, flat_map}
use Rattle.plain_edits.specs.declared.delta.El.{El}
use Rattle.plain_edits.specs.declared.delta.El.TheVariants.{Copy, Insert}
use Rattle.plain_edits.specs.declared.delta.Delta.{Delta}
use Rattle.plain_edits.specs.declared.delta.Misfit.{Misfit}
use Rattle.plain_text.specs.declared.run.Run.{Run}
use Rattle.plain_edits.specs.declared.delta.Added.{Added}
use Rattle.plain_text.specs.Text.{byte_len, is_place, gap_of}
use Rattle.plain_text.specs.Woven.{woven}

-- the misfit of the copy from `a` to `b`, where the copy before it ends at `end`
abbrev pub copy_misfit : List ℕ → ℕ → ℕ → ℕ → Option Misfit
copy_misfit text end a b =
    if nat_lt b a || nat_lt a end then Some (record { kind = 2; at = a }) else (
    if nat_lt (byte_len text) b then Some (record { kind = 3; at = b }) else (
    if not (is_place text a) then Some (record { kind = 4; at = a }) else (
    if not (is_place text b) then Some (record { kind = 4; at = b }) else None)))

-- a misfit, or else the one that comes later
abbrev pub or_later : Option Misfit → Option Misfit → Option Misfit
or_later None later = later
or_later (Some misfit) later = Some misfit

-- the first misfit of a copy, where the copy before these elements ends at `end`
abbrev pub copies_misfit : List ℕ → ℕ → List El → Option Misfit
copies_misfit text end [] = None
copies_misfit text end (Insert added ∷ els) = copies_misfit text end els
copies_misfit text end (Copy a b ∷ els) = or_later (copy_misfit text end a b) (copies_misfit text b els)

-- the first misfit of a delta over a text: the base length first, and then each copy in the list's order
abbrev pub misfit_of : List ℕ → Delta → Option Misfit
misfit_of text delta =
    if delta.base_len == byte_len text then copies_misfit text 0 delta.els else Some (record { kind = 1; at = delta.base_len })

-- the delta fits the text
abbrev pub Fits : List ℕ → Delta → Type 0
Fits text delta = misfit_of text delta ≡ None

-- the characters that the copies keep, as runs
abbrev pub kept_runs : List ℕ → List El → List Run
kept_runs text [] = []
kept_runs text (Insert added ∷ els) = kept_runs text els
kept_runs text (Copy a b ∷ els) = record { start = gap_of text a; end = gap_of text b } ∷ kept_runs text els

-- the insertions, each at the gap where the last copy before it ends, which is `gap` where there is none
abbrev pub insertions : List ℕ → ℕ → List El → List Added
insertions text gap [] = []
insertions text gap (Insert added ∷ els) = record { gap = gap; text = added } ∷ insertions text gap els
insertions text gap (Copy a b ∷ els) = insertions text (gap_of text b) els

-- whether the character with this index is in one of the runs
abbrev pub is_in_runs : List Run → ℕ → Bool
is_in_runs runs index = list_any (λ run. nat_le run.start index && nat_lt index run.end) runs

-- the texts that are added at a gap, joined in their order
abbrev pub text_at_gap : List Added → ℕ → List ℕ
text_at_gap adds gap = flat_map (λ added. if added.gap == gap then added.text else []) adds

-- whether the delta keeps the character with this index
abbrev pub keeps : List ℕ → Delta → ℕ → Bool
keeps text delta = is_in_runs (kept_runs text delta.els)

-- the text that the delta adds at a gap
abbrev pub adds : List ℕ → Delta → ℕ → List ℕ
adds text delta = text_at_gap (insertions text 0 delta.els)

-- what a text becomes: at each gap the text that is added there, and of its characters those that are kept
abbrev pub applied : (ℕ → Bool) → (ℕ → List ℕ) → List ℕ → List ℕ
applied kept added text = woven added (λ index c. if kept index then c ∷ [] else []) 0 text

-- how many characters the elements insert
abbrev pub inserted_len : List El → ℕ
inserted_len [] = 0
inserted_len (Insert added ∷ els) = length added + inserted_len els
inserted_len (Copy a b ∷ els) = inserted_len els
