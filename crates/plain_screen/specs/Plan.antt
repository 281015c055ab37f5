-- The update plan: how each line of a new layout comes to the screen, and the operations that say so.
use Rattle.std.specs.Prelude.{◌≡◌, ℕ, zero, suc, ◌+◌, ◌-◌, ◌≤◌, Bool, ◌&&◌, ◌||◌, true, false, not, if◌then◌else◌, nat_lt, nat_le, List, [], ◌∷◌, ◌++◌, length, map, Option, Some, None, slice_get, ⊤}
use Rattle.std.specs.List.{enumerate_from}
use Rattle.plain_text.specs.declared.run.Run.{Run}
use Rattle.plain_screen.specs.declared.screen.Line.{Line}
use Rattle.plain_screen.specs.declared.screen.Restyle.{Restyle}
use Rattle.plain_screen.specs.declared.screen.Op.{Op}
use Rattle.plain_screen.specs.declared.screen.Op.TheVariants.{Copy, Skip, Invalidate, Ins, Update}
use Rattle.plain_screen.specs.Screen.{Screen, numbered, number_after, restyled}

-- how many lines past the window are kept on either side
abbrev pub margin : ℕ
margin = 1000

-- how a line comes to the screen: the old line with this index stays, or it stays but for its carets and styles, or the line is sent, or
-- it is left invalid
pub data Standing : Type 0 where
  stays : (old : ℕ) → Standing
  is_restyled : (old : ℕ) → Standing
  is_sent : Standing
  is_left : Standing

-- whether the line with this index is in the run
abbrev pub is_within : Run → ℕ → Bool
is_within run index = nat_le run.start index && nat_lt index run.end

-- whether it is in the run widened by the margin
abbrev pub is_near : Run → ℕ → Bool
is_near run index = nat_le run.start (index + margin) && nat_lt index (run.end + margin)

-- the rule of a line that has no partner: it is sent where it is in the window or requested, else it is left invalid
abbrev pub sent_or_left : Run → Run → ℕ → Standing
sent_or_left window request index = if is_within window index || is_within request index then is_sent else is_left

-- THE RULE of a line with this index, where its partner, if any, is the valid old line with the index `old`, and `same` says that its
-- logical line is not touched: it stays where that is so and it is near the window or requested; it is restyled where that is not so and
-- it is in the window or requested; and else it goes by the rule above
abbrev pub standing : Run → Run → ℕ → Option (ℕ × Bool) → Standing
standing window request index None = sent_or_left window request index
standing window request index (Some (old, true)) =
    if is_near window index || is_within request index then stays old else sent_or_left window request index
standing window request index (Some (old, false)) =
    if is_within window index || is_within request index then is_restyled old else sent_or_left window request index

-- FIRST STEP: each line with its standing; the first of them has this index, and each has its partner, if any
abbrev pub with_standings : Run → Run → ℕ → List (Option (ℕ × Bool)) → List Line → List (Standing × Line)
with_standings window request index partners [] = []
with_standings window request index [] (line ∷ lines) =
    (standing window request index None, line) ∷ with_standings window request (index + 1) [] lines
with_standings window request index (partner ∷ partners) (line ∷ lines) =
    (standing window request index partner, line) ∷ with_standings window request (index + 1) partners lines

-- what an update says of a line
abbrev pub restyle_of : Line → Restyle
restyle_of line = record { cursor = line.cursor; styles = line.styles }

-- the operation for one line
abbrev pub op_for : Standing → Line → Op
op_for (stays old) line = Copy 1 line.ln
op_for (is_restyled old) line = Update line.ln (restyle_of line ∷ [])
op_for is_sent line = Ins (line ∷ [])
op_for is_left line = Invalidate 1

-- the old line that it takes over, if any
abbrev pub taken_over : Standing → Option ℕ
taken_over (stays old) = Some old
taken_over (is_restyled old) = Some old
taken_over is_sent = None
taken_over is_left = None

-- where the old lines before `used` are done with: those that are passed over before this one, and which are done with after it
abbrev pub skip_for : ℕ → Option ℕ → List Op
skip_for used None = []
skip_for used (Some old) = if nat_lt used old then Skip (old - used) ∷ [] else []

abbrev pub used_after : ℕ → Option ℕ → ℕ
used_after used None = used
used_after used (Some old) = old + 1

-- SECOND STEP: each standing its operation, with a skip before it where old lines are passed over
abbrev pub ops_for : ℕ → List (Standing × Line) → List Op
ops_for used [] = []
ops_for used ((how, line) ∷ lines) =
    skip_for used (taken_over how) ++ (op_for how line ∷ ops_for (used_after used (taken_over how)) lines)

-- the number of the first line that has one
abbrev pub or_number : Option ℕ → Option ℕ → Option ℕ
or_number None later = later
or_number (Some number) later = Some number

-- an operation in front of others, which is joined with the first of them where both are of one kind
abbrev pub onto_ops : Op → List Op → List Op
onto_ops (Copy n ln) (Copy more later ∷ ops) = Copy (n + more) (or_number ln later) ∷ ops
onto_ops (Skip n) (Skip more ∷ ops) = Skip (n + more) ∷ ops
onto_ops (Invalidate n) (Invalidate more ∷ ops) = Invalidate (n + more) ∷ ops
onto_ops (Ins lines) (Ins more ∷ ops) = Ins (lines ++ more) ∷ ops
onto_ops (Update ln lines) (Update later more ∷ ops) = Update (or_number ln later) (lines ++ more) ∷ ops
onto_ops op ops = op ∷ ops

-- THIRD STEP: neighbours of one kind are joined
abbrev pub joined_ops : List Op → List Op
joined_ops [] = []
joined_ops (op ∷ ops) = onto_ops op (joined_ops ops)

-- THE UPDATE PLAN for a layout, from the partners of its lines that are valid on the screen, the window and the lines requested
abbrev pub update_plan : Run → Run → List Line → List (Option (ℕ × Bool)) → List Op
update_plan window request lines partners = joined_ops (ops_for 0 (with_standings window request 0 partners lines))

-- what a line with this standing is on the screen after the plan
abbrev pub shown_as : Standing × Line → Option Line
shown_as (stays old, line) = Some line
shown_as (is_restyled old, line) = Some line
shown_as (is_sent, line) = Some line
shown_as (is_left, line) = None

-- the screen that a plan is to make: the lines of the layout that stay, are restyled or are sent, and no others
abbrev pub planned_screen : Run → Run → List Line → List (Option (ℕ × Bool)) → Screen
planned_screen window request lines partners = map shown_as (with_standings window request 0 partners lines)

-- the screen on which the lines of the window and the request are valid, and no others
abbrev pub shown_lines : Run → Run → List Line → Screen
shown_lines window request lines =
    map (λ (index, line). if is_within window index || is_within request index then Some line else None) (enumerate_from 0 lines)

-- two lines are the same but for their numbers: numbered alike they are one
abbrev pub IsSameButNumber : Line → Line → Type 0
IsSameButNumber old line = (number : ℕ) → numbered old.ln number old ≡ numbered line.ln number line

-- an old line may be taken over for a line: it is the same but for its number or, where the logical line is touched, it is so with the
-- line's carets and styles, and thus has the same text
abbrev pub CanBeTaken : Bool → Line → Line → Type 0
CanBeTaken true old line = IsSameButNumber old line
CanBeTaken false old line = IsSameButNumber (restyled (restyle_of line) old) line

-- the old line with this index is valid on the screen, and may be taken over for the line
pub record IsPartner (screen : Screen) (old : ℕ) (same : Bool) (line : Line) : Type 0 where
  pub shown : Line
  pub is : slice_get screen old ≡ Some (Some shown)
  pub can : CanBeTaken same shown line

-- the partners of lines rise from `from` on, and each is a partner
abbrev pub ArePartners : Screen → ℕ → List (Option (ℕ × Bool)) → List Line → Type 0
ArePartners screen from partners [] = ⊤
ArePartners screen from [] (line ∷ lines) = ⊤
ArePartners screen from (None ∷ partners) (line ∷ lines) = ArePartners screen from partners lines
ArePartners screen from (Some (old, same) ∷ partners) (line ∷ lines) =
    (from ≤ old) × IsPartner screen old same line × ArePartners screen (old + 1) partners lines

-- the lines that have a number are numbered from this one on
abbrev pub AreNumberedFrom : ℕ → List Line → Type 0
AreNumberedFrom number [] = ⊤
AreNumberedFrom number (line ∷ lines) =
    (numbered line.ln number line ≡ line) × AreNumberedFrom (number_after line.ln number) lines

-- what operations tell of a line: all of it, or its carets and styles
pub data Told : Type 0 where
  whole : (line : Line) → Told
  styling : (restyle : Restyle) → Told

-- what operations tell, each with the index of its line on the new screen; the first operation makes the line with this index
abbrev pub told_by : ℕ → List Op → List (ℕ × Told)
told_by index [] = []
told_by index (Copy n ln ∷ ops) = told_by (index + n) ops
told_by index (Skip n ∷ ops) = told_by index ops
told_by index (Invalidate n ∷ ops) = told_by (index + n) ops
told_by index (Ins lines ∷ ops) = enumerate_from index (map whole lines) ++ told_by (index + length lines) ops
told_by index (Update ln restyles ∷ ops) = enumerate_from index (map styling restyles) ++ told_by (index + length restyles) ops

-- what is to be told by the standings of lines, each with the index of its line; the first line has this one
abbrev pub to_tell : ℕ → List (Standing × Line) → List (ℕ × Told)
to_tell index [] = []
to_tell index ((stays old, line) ∷ lines) = to_tell (index + 1) lines
to_tell index ((is_restyled old, line) ∷ lines) = (index, styling (restyle_of line)) ∷ to_tell (index + 1) lines
to_tell index ((is_sent, line) ∷ lines) = (index, whole line) ∷ to_tell (index + 1) lines
to_tell index ((is_left, line) ∷ lines) = to_tell (index + 1) lines

-- the partner of the line with this index, if any
abbrev pub partner_at : List (Option (ℕ × Bool)) → ℕ → Option (ℕ × Bool)
partner_at [] index = None
partner_at (partner ∷ partners) zero = partner
partner_at (partner ∷ partners) (suc index) = partner_at partners index

-- what may be told of a line: all of it where it has no partner, and its carets and styles where it has one and its logical line is touched
abbrev pub is_due : Option (ℕ × Bool) → Told → Bool
is_due None (whole line) = true
is_due None (styling restyle) = false
is_due (Some (old, same)) (whole line) = false
is_due (Some (old, same)) (styling restyle) = not same
