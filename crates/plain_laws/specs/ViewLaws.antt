-- Laws of views and of update plans, whatever the text, the pieces and the screen.
use Rattle.std.specs.Prelude.{◌≡◌, ℕ, Bool, true, ◌&&◌, ◌||◌, slice_get, slice_range, List, length, map, Option, Some}
use Rattle.std.specs.List.{AllByRecursion, concat}
use Rattle.plain_text.specs.declared.run.Run.{Run}
use Rattle.plain_screen.specs.declared.piece.Piece.{Piece}
use Rattle.plain_screen.specs.declared.screen.Line.{Line}
use Rattle.plain_screen.specs.Screen.{Screen, screen_after}
use Rattle.plain_screen.specs.Plan.{is_within, with_standings, update_plan, planned_screen, ArePartners, AreNumberedFrom, told_by, to_tell, partner_at, is_due}
use Rattle.plain_screen.specs.Touched.{TouchesNoOthers, partners_of, valid_partner, valid_partners}
use Rattle.plain_screen.specs.View.{AreEnds, ArePieces, pieces_by, whole_lines, layout_line_of, IsLayoutLineOf, logical_line_of, IsLogicalLineOf}

-- the pieces of a text, one after the other, are the text; and a rule that says where each line is cut gives pieces of each text
pub record PiecesAreTexts : Type 0 where
  pub joined : (text : List ℕ) (pieces : List Piece) → ArePieces text pieces → concat (map (λ piece. slice_range text piece.start piece.end) pieces) ≡ text
  pub by_rule : (ends_of : List ℕ → List ℕ) → ((line : List ℕ) → AreEnds (length line) (ends_of line)) → (text : List ℕ) →
      ArePieces text (pieces_by ends_of text)
  pub whole : (text : List ℕ) → ArePieces text (whole_lines text)

-- each gap has a layout line, and no other; and the logical line of a gap is the last one that starts by it
pub record GapsHaveLines : Type 0 where
  pub line : (text : List ℕ) (pieces : List Piece) (gap : ℕ) → ArePieces text pieces → IsLayoutLineOf pieces gap (layout_line_of pieces gap)
  pub only : (pieces : List Piece) (gap index other : ℕ) → IsLayoutLineOf pieces gap index → IsLayoutLineOf pieces gap other → index ≡ other
  pub logical : (text : List ℕ) (gap : ℕ) → IsLogicalLineOf text gap (logical_line_of text gap)

-- THE LAW OF THE PLAN: where partners rise, each is a valid old line that is the same but for its number or, where its logical line is
-- touched, has the same text, and the lines are numbered on, the screen after the plan is the layout wherever the plan keeps, restyles or
-- sends, and not valid elsewhere
abbrev pub PlansKeep : Type 0
PlansKeep = (screen : Screen) (window request : Run) (number : ℕ) (lines : List Line) (partners : List (Option (ℕ × Bool))) →
    ArePartners screen 0 partners lines → AreNumberedFrom number lines →
    screen_after screen (update_plan window request lines partners) ≡ Some (planned_screen window request lines partners)

-- PARTNERS of the lines of a layout are partners, where the screen shows the lines before, and no other logical lines are touched by text:
-- those that are valid rise, and each has the text of its line, and is the same but for its number where its logical line is not touched.
-- So the plan that they make keeps to the layout.
pub record PartnersStay : Type 0 where
  pub partners : (screen : Screen) (touched : Run) (before after : List Line) → TouchesNoOthers touched before after →
      ((i : ℕ) (line : Line) → slice_get screen i ≡ Some (Some line) → slice_get before i ≡ Some line) →
      ArePartners screen 0 (valid_partners screen (partners_of touched before after)) after
  pub plan : (screen : Screen) (touched window request : Run) (before after : List Line) → TouchesNoOthers touched before after →
      ((i : ℕ) (line : Line) → slice_get screen i ≡ Some (Some line) → slice_get before i ≡ Some line) → AreNumberedFrom 1 after →
      screen_after screen (update_plan window request after (valid_partners screen (partners_of touched before after))) ≡
      Some (planned_screen window request after (valid_partners screen (partners_of touched before after)))

-- a plan tells what is to be told by the standings of its lines, and no more. Each line of which it tells is in the window or requested: all
-- of it where it has no partner, and its carets and styles where it has one and its logical line is touched. And a line has a valid partner
-- exactly where its partner is valid on the screen.
pub record PlansSend : Type 0 where
  pub told : (window request : Run) (lines : List Line) (partners : List (Option (ℕ × Bool))) →
      told_by 0 (update_plan window request lines partners) ≡ to_tell 0 (with_standings window request 0 partners lines)
  pub due : (window request : Run) (lines : List Line) (partners : List (Option (ℕ × Bool))) →
      AllByRecursion (λ (at, what). ((is_within window at || is_within request at) && is_due (partner_at partners at) what) ≡ true)
      (to_tell 0 (with_standings window request 0 partners lines))
  pub valid : (screen : Screen) (partners : List (Option (ℕ × Bool))) (at : ℕ) →
      partner_at (valid_partners screen partners) at ≡ valid_partner screen (partner_at partners at)
