-- The update plan of lines without partners, by stretches of lines that are asked for, or are not.
use Rattle.std.proofs.Common.{◌≡◌, ℕ, zero, suc, ◌+◌, ◌-◌, ◌<◌, ◌≤◌, Bool, true, false, List, [], ◌∷◌, ◌++◌, length, take, drop, refl, ap, ap₂, sym, ◌∙◌, arith, append-nil, length-drop}
use Rattle.std.specs.Prelude.{if◌then◌else◌, not}
use Rattle.std.proofs.lemmas.List.{drop-drop, nil_from_length}
use Rattle.plain_text.specs.declared.run.Run.{Run}
use Rattle.plain_screen.specs.declared.screen.Line.{Line}
use Rattle.plain_screen.specs.declared.screen.Op.{Op}
use Rattle.plain_screen.specs.declared.screen.Op.TheVariants.{Copy, Skip, Invalidate, Ins, Update}
use Rattle.plain_screen.specs.Plan.{onto_ops}
use Rattle.plain_screen.proofs.callers.PlanLemmas.{plan_from, plan_from-line}
use Rattle.doc_layout.specs.declared.asked.Asked.{Asked}
use Rattle.doc_layout.specs.Told.{is_asked}
use Rattle.doc_layout.specs.Inner.{IsStretch, stretch_op}

-- one line
abbrev line_op : Bool → Line → Op
line_op b line = if b then Ins (line ∷ []) else Invalidate 1

onto_ops-more : (b : Bool) (line : Line) (lines : List Line) (ops : List Op) → onto_ops (line_op b line) (stretch_op b lines ∷ ops) ≡ stretch_op b (line ∷ lines) ∷ ops
onto_ops-more true line lines ops = refl
onto_ops-more false line lines ops = let one_more : 1 + length lines ≡ suc (length lines) = omega arith in ap (λ n. Invalidate n ∷ ops) one_more

onto_ops-alone : (b : Bool) (line : Line) → onto_ops (line_op b line) [] ≡ stretch_op b (line ∷ []) ∷ []
onto_ops-alone true line = refl
onto_ops-alone false line = refl

-- a line before one of the other kind
onto_ops-other : (b : Bool) (line other : Line) (ops : List Op) →
    onto_ops (line_op b line) (onto_ops (line_op (not b) other) ops) ≡ stretch_op b (line ∷ []) ∷ onto_ops (line_op (not b) other) ops
onto_ops-other true line other [] = refl
onto_ops-other true line other (Copy n ln ∷ ops) = refl
onto_ops-other true line other (Skip n ∷ ops) = refl
onto_ops-other true line other (Invalidate n ∷ ops) = refl
onto_ops-other true line other (Ins lines ∷ ops) = refl
onto_ops-other true line other (Update ln restyles ∷ ops) = refl
onto_ops-other false line other [] = refl
onto_ops-other false line other (Copy n ln ∷ ops) = refl
onto_ops-other false line other (Skip n ∷ ops) = refl
onto_ops-other false line other (Invalidate n ∷ ops) = refl
onto_ops-other false line other (Ins lines ∷ ops) = refl
onto_ops-other false line other (Update ln restyles ∷ ops) = refl

module _ (asked : Asked) where
  abbrev plan_at : ℕ → List Line → List Op
  plan_at index lines = plan_from asked.window asked.request index 0 lines

  plan_at-line : (index : ℕ) (line : Line) (lines : List Line) (b : Bool) → is_asked asked index ≡ b →
      plan_at index (line ∷ lines) ≡ onto_ops (line_op b line) (plan_at (index + 1) lines)
  plan_at-line index line lines b is = plan_from-line asked.window asked.request index 0 line lines b is

  -- a first line, behind which one of the other kind stands, or none
  plan_at-last : (index : ℕ) (line : Line) (lines : List Line) (b : Bool) → is_asked asked index ≡ b →
      (0 < length lines → is_asked asked (index + 1) ≡ not b) → plan_at index (line ∷ lines) ≡ stretch_op b (line ∷ []) ∷ plan_at (index + 1) lines
  plan_at-last index line [] b is ends = plan_at-line index line [] b is ∙ onto_ops-alone b line
  plan_at-last index line (other ∷ lines) b is ends =
      let next = plan_at-line (index + 1) other lines (not b) (ends (omega arith)) in
      plan_at-line index line (other ∷ lines) b is ∙ ap (onto_ops (line_op b line)) next ∙
      onto_ops-other b line other (plan_at (index + 1 + 1) lines) ∙ ap (λ ops. stretch_op b (line ∷ []) ∷ ops) (sym next)

  -- the lines of a stretch
  plan_at-stretch : (k index : ℕ) (lines : List Line) (b : Bool) → k < length lines →
      ((i : ℕ) → index ≤ i → i < index + suc k → is_asked asked i ≡ b) → (suc k < length lines → is_asked asked (index + suc k) ≡ not b) →
      plan_at index lines ≡ stretch_op b (take (suc k) lines) ∷ plan_at (index + suc k) (drop (suc k) lines)
  plan_at-stretch k index [] b inside alike ends = absurd (omega (arith, inside))
  plan_at-stretch zero index (line ∷ lines) b inside alike ends =
      plan_at-last index line lines b (alike index (omega arith) (omega arith)) (λ some. ends (omega (arith, some)))
  plan_at-stretch (suc k) index (line ∷ lines) b inside alike ends =
      let on : index + 1 + suc k ≡ index + suc (suc k) = omega arith in
      plan_at-line index line lines b (alike index (omega arith) (omega arith)) ∙
      ap (onto_ops (line_op b line))
      (plan_at-stretch k (index + 1) lines b (omega (arith, inside)) (λ i low high. alike i (omega (arith, low)) (omega (arith, high)))
      (λ more. ap (is_asked asked) on ∙ ends (omega (arith, more)))) ∙
      onto_ops-more b line (take (suc k) lines) (plan_at (index + 1 + suc k) (drop (suc k) lines)) ∙
      ap (λ n. stretch_op b (line ∷ take (suc k) lines) ∷ plan_at n (drop (suc k) lines)) on

  -- from one stretch to the next
  pub plan_from-stretch : (lines : List Line) (start end : ℕ) → start < length lines → IsStretch asked start end (length lines) →
      plan_at start (drop start lines) ≡ stretch_op (is_asked asked start) (take (end - start) (drop start lines)) ∷ plan_at end (drop end lines)
  plan_from-stretch lines start end inside is = by (end - start) refl
    where
      by : (n : ℕ) → end - start ≡ n →
          plan_at start (drop start lines) ≡ stretch_op (is_asked asked start) (take n (drop start lines)) ∷ plan_at end (drop end lines)
      by zero none = absurd (omega (arith, is.some, none))
      by (suc k) count =
          let to : start + suc k ≡ end = omega (arith, is.some, count) in
          let left = length-drop start lines in
          plan_at-stretch k start (drop start lines) (is_asked asked start) (omega (arith, left, is.inside, to))
          (λ i low high. is.alike i low (omega (arith, high, to)))
          (λ more. ap (is_asked asked) to ∙ is.ends (omega (arith, more, left, to))) ∙
          ap₂ (λ n rest. stretch_op (is_asked asked start) (take (suc k) (drop start lines)) ∷ plan_at n rest) to
          (drop-drop (suc k) start lines ∙ ap (λ n. drop n lines) to)

-- behind the last line there is nothing more to tell
pub plan_from-end : (window request : Run) (lines : List Line) (at : ℕ) (ops all : List Op) → length lines ≤ at →
    ops ++ plan_from window request at 0 (drop at lines) ≡ all → ops ≡ all
plan_from-end window request lines at ops all past is =
    sym (append-nil ops) ∙ ap (λ ls. ops ++ plan_from window request at 0 ls) (sym (nil_from_length (drop at lines) (omega (arith, length-drop at lines, past)))) ∙ is
