-- The lines that an update plan sends are in the window or requested.
use Rattle.std.proofs.Common.{◌≡◌, ℕ, suc, ◌+◌, ◌<◌, ◌≤◌, ◌||◌, length, arith, Bool, true, false, List, [], ◌∷◌, refl, ap, sym, ◌∙◌, subst, inl, inr}
use Rattle.std.specs.Prelude.{if◌then◌else◌}
use Rattle.std.proofs.lemmas.Bool.{cases_eq}
use Rattle.plain_text.specs.declared.run.Run.{Run}
use Rattle.plain_screen.specs.declared.screen.Line.{Line}
use Rattle.plain_screen.specs.declared.screen.Op.{Op}
use Rattle.plain_screen.specs.declared.screen.Op.TheVariants.{Copy, Skip, Invalidate, Ins, Update}
use Rattle.plain_screen.specs.Plan.{is_within, onto_ops}
use Rattle.plain_screen.proofs.callers.PlanLemmas.{plan_from, plan_from-line}
use Rattle.core_session.specs.Shows.{SendsWithin}

module _ (window request : Run) where
  -- whether the line with this index is one of those
  abbrev asked : ℕ → Bool
  asked index = is_within window index || is_within request index

  abbrev Sends : ℕ → List Op → Type 0
  Sends index ops = SendsWithin window request index ops

  sends-onto_left : (index : ℕ) (ops : List Op) → Sends (index + 1) ops → Sends index (onto_ops (Invalidate 1) ops)
  sends-onto_left index [] sends = tt
  sends-onto_left index (Copy n ln ∷ ops) sends = sends
  sends-onto_left index (Skip n ∷ ops) sends = sends
  sends-onto_left index (Ins lines ∷ ops) sends = sends
  sends-onto_left index (Update ln restyles ∷ ops) sends = sends
  sends-onto_left index (Invalidate n ∷ ops) sends =
      let At : ℕ → Type 0 = λ at. Sends at ops in
      let same : index + 1 + n ≡ index + (1 + n) = omega arith in
      subst At same sends

  -- one line more in front of those sent
  one_line : (index n : ℕ) → asked index ≡ true → ((at : ℕ) → index + 1 ≤ at → at < index + 1 + n → asked at ≡ true) →
      (at : ℕ) → index ≤ at → at < index + suc n → asked at ≡ true
  one_line index n here later at above below =
      elim (cases_eq at index)
      [ inl is ↦ ap (λ k. is_within window k || is_within request k) is ∙ here | inr other ↦ later at (omega arith) (omega arith) ]

  sends-onto_sent : (index : ℕ) (line : Line) (ops : List Op) → asked index ≡ true → Sends (index + 1) ops →
      Sends index (onto_ops (Ins (line ∷ [])) ops)
  sends-onto_sent index line [] here sends = (one_line index 0 here (λ at above below. absurd (omega arith)), tt)
  sends-onto_sent index line (Copy n ln ∷ ops) here sends = (one_line index 0 here (λ at above below. absurd (omega arith)), sends)
  sends-onto_sent index line (Skip n ∷ ops) here sends = (one_line index 0 here (λ at above below. absurd (omega arith)), sends)
  sends-onto_sent index line (Invalidate n ∷ ops) here sends = (one_line index 0 here (λ at above below. absurd (omega arith)), sends)
  sends-onto_sent index line (Update ln restyles ∷ ops) here sends = (one_line index 0 here (λ at above below. absurd (omega arith)), sends)
  sends-onto_sent index line (Ins lines ∷ ops) here sends =
      let At : ℕ → Type 0 = λ at. Sends at ops in
      let same : index + 1 + length lines ≡ index + suc (length lines) = omega arith in
      (one_line index (length lines) here sends.0, subst At same sends.1)

  sends_one : (index : ℕ) (inside : Bool) (line : Line) (ops : List Op) → asked index ≡ inside → Sends (index + 1) ops →
      Sends index (onto_ops (if inside then Ins (line ∷ []) else Invalidate 1) ops)
  sends_one index true line ops here sends = sends-onto_sent index line ops here sends
  sends_one index false line ops here sends = sends-onto_left index ops sends

  pub sends-plan_from : (lines : List Line) (index at : ℕ) → Sends index (plan_from window request index at lines)
  sends-plan_from [] index at = tt
  sends-plan_from (line ∷ lines) index at =
      subst (SendsWithin window request index) (sym (plan_from-line window request index at line lines (asked index) refl))
      (sends_one index (asked index) line (plan_from window request (index + 1) at lines) refl (sends-plan_from lines (index + 1) at))
