-- Over any steps that may come, one that forgets holds what is left of the history that forgot nothing.
use Rattle.std.proofs.Common.{◌≡◌, ℕ, ◌≤◌, List, [], ◌∷◌, refl, ap, sym, ◌∙◌}
use Rattle.plain_edits.specs.History.{History, loaded, head, text_at}
use Rattle.plain_edits.specs.HistorySteps.{Step, edits, undoes, collects, after_step, after_steps, MayCome}
use Rattle.collection_laws.specs.MayForget.{MayForget}
use Rattle.collection_laws.specs.Left.{left_of}
use Rattle.collection_laws.specs.Forgetful.{forgetful_step, forgetful_steps, MayComeInTurn}
use Rattle.collection_laws.proofs.GuardLemmas.{MayForget-loaded, MayForget-after_step}
use Rattle.collection_laws.proofs.ShownLemmas.{text_at-left}
use Rattle.collection_laws.proofs.LaterLemmas.{left_of-undid}
use Rattle.collection_laws.proofs.EditedLemmas.{left_of-edited}
use Rattle.collection_laws.proofs.CollectedLemmas.{left_of-collected, left_of-whole}

pub left_of-after_step : (history : History) (step : Step) → MayForget history → MayCome history step →
    left_of (after_step history step) ≡ forgetful_step (left_of history) step
left_of-after_step history (edits e) forgets may = left_of-edited history e forgets may
left_of-after_step history (undoes groups) forgets may = left_of-undid history groups forgets may
left_of-after_step history (collects floor groups) forgets may = left_of-collected history floor groups forgets may

pub MayForget-after_steps : (history : History) (steps : List Step) → MayForget history → MayComeInTurn history steps →
    MayForget (after_steps history steps)
MayForget-after_steps history [] forgets may = forgets
MayForget-after_steps history (step ∷ steps) forgets may =
    MayForget-after_steps (after_step history step) steps (MayForget-after_step history step forgets may.0) may.1

pub left_of-after_steps : (history : History) (steps : List Step) → MayForget history → MayComeInTurn history steps →
    left_of (after_steps history steps) ≡ forgetful_steps (left_of history) steps
left_of-after_steps history [] forgets may = refl
left_of-after_steps history (step ∷ steps) forgets may =
    left_of-after_steps (after_step history step) steps (MayForget-after_step history step forgets may.0) may.1 ∙
    ap (λ left. forgetful_steps left steps) (left_of-after_step history step forgets may.0)

-- from a loaded text
pub forgetful_steps-loaded : (text : List ℕ) (steps : List Step) → MayComeInTurn (loaded text) steps →
    forgetful_steps (loaded text) steps ≡ left_of (after_steps (loaded text) steps)
forgetful_steps-loaded text steps may =
    ap (λ left. forgetful_steps left steps) (sym (left_of-whole (loaded text) (MayForget-loaded text) refl refl)) ∙
    sym (left_of-after_steps (loaded text) steps (MayForget-loaded text) may)

pub text_at-forgetful_steps : (text : List ℕ) (steps : List Step) (rev : ℕ) → MayComeInTurn (loaded text) steps →
    (after_steps (loaded text) steps).floor ≤ rev → rev ≤ head (after_steps (loaded text) steps) →
    text_at (forgetful_steps (loaded text) steps) rev ≡ text_at (after_steps (loaded text) steps) rev
text_at-forgetful_steps text steps rev may low high =
    ap (λ history. text_at history rev) (forgetful_steps-loaded text steps may) ∙
    text_at-left (after_steps (loaded text) steps) (MayForget-after_steps (loaded text) steps (MayForget-loaded text) may) rev low high
