-- Which revision is the saved one after an event, and whether the text is pristine then.
use Rattle.std.proofs.Common.{◌≡◌, ◌⊎◌, inl, inr, ℕ, refl, sym, ◌∙◌, arith}
use Rattle.std.proofs.lemmas.Bool.{eq-eqb, eqb-true, ne_eqb}
use Rattle.plain_edits.specs.History.{head}
use Rattle.doc_text.proofs.ForCallers.{part-collected}
use Rattle.doc_session.specs.declared.event.Event.{Event}
use Rattle.doc_session.specs.declared.event.Event.TheVariants.{Ack, Config as Configure, Count, Edit, Ended, Front, Other, Read, Saved, Spans}
use Rattle.doc_session.specs.Document.{Document}
use Rattle.doc_session.specs.Step.{taken_step}
use Rattle.doc_session.proofs.ForCallers.{by_front}
use Rattle.document_laws.specs.Laws.{SavingIsSeen, after_event}

-- the head, where the text was saved, and else the one before
abbrev saved_after : Document → Event → ℕ
saved_after d Saved = head d.text.history
saved_after d event = d.text.saved

saved-taken : (d : Document) (event : Event) → (taken_step d event).document.text.saved ≡ saved_after d event
saved-taken d (Front act) =
    by_front (λ step. step.document.text.saved ≡ d.text.saved) d act (λ next body scroll history leaves. leaves.saved)
    (λ next body scroll more leaves. leaves.saved)
saved-taken d (Edit caller edit named) = refl
saved-taken d (Spans caller rev start len spans) = refl
saved-taken d (Read caller rev start max) = refl
saved-taken d (Count caller) = refl
saved-taken d (Ack caller rev) = refl
saved-taken d (Ended caller) = refl
saved-taken d (Configure config) = refl
saved-taken d Saved = refl
saved-taken d Other = refl

saved-event : (d : Document) (event : Event) → (after_event d event).text.saved ≡ saved_after d event
saved-event d event = part-collected (λ text. text.saved) (taken_step d event).document.text (λ found. refl) ∙ saved-taken d event

saved-either : (d : Document) (event : Event) → (saved_after d event ≡ head d.text.history) ⊎ (saved_after d event ≡ d.text.saved)
saved-either d (Front act) = inr refl
saved-either d (Edit caller edit named) = inr refl
saved-either d (Spans caller rev start len spans) = inr refl
saved-either d (Read caller rev start max) = inr refl
saved-either d (Count caller) = inr refl
saved-either d (Ack caller rev) = inr refl
saved-either d (Ended caller) = inr refl
saved-either d (Configure config) = inr refl
saved-either d Saved = inl refl
saved-either d Other = inr refl

head-saved : (d : Document) → head (after_event d Saved).text.history ≡ head d.text.history
head-saved d = part-collected (λ text. head text.history) (taken_step d Saved).document.text (λ found. refl)

pub saving_is_seen : SavingIsSeen
saving_is_seen = record {
  saved = λ d. eq-eqb (head (after_event d Saved).text.history) (after_event d Saved).text.saved (head-saved d ∙ sym (saved-event d Saved));
  stays = λ d event still was.
      let now = after_event d event in
      let own : head d.text.history ≡ d.text.saved = eqb-true (head d.text.history) d.text.saved was in
      eq-eqb (head now.text.history) now.text.saved
      (elim (saved-either d event) [
        | inl saved ↦ still ∙ sym (saved-event d event ∙ saved)
        | inr kept ↦ still ∙ own ∙ sym (saved-event d event ∙ kept)
      ]);
  ends = λ doc d event stands more.
      let now = after_event d event in
      ne_eqb (head now.text.history) now.text.saved (λ same.
      elim (saved-either d event) [
        | inl saved ↦ omega (arith, more, same, saved-event d event, saved)
        | inr kept ↦ omega (arith, more, same, saved-event d event, kept, stands.text.parts.saved_before)
      ]);
}
