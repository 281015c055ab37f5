-- What is shown of entries does not depend on whether they were sent.
use Rattle.std.proofs.Common.{◌≡◌, ℕ, true, List, [], ◌∷◌, ◌++◌, refl, ap, sym, ◌∙◌, subst}
use Rattle.std.proofs.Math.Logic.{∥∥₁_map}
use Rattle.plain_text.specs.declared.run.Run.{Run}
use Rattle.xi_plain.specs.declared.entry.Entry.{Entry}
use Rattle.session_step.specs.declared.terms.Terms.{Terms}
use Rattle.session_step.specs.Session.{OpenView, Session, first_session, piece_of, session_of, views_of, written}
use Rattle.core_session.specs.Kept.{sent_front, with_sent}
use Rattle.core_session.specs.Serves.{IsSessionJournal}
use Rattle.core_session.specs.Shows.{AreShown, NotesSendTo, Shows, last_requested, requested, updates_in}
use Rattle.journal_replay.specs.Inner.{all_sent}
use Rattle.journal_replay.proofs.PointLemmas.{all_sent-append, piece_of-sent, sent_front-all, session_after-sent, written-sent}

last_requested-sent : (entries : List Entry) → last_requested (all_sent entries) ≡ last_requested entries
last_requested-sent [] = refl
last_requested-sent (entry ∷ []) = refl
last_requested-sent (entry ∷ (next ∷ entries)) = last_requested-sent (next ∷ entries)

module _ (terms : Terms) where
  session_of-sent : (entries : List Entry) → session_of terms (all_sent entries) ≡ session_of terms entries
  session_of-sent entries = session_after-sent (first_session terms) entries

  views_of-sent : (entries : List Entry) → views_of terms (all_sent entries) ≡ views_of terms entries
  views_of-sent entries = ap (λ (s : Session). s.views) (session_of-sent entries)

  Shows-sent : (journal : List Entry) → Shows terms (all_sent journal) (written (first_session terms) (all_sent journal)) →
      Shows terms journal (written (first_session terms) journal)
  Shows-sent journal shows = record {
    pieces = refl;
    screens =
        λ front back is.
        let shown = shows.screens (all_sent front) (all_sent back) (ap all_sent is ∙ all_sent-append front back) in
        let Bytes : List ℕ → Type 0 = λ bytes. AreShown (last_requested front) (views_of terms front) bytes in
        let Views : List OpenView → Type 0 = λ views. AreShown (last_requested front) views (written (first_session terms) (all_sent front)) in
        let Asked : (List ℕ → Run) → Type 0 =
        λ asks. AreShown asks (views_of terms (all_sent front)) (written (first_session terms) (all_sent front)) in
        subst Bytes (written-sent (first_session terms) front) (subst Views (views_of-sent front) (subst Asked (last_requested-sent front) shown));
    sends =
        λ front entry back is.
        let sends =
        shows.sends (all_sent front) (with_sent entry true) (all_sent back) (ap all_sent is ∙ all_sent-append front (entry ∷ back)) in
        let piece : piece_of (session_of terms (all_sent front)) (with_sent entry true) ≡ piece_of (session_of terms front) entry =
        piece_of-sent true (session_of terms (all_sent front)) entry ∙ ap (λ s. piece_of s entry) (session_of-sent front) in
        let views : views_of terms (all_sent front ++ with_sent entry true ∷ []) ≡ views_of terms (front ++ entry ∷ []) =
        ap (views_of terms) (sym (all_sent-append front (entry ∷ []))) ∙ views_of-sent (front ++ entry ∷ []) in
        let Bytes : List ℕ → Type 0 = λ bytes. NotesSendTo (requested entry.command.act) (views_of terms (front ++ entry ∷ [])) (updates_in bytes) in
        let Views : List OpenView → Type 0 =
        λ views. NotesSendTo (requested entry.command.act) views (updates_in (piece_of (session_of terms (all_sent front)) (with_sent entry true))) in
        subst Bytes piece (subst Views views sends);
  }

  -- what the journal of a session shows whose entries are these, each sent
  pub shows_again : (journal log : List Entry) → log ≡ all_sent journal → ∥ IsSessionJournal terms log ∥₁ →
      ∥ Shows terms journal (written (first_session terms) journal) ∥₁
  shows_again journal log is lawful =
      let Log : List Entry → Type 0 = λ log. Shows terms log (written (first_session terms) log) in
      ∥∥₁_map lawful (λ legal. Shows-sent journal (subst Log (ap sent_front is ∙ sent_front-all journal) legal.shows))
