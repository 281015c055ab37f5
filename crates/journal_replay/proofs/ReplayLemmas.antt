-- What a replay comes to, by what the session that plays it has become.
use Rattle.std.proofs.Common.{◌≡◌, ℕ, arith, true, false, List, [], ◌∷◌, ◌++◌, map, take, Option, Some, None, refl, ap, sym, ◌∙◌, subst, append-nil, append_assoc}
use Rattle.std.specs.Prelude.{◌&&◌}
use Rattle.std.proofs.lemmas.List.Folds.{list_all-append}
use Rattle.xi_plain.specs.declared.entry.Entry.{Entry}
use Rattle.outside.specs.Faults.{counted}
use Rattle.outside.specs.Sink.{Gains, SinkState, sink_state}
use Rattle.outside.proofs.ForCallers.{Gains-none}
use Rattle.session_step.specs.declared.terms.Terms.{Terms}
use Rattle.session_step.specs.Session.{Session, first_session, piece_of, session_after, session_of, step, written}
use Rattle.core_session.specs.Grown.{AreWritten, IsGrown, IsProperPart, SessionState, are_sent, failures_with, session_in}
use Rattle.core_session.specs.GrownLaws.{failures_with-append}
use Rattle.core_session.specs.Kept.{with_sent}
use Rattle.core_session.proofs.ForCallers.{AreWritten-sent, failures_with-sent}
use Rattle.journal_replay.specs.declared.replaying.ReplayFault.{ReplayFault}
use Rattle.journal_replay.specs.declared.replaying.ReplayFault.TheVariants as fault
use Rattle.journal_replay.specs.Follow.{first_point}
use Rattle.journal_replay.specs.Inner.{IsPlayed, all_sent}
use Rattle.journal_replay.specs.Replay.{BreaksOff, GainsPieces, GainsSome, Replays, asked_only, replay_terms}
use Rattle.journal_replay.proofs.PointLemmas.{are_sent-all, piece_of-sent, session_after-sent, written-sent}

-- what was written of entries, and of those after them
AreWritten-parts : (session : Session) (front back : List Entry) (bytes : List ℕ) → AreWritten session (front ++ back) bytes →
    (first : List ℕ) × (then : List ℕ) × (bytes ≡ first ++ then) × AreWritten session front first ×
    AreWritten (session_after session front) back then
AreWritten-parts session [] back bytes wrote = ([], bytes, refl, refl, wrote)
AreWritten-parts session (entry ∷ front) back bytes wrote =
    let (part, rest, is, of, more) = wrote in
    let (first, then, cut, here, there) = AreWritten-parts (step session entry) front back rest more in (
      part ++ first,
      then,
      is ∙ ap (λ xs. part ++ xs) cut ∙ sym (append_assoc part first then),
      (part, first, refl, of, here),
      there,
    )

-- a replay that began nothing
pub replays_none : (plugins : ℕ) (tape : List ℕ) (journal : List Entry) (sink : SinkState) →
    Replays plugins tape journal sink sink (Some fault.NoMemory)
replays_none plugins tape journal sink =
    (0, record { log = []; asks = refl; bytes = []; gains = Gains-none sink.held; wrote = refl; stays = omega arith })

module _ (plugins : ℕ) (tape : List ℕ) (journal : List Entry) (old new : SessionState) (terms : old.terms ≡ replay_terms plugins)
    (empty : old.journal ≡ []) (grown : IsGrown old new) where
  start : session_in old ≡ first_session (replay_terms plugins)
  start = ap (λ log. session_of old.terms log) empty ∙ ap (λ (t : Terms). first_session t) terms

  more_is : grown.more ≡ new.journal
  more_is = sym (grown.journal ∙ ap (λ log. log ++ grown.more) empty)

  gains_pieces : (entries : List Entry) → new.journal ≡ all_sent entries → GainsPieces (replay_terms plugins) old.sink new.sink entries
  gains_pieces entries log =
      let more : grown.more ≡ all_sent entries = more_is ∙ log in
      let sent : are_sent grown.more ≡ true = ap are_sent more ∙ are_sent-all entries in
      let bytes : grown.bytes ≡ written (first_session (replay_terms plugins)) entries =
      AreWritten-sent (session_in old) grown.more grown.bytes sent grown.written ∙ ap (written (session_in old)) more ∙
      written-sent (session_in old) entries ∙ ap (λ s. written s entries) start in
      record {
        gains = subst (Gains old.sink.held new.sink.held) bytes grown.gains;
        failures = grown.failures ∙ failures_with-sent grown.more old.sink.failures sent;
        stays = grown.sink_stays;
      }

  breaks_off : (front : List Entry) (entry : Entry) → new.journal ≡ all_sent front ++ with_sent entry false ∷ [] →
      BreaksOff (replay_terms plugins) old.sink new.sink front entry
  breaks_off front entry log =
      let unsent = with_sent entry false in
      let more : grown.more ≡ all_sent front ++ unsent ∷ [] = more_is ∙ log in
      let some : are_sent grown.more ≡ false =
      ap are_sent more ∙ list_all-append (λ (e : Entry). e.sent) (all_sent front) (unsent ∷ []) ∙
      ap (λ whole. whole && are_sent (unsent ∷ [])) (are_sent-all front) in
      let Wrote : List Entry → Type 0 = λ log. AreWritten (session_in old) log grown.bytes in
      let (first, then, cut, here, there) =
      AreWritten-parts (session_in old) (all_sent front) (unsent ∷ []) grown.bytes (subst Wrote more grown.written) in
      let (part, rest, is, proper, none) = there in
      let at : session_after (session_in old) (all_sent front) ≡ session_of (replay_terms plugins) front =
      session_after-sent (session_in old) front ∙ ap (λ s. session_after s front) start in
      let piece : piece_of (session_after (session_in old) (all_sent front)) unsent ≡ piece_of (session_of (replay_terms plugins) front) entry =
      piece_of-sent false (session_after (session_in old) (all_sent front)) entry ∙ ap (λ s. piece_of s entry) at in
      let before : first ≡ written (first_session (replay_terms plugins)) front =
      AreWritten-sent (session_in old) (all_sent front) first (are_sent-all front) here ∙ written-sent (session_in old) front ∙
      ap (λ s. written s front) start in
      let last : then ≡ part = is ∙ ap (λ xs. part ++ xs) none ∙ append-nil part in
      let bytes : grown.bytes ≡ written (first_session (replay_terms plugins)) front ++ part =
      cut ∙ ap (λ xs. xs ++ then) before ∙ ap (λ xs. written (first_session (replay_terms plugins)) front ++ xs) last in
      record {
        part = part;
        proper = subst (IsProperPart part) piece proper;
        gains = subst (Gains old.sink.held new.sink.held) bytes grown.gains;
        failures =
            grown.failures ∙ ap (λ log. failures_with log old.sink.failures) more ∙
            failures_with-append (all_sent front) (unsent ∷ []) old.sink.failures ∙
            ap counted (failures_with-sent (all_sent front) old.sink.failures (are_sent-all front));
        stays = grown.sink_stays;
        rose = grown.unsent some;
      }

  gains_some : (n : ℕ) → map asked_only new.journal ≡ map asked_only (take n journal) →
      GainsSome (replay_terms plugins) old.sink new.sink journal n
  gains_some n asks = record {
    log = grown.more;
    asks = ap (map asked_only) more_is ∙ asks;
    bytes = grown.bytes;
    gains = grown.gains;
    wrote = subst (λ s. AreWritten s grown.more grown.bytes) start grown.written;
    stays = grown.sink_stays;
  }

  pub replays_by : (answer : Option ReplayFault) → IsPlayed plugins (first_point (replay_terms plugins) tape) journal answer new.journal →
      Replays plugins tape journal old.sink new.sink answer
  replays_by None played = (played.0, gains_pieces journal played.1)
  replays_by (Some (fault.Differs index)) played = (played.0, gains_pieces (take index journal) played.1)
  replays_by (Some fault.SinkFault) played =
      let (front, entry, back, is, follow, log) = played in (front, entry, back, is, follow, breaks_off front entry log)
  replays_by (Some fault.NoMemory) played = (played.0, gains_some played.0 played.1)

-- the same of a sink that was handed in, and of the one that came back
pub replays_told : {K : Type 0} (held : K → Option (List ℕ)) (faults failures : K → ℕ) (plugins : ℕ) (tape : List ℕ) (journal : List Entry)
    (sink made after back : K) → made ≡ sink → back ≡ after → (answer : Option ReplayFault) →
    Replays plugins tape journal (sink_state held faults failures made) (sink_state held faults failures after) answer →
    Replays plugins tape journal (sink_state held faults failures sink) (sink_state held faults failures back) answer
replays_told {K} held faults failures plugins tape journal sink made after back in_is out_is answer replays =
    let From : K → Type 0 = λ s. Replays plugins tape journal (sink_state held faults failures s) (sink_state held faults failures after) answer in
    let To : K → Type 0 = λ s. Replays plugins tape journal (sink_state held faults failures sink) (sink_state held faults failures s) answer in
    subst To (sym out_is) (subst From in_is replays)

-- what was played from the terms and the bytes of a session is what is played from those of the replay
pub played_on : (plugins : ℕ) (terms : Terms) (bytes tape : List ℕ) (journal log : List Entry) (answer : Option ReplayFault) → terms ≡ replay_terms plugins →
    bytes ≡ tape → IsPlayed plugins (first_point terms bytes) journal answer log → IsPlayed plugins (first_point (replay_terms plugins) tape) journal answer log
played_on plugins terms bytes tape journal log answer made same played =
    let With : Terms → Type 0 = λ t. IsPlayed plugins (first_point t bytes) journal answer log in
    let Over : List ℕ → Type 0 = λ b. IsPlayed plugins (first_point (replay_terms plugins) b) journal answer log in
    subst Over same (subst With made played)
