-- What a journal wrote, by whether each of its entries was sent.
use Rattle.std.proofs.Common.{◌≡◌, ℕ, ◌+◌, ◌<◌, ◌≤◌, arith, inl, inr, Bool, true, false, List, [], ◌∷◌, ◌++◌, length, drop, get_or, Option, Some, None, refl, ap, sym, ◌∙◌, subst, append-nil, append_assoc}
use Rattle.std.proofs.Math.Logic.{∥∥₁_map}
use Rattle.std.proofs.lemmas.Bool.Decides.{nat_tests}
use Rattle.std.proofs.lemmas.List.{drop_more}
use Rattle.std.specs.Prelude.{◌==◌, ◌&&◌, ◌||◌, ◌⊎◌, ◌-◌, ◌^◌, nat_le, if◌then◌else◌, option_map, IfSome}
use Rattle.std.specs.List.{list_all}
use Rattle.xi_plain.specs.declared.entry.Entry.{Entry}
use Rattle.xi_plain.specs.Journal.{closing_entry, is_closing, is_ordered, may_follow}
use Rattle.outside.specs.Faults.{Rose, counted}
use Rattle.outside.specs.Sink.{Gains}
use Rattle.session_step.specs.declared.terms.Terms.{Terms}
use Rattle.session_step.specs.Session.{Session, first_session, piece_of, session_after, session_of, step, written}
use Rattle.core_session.specs.Grown.{AreWritten, IsGrown, IsWrittenOf, SessionState, are_sent, failures_with, files_left, session_in}
use Rattle.core_session.specs.Kept.{has_closing, sent_front}
use Rattle.core_session.specs.Serves.{IsSessionJournal}
use Rattle.core_session.specs.Shelves.{Files, HoldsSaves, NotesTellFrom, failed_notes, shelved}
use Rattle.core_session.specs.Shows.{Shows}
use Rattle.xi_top.specs.Written.{AreSent, IsCutOff, IsProperPart, IsSent}

-- ---- what a session without entries has grown to

-- what it tells since it began
pub record IsSince (terms : Terms) (old new : SessionState) : Type 0 where
  pub terms_are : new.terms ≡ terms
  pub bytes : List ℕ
  pub gains : Gains old.sink.held new.sink.held bytes
  pub written_is : AreWritten (first_session terms) new.journal bytes
  pub failures : new.sink.failures ≡ failures_with new.journal old.sink.failures
  pub saves : HoldsSaves terms old.shelf new.shelf new.journal
  pub sink_stays : old.sink.faults ≤ new.sink.faults
  pub unsent : are_sent new.journal ≡ false → Rose old.sink.faults new.sink.faults

files_shelved : (terms : Terms) (entries : List Entry) (before after : Option Files) → after ≡ files_left (first_session terms) entries before →
    after ≡ option_map (λ files. shelved terms files entries) before
files_shelved terms entries None after is = is
files_shelved terms entries (Some files) after is = is

pub since_start : (terms : Terms) (old new : SessionState) → old.terms ≡ terms → old.journal ≡ [] → IsGrown old new → IsSince terms old new
since_start terms old new made empty grown =
    let same : grown.more ≡ new.journal = ap (λ journal. journal ++ grown.more) (sym empty) ∙ sym grown.journal in
    let from : session_in old ≡ first_session terms = ap (session_of old.terms) empty ∙ ap first_session made in
    let Wrote : Session → List Entry → Type 0 = λ session entries. AreWritten session entries grown.bytes in
    let Left : Session → List Entry → Type 0 = λ session entries. new.shelf.files ≡ files_left session entries old.shelf.files in
    let Notes : Session → List Entry → Type 0 = λ session entries. IfSome old.shelf.files (λ files. NotesTellFrom session files entries) in
    let Failures : List Entry → Type 0 = λ entries. new.sink.failures ≡ failures_with entries old.sink.failures in
    let Unsent : List Entry → Type 0 = λ entries. are_sent entries ≡ false → Rose old.sink.faults new.sink.faults in
    let Few : List Entry → Type 0 = λ entries. new.shelf.faults < 2 ^ 64 - 1 → old.shelf.faults + failed_notes entries ≤ new.shelf.faults in
    record {
      terms_are = grown.terms ∙ made;
      bytes = grown.bytes;
      gains = grown.gains;
      written_is = subst (Wrote (first_session terms)) same (subst (λ session. Wrote session grown.more) from grown.written);
      failures = subst Failures same grown.failures;
      saves = record {
        files = files_shelved terms new.journal old.shelf.files new.shelf.files
            (subst (Left (first_session terms)) same (subst (λ session. Left session grown.more) from grown.files));
        tells = subst (Notes (first_session terms)) same (subst (λ session. Notes session grown.more) from grown.noted);
        stays = grown.shelf_stays;
        failed = subst Few same grown.failed;
      };
      sink_stays = grown.sink_stays;
      unsent = subst Unsent same grown.unsent;
    }

-- ---- which entries were sent

first_of : (a b : Bool) → a && b ≡ true → a ≡ true
first_of true b is = refl
first_of false b is = absurd cc

second_of : (a b : Bool) → a && b ≡ true → b ≡ true
second_of true b is = is
second_of false b is = absurd cc

left_none : (a b : Bool) → (a || b) ≡ false → a ≡ false
left_none true b is = absurd cc
left_none false b is = refl

right_none : (a b : Bool) → (a || b) ≡ false → b ≡ false
right_none true b is = absurd cc
right_none false b is = is

-- the last of these was not sent, and all before it were
pub record IsCutAt (entries : List Entry) : Type 0 where
  pub sent : List Entry
  pub last : Entry
  pub cut : entries ≡ sent ++ last ∷ []
  pub each : AreSent sent
  pub unsent : last.sent ≡ false

-- what may follow an entry that was not sent, and does not close: closing ones alone
only_closing : (entry : Entry) (entries : List Entry) → is_closing entry ≡ false → entry.sent ≡ false → may_follow entry entries ≡ true →
    list_all is_closing entries ≡ true
only_closing entry entries open_ unsent follows =
    sym (ap (λ closes. if closes then length entries == 0 else (if entry.sent then true else list_all is_closing entries)) open_ ∙
    ap (λ sent. if sent then true else list_all is_closing entries) unsent) ∙ follows

module _ (plugins : ℕ) where
  follows_here : (entry : Entry) (rest : List Entry) → is_ordered plugins (entry ∷ rest) ≡ true → may_follow entry rest ≡ true
  follows_here entry rest ordered =
      first_of (may_follow entry rest) (is_ordered plugins rest)
      (second_of (nat_le entry.caller plugins) (may_follow entry rest && is_ordered plugins rest) ordered)

  ordered_rest : (entry : Entry) (rest : List Entry) → is_ordered plugins (entry ∷ rest) ≡ true → is_ordered plugins rest ≡ true
  ordered_rest entry rest ordered =
      second_of (may_follow entry rest) (is_ordered plugins rest)
      (second_of (nat_le entry.caller plugins) (may_follow entry rest && is_ordered plugins rest) ordered)

  none_then : (entry : Entry) (entries : List Entry) → is_closing entry ≡ false → entry.sent ≡ false → has_closing entries ≡ false →
      may_follow entry (entries ++ closing_entry ∷ []) ≡ true → entries ≡ []
  none_then entry [] open_ unsent none follows = refl
  none_then entry (next ∷ entries) open_ unsent none follows =
      absurd (not_both (is_closing next) (first_of (is_closing next) (list_all is_closing (entries ++ closing_entry ∷ []))
      (only_closing entry (next ∷ (entries ++ closing_entry ∷ [])) open_ unsent follows)) (left_none (is_closing next) (has_closing entries) none))
    where
      not_both : (a : Bool) → a ≡ true → a ≡ false → ⊥
      not_both a is other = absurd cc

  -- before a closing entry each was sent, or the last was not and all before it were
  pub sent_or_cut : (entries : List Entry) → is_ordered plugins (entries ++ closing_entry ∷ []) ≡ true → has_closing entries ≡ false →
      AreSent entries ⊎ IsCutAt entries
  sent_or_cut [] ordered none = inl tt
  sent_or_cut (entry ∷ entries) ordered none =
      let open_ = left_none (is_closing entry) (has_closing entries) none in
      let follows = follows_here entry (entries ++ closing_entry ∷ []) ordered in
      let rest = sent_or_cut entries (ordered_rest entry (entries ++ closing_entry ∷ []) ordered)
      (right_none (is_closing entry) (has_closing entries) none) in
      by entry.sent refl open_ follows rest
    where
      by : (sent : Bool) → entry.sent ≡ sent → is_closing entry ≡ false → may_follow entry (entries ++ closing_entry ∷ []) ≡ true →
          AreSent entries ⊎ IsCutAt entries → AreSent (entry ∷ entries) ⊎ IsCutAt (entry ∷ entries)
      by true is open_ follows (inl each) = inl (is, each)
      by true is open_ follows (inr cut) = inr (record {
        sent = entry ∷ cut.sent;
        last = cut.last;
        cut = ap (λ rest. entry ∷ rest) cut.cut;
        each = (is, cut.each);
        unsent = cut.unsent;
      })
      by false is open_ follows rest = inr (record {
        sent = [];
        last = entry;
        cut = ap (λ rest. entry ∷ rest)
            (none_then entry entries open_ is (right_none (is_closing entry) (has_closing entries) none) follows);
        each = tt;
        unsent = is;
      })

  -- behind an entry that closes stands none
  last_then : (closing : Bool) (rest : Bool) (entries : List Entry) → closing ≡ true → (if closing then length entries == 0 else rest) ≡ true → entries ≡ []
  last_then true rest [] is follows = refl
  last_then true rest (next ∷ entries) is follows = absurd (grind (arith, nat_tests, follows))
  last_then false rest entries is follows = absurd cc

  pub nothing_after : (before : List Entry) (entry : Entry) (more : List Entry) → is_closing entry ≡ true →
      is_ordered plugins (before ++ (entry ∷ more)) ≡ true → more ≡ []
  nothing_after [] entry more closing ordered =
      last_then (is_closing entry) (if entry.sent then true else list_all is_closing more) more closing (follows_here entry more ordered)
  nothing_after (first ∷ before) entry more closing ordered = nothing_after before entry more closing (ordered_rest first (before ++ (entry ∷ more)) ordered)

pub sent_append : (entries more : List Entry) → AreSent entries → AreSent more → AreSent (entries ++ more)
sent_append [] more each later = later
sent_append (entry ∷ entries) more each later = (each.0, sent_append entries more each.1 later)

pub are_sent_all : (entries : List Entry) → AreSent entries → are_sent entries ≡ true
are_sent_all [] each = refl
are_sent_all (entry ∷ entries) each = ap (λ sent. sent && are_sent entries) each.0 ∙ are_sent_all entries each.1

pub are_sent_cut : (sent : List Entry) (last : Entry) (more : List Entry) → AreSent sent → last.sent ≡ false → are_sent (sent ++ (last ∷ more)) ≡ false
are_sent_cut [] last more each unsent = ap (λ is. is && are_sent more) unsent
are_sent_cut (entry ∷ sent) last more each unsent =
    ap (λ is. is && are_sent (sent ++ (last ∷ more))) each.0 ∙ are_sent_cut sent last more each.1 unsent

-- ---- what they wrote

whole_of : (sent : Bool) (piece part : List ℕ) → sent ≡ true → IsWrittenOf sent piece part → part ≡ piece
whole_of true piece part is wrote = wrote
whole_of false piece part is wrote = absurd cc

part_of : (sent : Bool) (piece part : List ℕ) → sent ≡ false → IsWrittenOf sent piece part → IsProperPart part piece
part_of true piece part is wrote = absurd cc
part_of false piece part is wrote = wrote

pub written_all : (session : Session) (entries : List Entry) (bytes : List ℕ) → AreSent entries → AreWritten session entries bytes →
    bytes ≡ written session entries
written_all session [] bytes each none = none
written_all session (entry ∷ entries) bytes each (part, rest, is, of, more) =
    is ∙ ap (λ p. p ++ rest) (whole_of entry.sent (piece_of session entry) part each.0 of) ∙
    ap (λ r. piece_of session entry ++ r) (written_all (step session entry) entries rest each.1 more)

-- of an entry that was not sent a part was written, and of the closing one nothing
pub written_cut : (session : Session) (sent : List Entry) (last : Entry) (bytes : List ℕ) → AreSent sent → last.sent ≡ false →
    AreWritten session (sent ++ (last ∷ (closing_entry ∷ []))) bytes →
    (part : List ℕ) × (bytes ≡ written session sent ++ part) × IsProperPart part (piece_of (session_after session sent) last)
written_cut session [] last bytes each unsent (part, rest, is, of, (none, nothing, both, empty, end)) = (
  part,
  is ∙ ap (λ r. part ++ r) (both ∙ ap (λ n. n ++ nothing) empty ∙ end) ∙ append-nil part,
  part_of last.sent (piece_of session last) part unsent of,
)
written_cut session (entry ∷ sent) last bytes each unsent (part, rest, is, of, more) =
    let later = written_cut (step session entry) sent last rest each.1 unsent more in (
      later.0,
      is ∙ ap (λ p. p ++ rest) (whole_of entry.sent (piece_of session entry) part each.0 of) ∙
          ap (λ r. piece_of session entry ++ r) later.1 ∙
          sym (append_assoc (piece_of session entry) (written (step session entry) sent) later.0),
      later.2,
    )

-- a closing entry, which writes nothing, was sent
pub closing_sent : (session : Session) (before : List Entry) (entry : Entry) (bytes : List ℕ) → entry ≡ record closing_entry { sent = false } →
    AreWritten session (before ++ entry ∷ []) bytes → ⊥
closing_sent session [] entry bytes is wrote = by (subst (λ e. AreWritten session (e ∷ []) bytes) is wrote)
  where
    by : AreWritten session (record closing_entry { sent = false } ∷ []) bytes → ⊥
    by (part, rest, both, (n, less, of), more) = omega (arith, less)
closing_sent session (first ∷ before) entry bytes is (part, rest, both, of, more) = closing_sent (step session first) before entry rest is more

pub failures_all : (entries : List Entry) (failures : ℕ) → AreSent entries → failures_with entries failures ≡ failures
failures_all [] failures each = refl
failures_all (entry ∷ entries) failures each =
    ap (λ sent. failures_with entries (if sent then failures else counted failures)) each.0 ∙ failures_all entries failures each.1

pub failures_cut : (sent : List Entry) (last : Entry) (failures : ℕ) → AreSent sent → last.sent ≡ false →
    failures_with (sent ++ (last ∷ (closing_entry ∷ []))) failures ≡ counted failures
failures_cut [] last failures each unsent = ap (λ is. if is then failures else counted failures) unsent
failures_cut (entry ∷ sent) last failures each unsent =
    ap (λ is. failures_with (sent ++ (last ∷ (closing_entry ∷ []))) (if is then failures else counted failures)) each.0 ∙
    failures_cut sent last failures each.1 unsent

-- ---- what they show

front_all : (entries : List Entry) → AreSent entries → sent_front entries ≡ entries
front_all [] each = refl
front_all (entry ∷ entries) each =
    ap (λ sent. if sent then entry ∷ sent_front entries else []) each.0 ∙ ap (λ rest. entry ∷ rest) (front_all entries each.1)

pub front_cut : (sent : List Entry) (last : Entry) (more : List Entry) → AreSent sent → last.sent ≡ false → sent_front (sent ++ (last ∷ more)) ≡ sent
front_cut [] last more each unsent = ap (λ is. if is then last ∷ sent_front more else []) unsent
front_cut (entry ∷ sent) last more each unsent =
    ap (λ is. if is then entry ∷ sent_front (sent ++ (last ∷ more)) else []) each.0 ∙ ap (λ rest. entry ∷ rest) (front_cut sent last more each.1 unsent)

pub shows_sent : (terms : Terms) (journal front : List Entry) (bytes : List ℕ) → sent_front journal ≡ front → bytes ≡ written (first_session terms) front →
    ∥ IsSessionJournal terms journal ∥₁ → ∥ Shows terms front bytes ∥₁
shows_sent terms journal front bytes same is lawful =
    let At : List Entry → Type 0 = λ entries. Shows terms entries (written (first_session terms) entries) in
    ∥∥₁_map lawful (λ l. subst (Shows terms front) (sym is) (subst At same l.shows))

module _ (terms : Terms) (old new : SessionState) (since : IsSince terms old new) (lawful : ∥ IsSessionJournal terms new.journal ∥₁) where
  pub all_sent : AreSent new.journal → IsSent terms old.sink new.sink new.journal
  all_sent each =
      let is = written_all (first_session terms) new.journal since.bytes each since.written_is in
      record {
        each = each;
        failures = since.failures ∙ failures_all new.journal old.sink.failures each;
        bytes = since.bytes;
        gains = since.gains;
        shows = shows_sent terms new.journal new.journal since.bytes (front_all new.journal each) is lawful;
      }

  unfoldable pub one_cut : (entries : List Entry) → new.journal ≡ entries ++ closing_entry ∷ [] → IsCutAt entries → IsCutOff terms old.sink new.sink new.journal
  one_cut entries closed at =
      let cut : new.journal ≡ at.sent ++ (at.last ∷ (closing_entry ∷ [])) =
      closed ∙ ap (λ e. e ++ closing_entry ∷ []) at.cut ∙ append_assoc at.sent (at.last ∷ []) (closing_entry ∷ []) in
      let wrote =
      written_cut (first_session terms) at.sent at.last since.bytes at.each at.unsent (subst (λ j. AreWritten (first_session terms) j since.bytes) cut since.written_is) in
      record {
        sent = at.sent;
        last = at.last;
        cut = cut;
        each = at.each;
        unsent = at.unsent;
        failures = since.failures ∙ ap (λ j. failures_with j old.sink.failures) cut ∙ failures_cut at.sent at.last old.sink.failures at.each at.unsent;
        rose = since.unsent (ap are_sent cut ∙ are_sent_cut at.sent at.last (closing_entry ∷ []) at.each at.unsent);
        bytes = written (first_session terms) at.sent;
        part = wrote.0;
        gains = subst (Gains old.sink.held new.sink.held) wrote.1 since.gains;
        shows = shows_sent terms new.journal at.sent (written (first_session terms) at.sent)
            (ap sent_front cut ∙ front_cut at.sent at.last (closing_entry ∷ []) at.each at.unsent) refl lawful;
        proper = wrote.2;
      }

-- ---- whether each was sent, entry by entry

pub sent_step : (entries : List Entry) (at : ℕ) (d : Entry) → at < length entries → (get_or entries at d).sent ≡ true →
    are_sent (drop (at + 1) entries) ≡ are_sent (drop at entries)
sent_step entries at d inside is =
    sym (ap are_sent (drop_more entries at d inside) ∙ ap (λ sent. sent && are_sent (drop (at + 1) entries)) is)

pub sent_stop : (entries : List Entry) (at : ℕ) (d : Entry) → at < length entries → (get_or entries at d).sent ≡ false → are_sent (drop at entries) ≡ false
sent_stop entries at d inside is =
    ap are_sent (drop_more entries at d inside) ∙ ap (λ sent. sent && are_sent (drop (at + 1) entries)) is
