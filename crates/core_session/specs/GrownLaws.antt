-- Laws of growing: nothing is grown by nothing, what grows twice has grown, and what one call adds.
use Rattle.std.proofs.Common.{◌≡◌, ℕ, ◌+◌, ◌-◌, ◌<◌, ◌≤◌, Bool, true, false, List, [], ◌∷◌, ◌++◌, Option, Some, None, refl, ap, sym, ◌∙◌, subst, inl, inr, append-nil, append_assoc}
use Rattle.std.proofs.Math.Nat.{add_assoc, add-le-add, add-zero, le_refl, le_trans, lt_irrefl, lt_of_le_of_lt, lt_of_lt_of_le, zero-add}
use Rattle.std.proofs.Math.Numerals.{suc-eq-add-one}
use Rattle.std.specs.Prelude.{IfSome, ◌^◌, ◌&&◌, option_map}
use Rattle.std.proofs.lemmas.List.Folds.{list_all-append}
use Rattle.xi_plain.specs.declared.entry.Entry.{Entry}
use Rattle.xi_plain.specs.declared.entry.ShelfNote.{ShelfNote}
use Rattle.xi_plain.specs.declared.entry.ShelfNote.TheVariants.{Absent, Done, Failed, Held, NoCall}
use Rattle.xi_plain.specs.Room.{Begins}
use Rattle.outside.specs.Faults.{Rose}
use Rattle.outside.specs.Sink.{Gains, SinkState}
use Rattle.outside.proofs.ForCallers.{Gains-append, Gains-none, Rose-earlier}
use Rattle.session_step.specs.Session.{Session, first_session, piece_of, session_after, session_of, step}
use Rattle.core_session.specs.Shelves.{Files, IsNoted, KeepsFiles, NotesTellFrom, failed_count, failed_notes, files_after_all, files_with, NoteTells}
use Rattle.core_session.specs.Grown.{AreWritten, IsGrown, IsWrittenOf, SessionState, are_sent, failures_if, failures_with, files_left, session_in}

-- ---- entries after entries

after-append : (session : Session) (front back : List Entry) →
    session_after session (front ++ back) ≡ session_after (session_after session front) back
after-append session [] back = refl
after-append session (entry ∷ front) back = after-append (step session entry) front back

pub AreWritten-append : (session : Session) (front back : List Entry) (first then : List ℕ) → AreWritten session front first →
    AreWritten (session_after session front) back then → AreWritten session (front ++ back) (first ++ then)
AreWritten-append session [] back first then none more =
    subst (λ bytes. AreWritten session back (bytes ++ then)) (sym none) more
AreWritten-append session (entry ∷ front) back first then wrote more =
    let rest = wrote.1 in (
      wrote.0,
      rest ++ then,
      ap (λ bytes. bytes ++ then) wrote.2 ∙ append_assoc wrote.0 rest then,
      wrote.3,
      AreWritten-append (step session entry) front back rest then wrote.4 more,
    )

pub files_after_all-append : (session : Session) (files : Files) (front back : List Entry) →
    files_after_all session files (front ++ back) ≡ files_after_all (session_after session front) (files_after_all session files front) back
files_after_all-append session files [] back = refl
files_after_all-append session files (entry ∷ front) back =
    files_after_all-append (step session entry) (files_with files session.views entry.command.act entry.shelf) front back

pub NotesTellFrom-append : (session : Session) (files : Files) (front back : List Entry) → NotesTellFrom session files front →
    NotesTellFrom (session_after session front) (files_after_all session files front) back → NotesTellFrom session files (front ++ back)
NotesTellFrom-append session files [] back tells more = more
NotesTellFrom-append session files (entry ∷ front) back tells more =
    (tells.0, NotesTellFrom-append (step session entry) (files_with files session.views entry.command.act entry.shelf) front back tells.1 more)

pub failed_notes-append : (front back : List Entry) → failed_notes (front ++ back) ≡ failed_notes front + failed_notes back
failed_notes-append [] back = sym (zero-add (failed_notes back))
failed_notes-append (entry ∷ front) back =
    ap (λ notes. failed_count entry.shelf + notes) (failed_notes-append front back) ∙
    sym (add_assoc (failed_count entry.shelf) (failed_notes front) (failed_notes back))

pub failures_with-append : (front back : List Entry) (failures : ℕ) → failures_with (front ++ back) failures ≡ failures_with back (failures_with front failures)
failures_with-append [] back failures = refl
failures_with-append (entry ∷ front) back failures = failures_with-append front back (failures_if entry.sent failures)

-- ---- nothing happened

left_none : (session : Session) (told : Option Files) → told ≡ files_left session [] told
left_none session None = refl
left_none session (Some files) = refl

noted_none : (session : Session) (told : Option Files) → IfSome told (λ files. NotesTellFrom session files [])
noted_none session None = tt
noted_none session (Some files) = tt

never_unsent : {A : Type 0} → true ≡ false → A
never_unsent is = absurd cc

none_more : (before after : ℕ) → before ≤ after → before + 0 ≤ after
none_more before after stays = subst (λ count. count ≤ after) (sym (add-zero before)) stays

-- it tells of itself what it told, but that faults of the shelf were counted
pub IsGrown-stays : (old new : SessionState) → new.terms ≡ old.terms → new.journal ≡ old.journal → new.sink ≡ old.sink → KeepsFiles old.shelf new.shelf →
    IsGrown old new
IsGrown-stays old new terms journal sink shelf =
    let Gained : SinkState → Type 0 = λ s. Gains old.sink.held s.held [] in
    let Stays : SinkState → Type 0 = λ s. old.sink.faults ≤ s.faults in
    record {
      terms = terms;
      more = [];
      journal = journal ∙ sym (append-nil old.journal);
      bytes = [];
      gains = subst Gained (sym sink) (Gains-none old.sink.held);
      written = refl;
      failures = ap (λ (s : SinkState). s.failures) sink;
      files = shelf.files ∙ left_none (session_in old) old.shelf.files;
      noted = noted_none (session_in old) old.shelf.files;
      sink_stays = subst Stays (sym sink) (le_refl old.sink.faults);
      shelf_stays = shelf.stays;
      unsent = λ is. never_unsent is;
      failed = λ low. none_more old.shelf.faults new.shelf.faults shelf.stays;
    }

pub IsGrown-same : (told : SessionState) → IsGrown told told
IsGrown-same told = IsGrown-stays told told refl refl refl (record { files = refl; stays = le_refl told.shelf.faults })

-- ---- after each other

rose_either : (a b : Bool) (first middle last : ℕ) → first ≤ middle → middle ≤ last → (a ≡ false → Rose first middle) →
    (b ≡ false → Rose middle last) → a && b ≡ false → Rose first last
rose_either true b first middle last up on here there is = Rose-earlier first middle last up (there is)
rose_either false b first middle last up on here there is = later (here refl)
  where
    later : Rose first middle → Rose first last
    later (inl above) = inl (lt_of_lt_of_le above on)
    later (inr end) = inr (le_trans end on)

module _ (session : Session) (front back : List Entry) where
  files_more : (first middle last : Option Files) → middle ≡ files_left session front first →
      last ≡ files_left (session_after session front) back middle → last ≡ files_left session (front ++ back) first
  files_more None middle last first then = then ∙ ap (files_left (session_after session front) back) first
  files_more (Some files) middle last first then =
      then ∙ ap (files_left (session_after session front) back) first ∙ ap Some (sym (files_after_all-append session files front back))

  noted_more : (first middle : Option Files) → middle ≡ files_left session front first →
      IfSome first (λ files. NotesTellFrom session files front) →
      IfSome middle (λ files. NotesTellFrom (session_after session front) files back) →
      IfSome first (λ files. NotesTellFrom session files (front ++ back))
  noted_more None middle is each more = tt
  noted_more (Some files) middle is each more =
      NotesTellFrom-append session files front back each
      (subst (λ told. IfSome told (λ files. NotesTellFrom (session_after session front) files back)) is more)

counts_more : (first middle last some others : ℕ) → middle ≤ last → (middle < 2 ^ 64 - 1 → first + some ≤ middle) →
    (last < 2 ^ 64 - 1 → middle + others ≤ last) → last < 2 ^ 64 - 1 → first + (some + others) ≤ last
counts_more first middle last some others on here there low =
    subst (λ count. count ≤ last) (add_assoc first some others) (le_trans (add-le-add (here (lt_of_le_of_lt on low)) (le_refl others)) (there low))

pub IsGrown-onward : (a b c : SessionState) → IsGrown a b → IsGrown b c → IsGrown a c
IsGrown-onward a b c first then =
    let session = session_in a in
    let on : session_in b ≡ session_after session first.more =
    ap (λ terms. session_of terms b.journal) first.terms ∙ ap (session_of a.terms) first.journal ∙
    after-append (first_session a.terms) a.journal first.more in
    let Wrote : Session → Type 0 = λ s. AreWritten s then.more then.bytes in
    let Left : Session → Type 0 = λ s. c.shelf.files ≡ files_left s then.more b.shelf.files in
    let Notes : Session → Type 0 = λ s. IfSome b.shelf.files (λ files. NotesTellFrom s files then.more) in
    record {
      terms = then.terms ∙ first.terms;
      more = first.more ++ then.more;
      journal = then.journal ∙ ap (λ log. log ++ then.more) first.journal ∙ append_assoc a.journal first.more then.more;
      bytes = first.bytes ++ then.bytes;
      gains = Gains-append a.sink.held b.sink.held c.sink.held first.bytes then.bytes first.gains then.gains;
      written = AreWritten-append session first.more then.more first.bytes then.bytes first.written (subst Wrote on then.written);
      failures = then.failures ∙ ap (failures_with then.more) first.failures ∙ sym (failures_with-append first.more then.more a.sink.failures);
      files = files_more session first.more then.more a.shelf.files b.shelf.files c.shelf.files first.files (subst Left on then.files);
      noted = noted_more session first.more then.more a.shelf.files b.shelf.files first.files first.noted (subst Notes on then.noted);
      sink_stays = le_trans first.sink_stays then.sink_stays;
      shelf_stays = le_trans first.shelf_stays then.shelf_stays;
      unsent =
          λ is.
          rose_either (are_sent first.more) (are_sent then.more) a.sink.faults b.sink.faults c.sink.faults first.sink_stays then.sink_stays
          first.unsent then.unsent (sym (list_all-append (λ (entry : Entry). entry.sent) first.more then.more) ∙ is);
      failed =
          λ low.
          let At : ℕ → Type 0 = λ notes. a.shelf.faults + notes ≤ c.shelf.faults in
          subst At (sym (failed_notes-append first.more then.more))
          (counts_more a.shelf.faults b.shelf.faults c.shelf.faults (failed_notes first.more) (failed_notes then.more) then.shelf_stays
          first.failed then.failed low);
    }

-- the journal of the former is the beginning of the latter's
pub IsGrown-prefix : (old new : SessionState) → IsGrown old new → Begins old.journal new.journal
IsGrown-prefix old new grown = (grown.more, grown.journal)

-- ---- one more entry

one_file : (session : Session) (entry : Entry) (before : Option Files) (after : Option Files) →
    after ≡ option_map (λ files. files_with files session.views entry.command.act entry.shelf) before → after ≡ files_left session (entry ∷ []) before
one_file session entry None after is = is
one_file session entry (Some files) after is = is

one_note : (session : Session) (entry : Entry) (before : Option Files) → IfSome before (λ files. NoteTells files entry.command.act entry.shelf) →
    IfSome before (λ files. NotesTellFrom session files (entry ∷ []))
one_note session entry None tells = tt
one_note session entry (Some files) tells = (tells, tt)

only_false : (a : Bool) → a && true ≡ false → a ≡ false
only_false true is = absurd cc
only_false false is = refl

one_fault : (note : ShelfNote) (before after : ℕ) → before ≤ after → (note ≡ Failed → Rose before after) → after < 2 ^ 64 - 1 →
    before + (failed_count note + 0) ≤ after
one_fault Failed before after stays rose low = by (rose refl)
  where
    by : Rose before after → before + (1 + 0) ≤ after
    by (inl above) = subst (λ count. count ≤ after) (suc-eq-add-one before) above
    by (inr end) = absurd (lt_irrefl after (lt_of_lt_of_le low end))
one_fault NoCall before after stays rose low = none_more before after stays
one_fault (Held bytes) before after stays rose low = none_more before after stays
one_fault Absent before after stays rose low = none_more before after stays
one_fault Done before after stays rose low = none_more before after stays

-- it made this entry, of which these bytes were written, and the shelf was asked as its note says
pub IsGrown-push : (old new : SessionState) (entry : Entry) (bytes : List ℕ) → new.terms ≡ old.terms → new.journal ≡ old.journal ++ entry ∷ [] →
    Gains old.sink.held new.sink.held bytes → IsWrittenOf entry.sent (piece_of (session_in old) entry) bytes →
    new.sink.failures ≡ failures_if entry.sent old.sink.failures → old.sink.faults ≤ new.sink.faults →
    (entry.sent ≡ false → Rose old.sink.faults new.sink.faults) → IsNoted old.shelf new.shelf (session_in old).views entry.command.act entry.shelf → IsGrown old new
IsGrown-push old new entry bytes terms journal gains written failures stays rose noted = record {
  terms = terms;
  more = entry ∷ [];
  journal = journal;
  bytes = bytes;
  gains = gains;
  written = (bytes, [], sym (append-nil bytes), written, refl);
  failures = failures;
  files = one_file (session_in old) entry old.shelf.files new.shelf.files noted.files;
  noted = one_note (session_in old) entry old.shelf.files noted.tells;
  sink_stays = stays;
  shelf_stays = noted.stays;
  unsent = λ is. rose (only_false entry.sent is);
  failed = λ low. one_fault entry.shelf old.shelf.faults new.shelf.faults noted.stays noted.failed low;
}
