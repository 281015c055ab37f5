-- What one call adds to what a session tells.
use Rattle.std.proofs.Common.{◌≡◌, ℕ, ◌<◌, ◌≤◌, arith, Bool, true, false, List, [], ◌∷◌, ◌++◌, length, take, Option, Some, None, refl, ap, sym, ◌∙◌, subst}
use Rattle.std.specs.Prelude.{◌==◌, IfSome, option_map}
use Rattle.std.proofs.lemmas.Bool.{eqb-false, eqb-true}
use Rattle.std.proofs.lemmas.List.{take_all}
use Rattle.xi_plain.specs.declared.command.Act.{Act}
use Rattle.xi_plain.specs.declared.command.Act.TheVariants as act
use Rattle.xi_plain.specs.declared.entry.Entry.{Entry}
use Rattle.xi_plain.specs.declared.entry.ShelfNote.TheVariants.{NoCall}
use Rattle.xi_plain.specs.Journal.{may_have_note}
use Rattle.outside.specs.Faults.{Rose, counted}
use Rattle.outside.specs.Sink.{Gains, SinkState}
use Rattle.session_step.specs.declared.terms.Terms.{Terms}
use Rattle.session_step.specs.Accepted.{is_of_plugin}
use Rattle.session_step.specs.Session.{OpenView, Session, piece_of, session_of, step, written}
use Rattle.core_session.specs.Grown.{AreWritten, IsGrown, IsWrittenOf, SessionState, are_sent, failures_if, failures_with, session_in}
use Rattle.core_session.specs.GrownLaws.{IsGrown-push}
use Rattle.core_session.specs.InnerObject.{PutsIn}
use Rattle.core_session.proofs.KeptLemmas.{first_of, second_of}
use Rattle.core_session.specs.Shelves.{Files, IsNoted, NoteTells, ShelfState, asks_as, files_with}

-- the shelf was asked what the entry's note says, and then the entry was put in
pub IsGrown-put : (old middle new : SessionState) (entry : Entry) → middle.terms ≡ old.terms → middle.journal ≡ old.journal → middle.sink ≡ old.sink →
    IsNoted old.shelf middle.shelf (session_in old).views entry.command.act entry.shelf → PutsIn middle new entry → IsGrown old new
IsGrown-put old middle new entry terms journal sink noted puts =
    let same : session_in middle ≡ session_in old =
    ap (λ (t : Terms). session_of t middle.journal) terms ∙ ap (session_of old.terms) journal in
    let Gained : SinkState → Type 0 = λ s. Gains s.held new.sink.held puts.bytes in
    let Wrote : Session → Type 0 = λ s. IsWrittenOf entry.sent (piece_of s entry) puts.bytes in
    let Failures : SinkState → Type 0 = λ s. new.sink.failures ≡ failures_if entry.sent s.failures in
    let Stays : SinkState → Type 0 = λ s. s.faults ≤ new.sink.faults in
    let Up : SinkState → Type 0 = λ s. Rose s.faults new.sink.faults in
    let Noted : ShelfState → Type 0 = λ s. IsNoted old.shelf s (session_in old).views entry.command.act entry.shelf in
    IsGrown-push old new entry puts.bytes (puts.terms ∙ terms) (puts.journal ∙ ap (λ log. log ++ entry ∷ []) journal)
    (subst Gained sink puts.gains) (subst Wrote same puts.written) (subst Failures sink puts.failures) (subst Stays sink puts.stays) (λ is. subst Up sink (puts.rose is))
    (subst Noted (sym puts.shelf) noted)

-- ---- an entry for which the shelf is not asked

kept_files : (files : Files) (views : List OpenView) (what : Act) → files_with files views what NoCall ≡ files
kept_files files views (act.Bad fault) = refl
kept_files files views act.Nothing = refl
kept_files files views (act.Configure changes) = refl
kept_files files views (act.NewView path) = refl
kept_files files views (act.CloseView view) = refl
kept_files files views (act.Save view path) = refl
kept_files files views (act.Edit view edit) = refl
kept_files files views (act.PluginEdit view rev delta priority after_cursor author named) = refl
kept_files files views (act.GetData view rev start max) = refl
kept_files files views (act.UpdateSpans view rev start len spans) = refl
kept_files files views (act.LineCount view) = refl
kept_files files views (act.Alert msg) = refl
kept_files files views (act.Ack view rev) = refl
kept_files files views act.Ended = refl
kept_files files views act.Closing = refl

tells_none : (files : Files) (what : Act) → NoteTells files what NoCall
tells_none files (act.Bad fault) = tt
tells_none files act.Nothing = tt
tells_none files (act.Configure changes) = tt
tells_none files (act.NewView None) = tt
tells_none files (act.NewView (Some path)) = tt
tells_none files (act.CloseView view) = tt
tells_none files (act.Save view path) = tt
tells_none files (act.Edit view edit) = tt
tells_none files (act.PluginEdit view rev delta priority after_cursor author named) = tt
tells_none files (act.GetData view rev start max) = tt
tells_none files (act.UpdateSpans view rev start len spans) = tt
tells_none files (act.LineCount view) = tt
tells_none files (act.Alert msg) = tt
tells_none files (act.Ack view rev) = tt
tells_none files act.Ended = tt
tells_none files act.Closing = tt

had_kept : (views : List OpenView) (what : Act) (had : Option Files) → had ≡ option_map (λ files. files_with files views what NoCall) had
had_kept views what None = refl
had_kept views what (Some files) = ap Some (sym (kept_files files views what))

had_told : (what : Act) (had : Option Files) → IfSome had (λ files. NoteTells files what NoCall)
had_told what None = tt
had_told what (Some files) = tells_none files what

pub noted_no_call : (shelf : ShelfState) (views : List OpenView) (what : Act) → may_have_note what NoCall ≡ true → asks_as views what NoCall ≡ true →
    IsNoted shelf shelf views what NoCall
noted_no_call shelf views what kind asked = record {
  kind = kind;
  asked = asked;
  files = had_kept views what shelf.files;
  tells = had_told what shelf.files;
  stays = omega arith;
  failed = λ is. absurd cc;
}

-- ---- what was written of a piece

pub written_of : (n : ℕ) (bytes piece : List ℕ) (sent : Bool) → bytes ≡ piece → n ≤ length bytes → (n == length bytes) ≡ sent →
    IsWrittenOf sent piece (take n bytes)
written_of n bytes piece true is within all =
    let same : n ≡ length bytes = eqb-true _ _ all in
    take_all n bytes (omega (arith, same)) ∙ is
written_of n bytes piece false is within some =
    let Short : List ℕ → Type 0 = λ xs. n < length xs in
    let differs = eqb-false _ _ some in
    (n, subst Short is (omega (arith, differs, within)), ap (take n) is)

-- how often a sink failed then
pub failures_of : (n len : ℕ) (sent : Bool) (old new : ℕ) → n ≤ len → (n == len) ≡ sent → (n ≡ len → new ≡ old) → (n < len → new ≡ counted old) →
    new ≡ failures_if sent old
failures_of n len true old new within all whole part = whole (eqb-true _ _ all)
failures_of n len false old new within some whole part =
    let differs = eqb-false _ _ some in
    part (omega (arith, differs, within))

-- ---- a command of a plugin asks nothing of the shelf

quiet_kind : (what : Act) → is_of_plugin what ≡ true → may_have_note what NoCall ≡ true
quiet_kind (act.PluginEdit view rev delta priority after_cursor author named) is = refl
quiet_kind (act.GetData view rev start max) is = refl
quiet_kind (act.UpdateSpans view rev start len spans) is = refl
quiet_kind (act.LineCount view) is = refl
quiet_kind (act.Alert msg) is = refl
quiet_kind (act.Ack view rev) is = refl
quiet_kind act.Ended is = refl
quiet_kind (act.Bad fault) is = absurd cc
quiet_kind act.Nothing is = absurd cc
quiet_kind (act.Configure changes) is = absurd cc
quiet_kind (act.NewView path) is = absurd cc
quiet_kind (act.CloseView view) is = absurd cc
quiet_kind (act.Save view path) is = absurd cc
quiet_kind (act.Edit view edit) is = absurd cc
quiet_kind act.Closing is = absurd cc

quiet_asks : (views : List OpenView) (what : Act) → is_of_plugin what ≡ true → asks_as views what NoCall ≡ true
quiet_asks views (act.PluginEdit view rev delta priority after_cursor author named) is = refl
quiet_asks views (act.GetData view rev start max) is = refl
quiet_asks views (act.UpdateSpans view rev start len spans) is = refl
quiet_asks views (act.LineCount view) is = refl
quiet_asks views (act.Alert msg) is = refl
quiet_asks views (act.Ack view rev) is = refl
quiet_asks views act.Ended is = refl
quiet_asks views (act.Bad fault) is = absurd cc
quiet_asks views act.Nothing is = absurd cc
quiet_asks views (act.Configure changes) is = absurd cc
quiet_asks views (act.NewView path) is = absurd cc
quiet_asks views (act.CloseView view) is = absurd cc
quiet_asks views (act.Save view path) is = absurd cc
quiet_asks views (act.Edit view edit) is = absurd cc
quiet_asks views act.Closing is = absurd cc

pub noted_by_plugin : (shelf : ShelfState) (views : List OpenView) (what : Act) → is_of_plugin what ≡ true → IsNoted shelf shelf views what NoCall
noted_by_plugin shelf views what is = noted_no_call shelf views what (quiet_kind what is) (quiet_asks views what is)

-- ---- where each new entry was sent

-- what was written of them is their pieces, one after the other
pub AreWritten-sent : (session : Session) (entries : List Entry) (bytes : List ℕ) → are_sent entries ≡ true → AreWritten session entries bytes →
    bytes ≡ written session entries
AreWritten-sent session [] bytes sent wrote = wrote
AreWritten-sent session (entry ∷ entries) bytes sent wrote =
    let Of : Bool → Type 0 = λ whole. IsWrittenOf whole (piece_of session entry) wrote.0 in
    let piece : wrote.0 ≡ piece_of session entry = subst Of (first_of entry.sent (are_sent entries) sent) wrote.3 in
    wrote.2 ∙ ap (λ part. part ++ wrote.1) piece ∙
    ap (λ rest. piece_of session entry ++ rest)
    (AreWritten-sent (step session entry) entries wrote.1 (second_of entry.sent (are_sent entries) sent) wrote.4)

-- and no call of the sink failed
pub failures_with-sent : (entries : List Entry) (failures : ℕ) → are_sent entries ≡ true → failures_with entries failures ≡ failures
failures_with-sent [] failures sent = refl
failures_with-sent (entry ∷ entries) failures sent =
    ap (λ whole. failures_with entries (failures_if whole failures)) (first_of entry.sent (are_sent entries) sent) ∙
    failures_with-sent entries failures (second_of entry.sent (are_sent entries) sent)
