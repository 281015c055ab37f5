-- Lemmas on the plain session: one more entry.
use Rattle.session_step.specs.declared.terms.Terms.{Terms}
use Rattle.std.proofs.Common.{take_all, length-drop, length, ◌-◌, ◌≡◌, ℕ, zero, suc, ◌+◌, arith, zero-add, take, drop, Bool, true, false, List, [], ◌∷◌, ◌++◌, refl, ap, sym, ◌∙◌, append_assoc, append-nil}
use Rattle.std.specs.List.{AllByRecursion}
use Rattle.serde_json.specs.Data.{Data}
use Rattle.xi_plain.specs.declared.command.Command.{Command}
use Rattle.xi_plain.specs.declared.entry.Entry.{Entry}
use Rattle.xi_plain.specs.declared.entry.ShelfNote.{ShelfNote}
use Rattle.xi_plain.specs.Journal.{may_have_note}
use Rattle.session_step.specs.Session.{Session, first_session, is_front, messages_by, step, step_by, session_after, session_of, views_of, written, piece_of}
use Rattle.session_step.specs.Views.{IsOfLine}
use Rattle.core_session.specs.Kept.{IsOpen, front_entry}
pub use Rattle.core_session.specs.InnerSession.{updates_by}
use Rattle.entry_lines.specs.Piece.{lines_written}
use Rattle.entry_lines.proofs.ForCallers.{all_append, lines_written-append}
use Rattle.std.proofs.Math.Seq.{take-nil}
use Rattle.std.specs.Prelude.{nat_le}
use Rattle.std.proofs.lemmas.Bool.Decides.{nat_tests}
use Rattle.session_step.specs.Accepted.{Accepts, AreAccepted, AreAcceptedFrom}
use Rattle.front_wire.specs.Front.{command_of}
use Rattle.front_wire.proofs.ForCallers.{closes-command_of}

-- entries after entries
pub session_after-append : (session : Session) (front back : List Entry) →
    session_after session (front ++ back) ≡ session_after (session_after session front) back
session_after-append session [] back = refl
session_after-append session (entry ∷ front) back = session_after-append (step session entry) front back

-- the messages of entries, one after the other
pub all_messages : Session → List Entry → List Data
all_messages session [] = []
all_messages session (entry ∷ entries) = messages_by (is_front entry) session entry ++ all_messages (step session entry) entries

pub all_messages-append : (session : Session) (front back : List Entry) →
    all_messages session (front ++ back) ≡ all_messages session front ++ all_messages (session_after session front) back
unfolding all_messages
all_messages-append session [] back = refl
all_messages-append session (entry ∷ front) back =
    ap (λ rest. messages_by (is_front entry) session entry ++ rest) (all_messages-append (step session entry) front back) ∙
    sym (append_assoc (messages_by (is_front entry) session entry) (all_messages (step session entry) front)
    (all_messages (session_after (step session entry) front) back))

-- a session keeps what it was made with
pub terms-step : (session : Session) (entry : Entry) → session.terms ≡ (step session entry).terms
terms-step session entry = by (is_front entry)
  where
    by : (front : Bool) → session.terms ≡ (step_by front session entry).terms
    by true = refl
    by false = refl

terms-session_after : (session : Session) (entries : List Entry) → session.terms ≡ (session_after session entries).terms
terms-session_after session [] = refl
terms-session_after session (entry ∷ entries) = terms-step session entry ∙ terms-session_after (step session entry) entries

pub terms-session_of : (terms : Terms) (journal : List Entry) → terms ≡ (session_of terms journal).terms
terms-session_of terms journal = terms-session_after (first_session terms) journal

-- one more entry
pub session_of-push : (terms : Terms) (journal : List Entry) (entry : Entry) →
    session_of terms (journal ++ entry ∷ []) ≡ step (session_of terms journal) entry
session_of-push terms journal entry = session_after-append (first_session terms) journal (entry ∷ [])

pub views_of-push : (terms : Terms) (journal : List Entry) (entry : Entry) →
    views_of terms (journal ++ entry ∷ []) ≡ (step (session_of terms journal) entry).views
views_of-push terms journal entry = ap (λ (session : Session). session.views) (session_of-push terms journal entry)

-- the messages of a journal
pub messages_of : Terms → List Entry → List Data
messages_of terms journal = all_messages (first_session terms) journal

pub messages_of-push : (terms : Terms) (journal : List Entry) (entry : Entry) →
    messages_of terms (journal ++ entry ∷ []) ≡ messages_of terms journal ++ messages_by (is_front entry) (session_of terms journal) entry
unfolding all_messages messages_of
messages_of-push terms journal entry =
    all_messages-append (first_session terms) journal (entry ∷ []) ∙
    ap (λ rest. messages_of terms journal ++ rest) (append-nil (messages_by (is_front entry) (session_of terms journal) entry))

-- what entries write is the lines of their messages
written-all : (session : Session) (entries : List Entry) → written session entries ≡ lines_written (all_messages session entries)
unfolding all_messages
written-all session [] = refl
written-all session (entry ∷ entries) =
    ap (λ rest. piece_of session entry ++ rest) (written-all (step session entry) entries) ∙
    sym (lines_written-append (messages_by (is_front entry) session entry) (all_messages (step session entry) entries))

pub written-messages : (terms : Terms) (journal : List Entry) → written (first_session terms) journal ≡ lines_written (messages_of terms journal)
unfolding messages_of
written-messages terms journal = written-all (first_session terms) journal

-- one more entry writes its piece
pub written-push : (terms : Terms) (journal : List Entry) (entry : Entry) →
    written (first_session terms) (journal ++ entry ∷ []) ≡ written (first_session terms) journal ++ piece_of (session_of terms journal) entry
written-push terms journal entry =
    let said = messages_by (is_front entry) (session_of terms journal) entry in
    written-messages terms (journal ++ entry ∷ []) ∙ ap lines_written (messages_of-push terms journal entry) ∙
    lines_written-append (messages_of terms journal) said ∙ ap (λ front. front ++ lines_written said) (sym (written-messages terms journal))

-- no line closes the session
pub IsOfLine-command_of : (line : List ℕ) → IsOfLine (command_of line).act
IsOfLine-command_of line = closes-command_of line

-- the first bytes, in two parts
pub take-plus : (m n : ℕ) (xs : List ℕ) → take (m + n) xs ≡ take m xs ++ take n (drop m xs)
take-plus zero n xs = ap (λ k. take k xs) (zero-add n)
take-plus (suc m) n [] = take-nil (suc m + n) ∙ sym (take-nil n)
take-plus (suc m) n (x ∷ xs) =
    let less : suc m + n ≡ suc (m + n) = omega arith in
    ap (λ k. take k (x ∷ xs)) less ∙ ap (λ rest. x ∷ rest) (take-plus m n xs)

-- the front end is no plugin above so many
pub none_within : (plugins : ℕ) → nat_le 0 plugins ≡ true
none_within plugins = grind (arith, nat_tests)

-- the entry of a command of the front end is open, where it is sent
pub open_front : (plugins : ℕ) (command : Command) (note : ShelfNote) → IsOfLine command.act → may_have_note command.act note ≡ true →
    IsOpen plugins (front_entry command note true)
open_front plugins command note asks kind = record { caller = none_within plugins; asks = asks; note = kind; sent = refl }

-- one more entry that is open
pub IsOpen-push : (plugins : ℕ) (journal : List Entry) (entry : Entry) → AllByRecursion (IsOpen plugins) journal → IsOpen plugins entry →
    AllByRecursion (IsOpen plugins) (journal ++ entry ∷ [])
IsOpen-push plugins journal entry each opens = all_append (IsOpen plugins) journal (entry ∷ []) each (opens, tt)

-- each entry of these is accepted, and so is one more
AreAcceptedFrom-push : (session : Session) (entries : List Entry) (entry : Entry) → AreAcceptedFrom session entries →
    Accepts (session_after session entries) entry → AreAcceptedFrom session (entries ++ entry ∷ [])
AreAcceptedFrom-push session [] entry are last = (last, tt)
AreAcceptedFrom-push session (first ∷ entries) entry are last = (are.0, AreAcceptedFrom-push (step session first) entries entry are.1 last)

pub AreAccepted-push : (terms : Terms) (journal : List Entry) (entry : Entry) → AreAccepted terms journal →
    Accepts (session_of terms journal) entry → AreAccepted terms (journal ++ entry ∷ [])
AreAccepted-push terms journal entry are last = AreAcceptedFrom-push (first_session terms) journal entry are last

-- the rest of a slice is what stands after its front
pub take_rest : {A : Type 0} (m : ℕ) (xs : List A) → take (length xs - m) (drop m xs) ≡ drop m xs
take_rest m xs = take_all (length xs - m) (drop m xs) (omega (arith, length-drop m xs))

pub take-plus_rest : (m n : ℕ) (xs : List ℕ) → take m xs ++ take n (take (length xs - m) (drop m xs)) ≡ take (m + n) xs
take-plus_rest m n xs = ap (λ rest. take m xs ++ take n rest) (take_rest m xs) ∙ sym (take-plus m n xs)
