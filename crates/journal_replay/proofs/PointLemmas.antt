-- Lemmas on points of a replay, and on entries that were sent or not.
use Rattle.std.proofs.Common.{◌≡◌, ℕ, ◌+◌, ◌<◌, Bool, true, false, List, [], ◌∷◌, ◌++◌, length, take, drop, get_or, refl, ap, ap₂, sym, ◌∙◌}
use Rattle.std.specs.Prelude.{◌||◌}
use Rattle.std.proofs.lemmas.List.{drop_more, take-append-drop}
use Rattle.xi_plain.specs.declared.entry.Entry.{Entry}
use Rattle.xi_plain.specs.Journal.{is_closing}
use Rattle.entry_lines.specs.Piece.{lines_written}
use Rattle.session_step.specs.Session.{Session, is_front, messages_by, piece_of, session_after, step, step_by, written}
use Rattle.core_session.specs.Grown.{are_sent}
use Rattle.core_session.specs.Kept.{is_over, sent_front, with_sent}
use Rattle.journal_replay.specs.Follow.{AllFollow, FirstDiffers, FollowsAt, Point, point_after, point_with}
use Rattle.journal_replay.specs.Inner.{all_sent}

-- ---- whether an entry was sent changes neither its piece nor what comes after it

messages-sent : (front sent : Bool) (session : Session) (entry : Entry) →
    messages_by front session (with_sent entry sent) ≡ messages_by front session entry
messages-sent true sent session entry = refl
messages-sent false sent session entry = refl

pub piece_of-sent : (sent : Bool) (session : Session) (entry : Entry) → piece_of session (with_sent entry sent) ≡ piece_of session entry
piece_of-sent sent session entry = ap lines_written (messages-sent (is_front entry) sent session entry)

step_by-sent : (front sent : Bool) (session : Session) (entry : Entry) → step_by front session (with_sent entry sent) ≡ step_by front session entry
step_by-sent true sent session entry = refl
step_by-sent false sent session entry = refl

pub step-sent : (sent : Bool) (session : Session) (entry : Entry) → step session (with_sent entry sent) ≡ step session entry
step-sent sent session entry = step_by-sent (is_front entry) sent session entry

pub session_after-sent : (session : Session) (entries : List Entry) → session_after session (all_sent entries) ≡ session_after session entries
session_after-sent session [] = refl
session_after-sent session (entry ∷ entries) =
    ap (λ s. session_after s (all_sent entries)) (step-sent true session entry) ∙ session_after-sent (step session entry) entries

pub written-sent : (session : Session) (entries : List Entry) → written session (all_sent entries) ≡ written session entries
written-sent session [] = refl
written-sent session (entry ∷ entries) =
    ap₂ (λ piece rest. piece ++ rest) (piece_of-sent true session entry)
    (ap (λ s. written s (all_sent entries)) (step-sent true session entry) ∙ written-sent (step session entry) entries)

pub are_sent-all : (entries : List Entry) → are_sent (all_sent entries) ≡ true
are_sent-all [] = refl
are_sent-all (entry ∷ entries) = are_sent-all entries

pub sent_front-all : (entries : List Entry) → sent_front (all_sent entries) ≡ all_sent entries
sent_front-all [] = refl
sent_front-all (entry ∷ entries) = ap (λ rest. with_sent entry true ∷ rest) (sent_front-all entries)

pub all_sent-append : (front back : List Entry) → all_sent (front ++ back) ≡ all_sent front ++ all_sent back
all_sent-append [] back = refl
all_sent-append (entry ∷ front) back = ap (λ rest. with_sent entry true ∷ rest) (all_sent-append front back)

-- ---- points after entries

pub session-point_after : (point : Point) (entries : List Entry) → (point_after point entries).session ≡ session_after point.session entries
session-point_after point [] = refl
session-point_after point (entry ∷ entries) = session-point_after (point_with point entry) entries

pub point_after-push : (point : Point) (front : List Entry) (entry : Entry) →
    point_after point (front ++ entry ∷ []) ≡ point_with (point_after point front) entry
point_after-push point [] entry = refl
point_after-push point (first ∷ front) entry = point_after-push (point_with point first) front entry

-- what follows after what follows
pub AllFollow-push : (plugins : ℕ) (point : Point) (front : List Entry) (entry : Entry) → AllFollow plugins point front →
    FollowsAt plugins (point_after point front) entry → AllFollow plugins point (front ++ entry ∷ [])
AllFollow-push plugins point [] entry all next = (next, tt)
AllFollow-push plugins point (first ∷ front) entry all next = (all.0, AllFollow-push plugins (point_with point first) front entry all.1 next)

-- and what does not
pub FirstDiffers-push : (plugins : ℕ) (point : Point) (front : List Entry) (entry : Entry) (back : List Entry) → AllFollow plugins point front →
    (FollowsAt plugins (point_after point front) entry → ⊥) → FirstDiffers plugins point (front ++ entry ∷ back) (length front)
FirstDiffers-push plugins point [] entry back all differs = differs
FirstDiffers-push plugins point (first ∷ front) entry back all differs =
    (all.0, FirstDiffers-push plugins (point_with point first) front entry back all.1 differs)

-- the session is over where a closing entry came
only_first : (closes : Bool) → (closes || false) || false ≡ closes
only_first true = refl
only_first false = refl

pub is_over-all : (plugins : ℕ) (point : Point) (front : List Entry) → point.closed ≡ false → AllFollow plugins point front →
    is_over (all_sent front) ≡ (point_after point front).closed
is_over-all plugins point [] unclosed all = sym unclosed
is_over-all plugins point (entry ∷ []) unclosed all = only_first (is_closing entry)
is_over-all plugins point (entry ∷ (next ∷ front)) unclosed all =
    let none : is_closing entry ≡ false = all.1.0.unclosed in
    ap (λ closes. (closes || false) || is_over (all_sent (next ∷ front))) none ∙
    is_over-all plugins (point_with point entry) (next ∷ front) none all.1

-- ---- one entry of a list

pub split_at : (entries : List Entry) (at : ℕ) (entry : Entry) → at < length entries → entry ≡ get_or entries at entry →
    entries ≡ take at entries ++ entry ∷ drop (at + 1) entries
split_at entries at entry inside is =
    sym (take-append-drop at entries) ∙
    ap (λ back. take at entries ++ back) (drop_more entries at entry inside ∙ ap (λ e. e ∷ drop (at + 1) entries) (sym is))
