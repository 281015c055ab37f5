-- What private functions say: what one entry comes to, and all of them.
use Rattle.std.specs.Prelude.{◌≡◌, ◌&&◌, ℕ, Bool, true, false, List, [], ◌∷◌, ◌++◌, map, take, Option, Some, None, ⊤}
use Rattle.xi_plain.specs.declared.entry.Entry.{Entry}
use Rattle.xi_plain.specs.declared.entry.ShelfNote.{ShelfNote}
use Rattle.xi_plain.specs.declared.reply.Reply.{Reply}
use Rattle.xi_plain.specs.declared.reply.Reply.TheVariants as reply
use Rattle.xi_plain.specs.Journal.{may_have_note}
use Rattle.session_step.specs.declared.terms.Terms.{Terms}
use Rattle.session_step.specs.Session.{session_of, views_of}
use Rattle.core_session.specs.Kept.{with_sent}
use Rattle.core_session.specs.Serves.{is_taken}
use Rattle.core_session.specs.Shelves.{asks_as}
use Rattle.journal_replay.specs.declared.entering.Entered.{Entered}
use Rattle.journal_replay.specs.declared.entering.Entered.TheVariants as entered
use Rattle.journal_replay.specs.declared.replaying.ReplayFault.{ReplayFault}
use Rattle.journal_replay.specs.declared.replaying.ReplayFault.TheVariants as fault
use Rattle.journal_replay.specs.Follow.{AllFollow, FirstDiffers, FollowsAt, Point}
use Rattle.journal_replay.specs.Replay.{asked_only}

-- the point of a session with these entries, none of which closed it, where these lines are left
abbrev pub point_at : Terms → List Entry → List (List ℕ) → Point
point_at terms journal lines = record { session = session_of terms journal; lines = lines; closed = false }

-- the note is of a kind that the entry's command can have, and a saving has one exactly where its view is open
abbrev pub has_fitting_note : Terms → List Entry → Entry → Bool
has_fitting_note terms journal entry =
    may_have_note entry.command.act entry.shelf && asks_as (views_of terms journal) entry.command.act entry.shelf

-- the last of these entries has this note
abbrev pub EndsWith : ShelfNote → List Entry → Type 0
EndsWith note journal = (front : List Entry) (last : Entry) → journal ≡ front ++ last ∷ [] → last.shelf ≡ note

-- what a reply says of an entry with this note, where the session has this journal after it
abbrev pub IsSettled : Entered → Reply → ShelfNote → List Entry → Type 0
IsSettled entered.Taken answer note journal = (is_taken answer ≡ true) × EndsWith note journal
IsSettled entered.SinkFault answer note journal = (answer ≡ reply.SinkFault) × EndsWith note journal
IsSettled entered.Differs answer note journal = (text : List ℕ) × (answer ≡ reply.Refused text)
IsSettled entered.NoMemory answer note journal = ⊤

-- at most one entry, which asks what this one asks
abbrev pub AsksNoMore : List Entry → Entry → Type 0
AsksNoMore [] entry = ⊤
AsksNoMore (made ∷ []) entry = asked_only made ≡ asked_only entry
AsksNoMore (made ∷ next ∷ more) entry = ⊥

-- WHAT ENTERING an entry at a point COMES TO, where the journal was the first and is the second
abbrev pub IsReplayed : Entered → ℕ → Point → Entry → List Entry → List Entry → Type 0
IsReplayed entered.Taken plugins point entry before after =
    FollowsAt plugins point entry × (after ≡ before ++ with_sent entry true ∷ [])
IsReplayed entered.Differs plugins point entry before after = (FollowsAt plugins point entry → ⊥) × (after ≡ before)
IsReplayed entered.SinkFault plugins point entry before after =
    FollowsAt plugins point entry × (after ≡ before ++ with_sent entry false ∷ [])
IsReplayed entered.NoMemory plugins point entry before after =
    (log : List Entry) × (after ≡ before ++ log) × AsksNoMore log entry

-- these entries, each sent
abbrev pub all_sent : List Entry → List Entry
all_sent entries = map (λ entry. with_sent entry true) entries

-- WHAT PLAYING entries from a point COMES TO, where the session has this journal after it
abbrev pub IsPlayed : ℕ → Point → List Entry → Option ReplayFault → List Entry → Type 0
IsPlayed plugins point journal None log = AllFollow plugins point journal × (log ≡ all_sent journal)
IsPlayed plugins point journal (Some (fault.Differs index)) log =
    FirstDiffers plugins point journal index × (log ≡ all_sent (take index journal))
IsPlayed plugins point journal (Some fault.SinkFault) log =
    (front : List Entry) × (entry : Entry) × (back : List Entry) × (journal ≡ front ++ entry ∷ back) ×
    AllFollow plugins point (front ++ entry ∷ []) × (log ≡ all_sent front ++ with_sent entry false ∷ [])
IsPlayed plugins point journal (Some fault.NoMemory) log = (n : ℕ) × (map asked_only log ≡ map asked_only (take n journal))
