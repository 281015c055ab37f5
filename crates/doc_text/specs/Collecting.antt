-- Sessions of plugins, what they acknowledge, and which old undo groups are collected after an event.
use Rattle.std.specs.Prelude.{◌≡◌, ℕ, ◌≤◌, List, [], Option, Some, None, ⊤}
use Rattle.std.specs.List.{fold, AllByRecursion}
use Rattle.plain_edits.specs.Collection.{Collection, clean_floor, collected_at, collection_of, resting_groups}
use Rattle.plain_edits.specs.History.{History, head}
use Rattle.undo_groups.specs.Groups.{forgotten}
pub use Rattle.edit_groups.specs.Sessions.{acknowledged_by, least_acknowledged, session_of, with_session}
use Rattle.doc_text.specs.Writing.{Writing}

-- ---- sessions

-- the text after the session of a caller acknowledged a revision, and after it ended
abbrev pub acknowledged_text : Writing → ℕ → ℕ → Writing
acknowledged_text text caller rev =
    record text { sessions = with_session text.sessions caller (acknowledged_by rev (session_of text.sessions caller)) }

abbrev pub ended_text : Writing → ℕ → Writing
ended_text text caller = record text { sessions = with_session text.sessions caller None }

-- a session has ended, or has acknowledged a revision from the floor to the head
abbrev pub IsAcknowledged : History → Option ℕ → Type 0
IsAcknowledged history None = ⊤
IsAcknowledged history (Some rev) = (history.floor ≤ rev) × (rev ≤ head history)

-- each of the sessions has ended, or has acknowledged such a revision
abbrev pub AreAcknowledged : History → List (Option ℕ) → Type 0
AreAcknowledged history sessions = AllByRecursion (IsAcknowledged history) sessions

-- ---- the collection after an event

-- what is collected, if anything: of the groups that no undo reaches any more
abbrev pub collection_after : Writing → Option Collection
collection_after text =
    collection_of text.history text.groups.retired (least_acknowledged (head text.history) text.sessions)

-- the text after a collection, if there is one: the history forgets the groups, and so does the stack
abbrev pub with_collection : Writing → Option Collection → Writing
with_collection text None = text
with_collection text (Some collection) = record text {
  history = collected_at text.history collection.floor collection.groups;
  groups = fold forgotten text.groups collection.groups;
}

-- THE TEXT in which what may be collected is collected
abbrev pub collected_text : Writing → Writing
collected_text text = with_collection text (collection_after text)

-- no session is open
abbrev pub AreEnded : List (Option ℕ) → Type 0
AreEnded sessions = AllByRecursion (λ session. session ≡ None) sessions

-- NOTHING WAITS that may be collected: no group that no undo reaches any more is at rest at the greatest clean floor up to the least
-- revision that an open session has acknowledged, or up to the head where none is open
abbrev pub HasNoneLeft : Writing → Type 0
HasNoneLeft text =
    resting_groups text.history text.groups.retired
    (clean_floor text.history.revisions (least_acknowledged (head text.history) text.sessions)) ≡ []
