-- Worked rows: what a session writes, what a run comes to, and what is none.
use Rattle.xi_top.specs.Alone.{terms_for}
use Rattle.std.specs.Prelude.{◌≡◌, ℕ, ◌^◌, pos, List, [], ◌∷◌, ◌++◌, drop, map, codes, true, false, Some, None}
use Rattle.xi_plain.specs.declared.command.Id.{Id}
use Rattle.xi_plain.specs.declared.command.Id.TheVariants.{NoId, Num}
use Rattle.xi_plain.specs.declared.command.EditAct.TheVariants.{Insert}
use Rattle.xi_plain.specs.declared.command.Act.{Act}
use Rattle.xi_plain.specs.declared.command.Act.TheVariants.{Alert, Edit, Ended, NewView}
use Rattle.xi_plain.specs.declared.entry.Entry.{Entry}
use Rattle.xi_plain.specs.declared.entry.ShelfNote.TheVariants.{NoCall}
use Rattle.outside.specs.Sink.{SinkState}
use Rattle.xi_plain.specs.Journal.{closing_entry}
use Rattle.session_step.specs.declared.terms.Terms.{Terms}
use Rattle.session_step.specs.Session.{OpenView, first_session, session_of, views_of, written}
use Rattle.core_session.specs.Shows.{rebuilt}
use Rattle.core_session.specs.Core.{piece_after}
use Rattle.xi_top.specs.Written.{IsCutOff, IsProperPart}
use Rattle.xi_top.specs.Run.{Passage, RunsAlone}

-- an entry of the front end that was sent
abbrev pub entry_of : Id → Act → Entry
entry_of id act = record { caller = 0; command = record { id = id; act = act }; shelf = NoCall; sent = true }

-- the id of the first view
abbrev pub first_id : List ℕ
first_id = codes "view-id-1"

-- the opening of the first view, and the insertion of characters into it
abbrev pub opening : Entry
opening = entry_of (Num (pos 0)) (NewView None)

abbrev pub insertion : List ℕ → Entry
insertion chars = entry_of NoId (Edit first_id (Insert chars))

-- what the opening writes, and the insertions of `a`, `é` and LF after it
abbrev pub opening_bytes : List ℕ
opening_bytes =
    codes "{\"id\":0,\"result\":\"view-id-1\"}\n{\"method\":\"update\",\"params\":{\"update\":{\"ops\":[{\"lines\":[{\"cursor\":[0]" ++
    codes ",\"ln\":1,\"styles\":[],\"text\":\"\"}],\"n\":1,\"op\":\"ins\"}],\"pristine\":true},\"view_id\":\"view-id-1\"}}\n"

abbrev pub first_bytes : List ℕ
first_bytes =
    codes "{\"method\":\"update\",\"params\":{\"update\":{\"ops\":[{\"lines\":[{\"cursor\":[1],\"ln\":1,\"styles\":[],\"text\":\"a\"}" ++
    codes "],\"n\":1,\"op\":\"ins\"}],\"pristine\":false},\"view_id\":\"view-id-1\"}}\n{\"method\":\"scroll_to\",\"params\":{\"col\":1," ++
    codes "\"line\":0,\"view_id\":\"view-id-1\"}}\n"

abbrev pub second_bytes : List ℕ
second_bytes =
    codes "{\"method\":\"update\",\"params\":{\"update\":{\"ops\":[{\"lines\":[{\"cursor\":[3],\"ln\":1,\"styles\":[],\"text\":\"a" ++
    (195 ∷ 169 ∷ []) ++
    codes "\"}],\"n\":1,\"op\":\"ins\"}],\"pristine\":false},\"view_id\":\"view-id-1\"}}\n{\"method\":\"scroll_to\",\"params\":{\"col\":3," ++
    codes "\"line\":0,\"view_id\":\"view-id-1\"}}\n"

abbrev pub third_bytes : List ℕ
third_bytes =
    codes "{\"method\":\"update\",\"params\":{\"update\":{\"ops\":[{\"lines\":[{\"cursor\":[],\"ln\":1,\"styles\":[],\"text\":\"a" ++
    (195 ∷ 169 ∷ []) ++
    codes "\\n\"},{\"cursor\":[0],\"ln\":2,\"styles\":[],\"text\":\"\"}],\"n\":2,\"op\":\"ins\"}],\"pristine\":false},\"view_id\":\"view-id-1\"}" ++
    codes "}\n{\"method\":\"scroll_to\",\"params\":{\"col\":0,\"line\":1,\"view_id\":\"view-id-1\"}}\n"

-- the first view is answered, and has one empty line with the caret; the closing entry writes nothing
abbrev pub FirstView : Type 0
FirstView = written (first_session (terms_for 0)) (opening ∷ closing_entry ∷ []) ≡ opening_bytes

-- an insertion after it tells its line, and where the caret is
abbrev pub FirstInsertion : Type 0
FirstInsertion = written (first_session (terms_for 0)) (opening ∷ insertion (97 ∷ []) ∷ []) ≡ opening_bytes ++ first_bytes

-- an update of a second view
abbrev pub second_view_bytes : List ℕ
second_view_bytes = codes "{\"method\":\"update\",\"params\":{\"update\":{\"ops\":[],\"pristine\":true},\"view_id\":\"view-id-2\"}}\n"

-- bytes with a note of unknown shape show no screen. An update of a second view leaves the first one's screen as it was
pub record StrangeNotes : Type 0 where
  pub no_params : rebuilt first_id (codes "{\"method\":\"update\",\"params\":{}}\n") ≡ None
  pub other_view : rebuilt first_id second_view_bytes ≡ Some []

-- each of three insertions tells its line and where the caret is; the last begins a line
abbrev pub ThreeInsertions : Type 0
ThreeInsertions = written (session_of (terms_for 0) (opening ∷ [])) (insertion (97 ∷ []) ∷ insertion (233 ∷ []) ∷ insertion (10 ∷ []) ∷ []) ≡
    first_bytes ++ (second_bytes ++ third_bytes)

-- a run whose first read fails has the closing entry alone
abbrev pub FirstReadFails : Type 0
FirstReadFails = (passage : Passage) (journal : List Entry) (bytes : List ℕ) → passage.before.source.left ≡ Some bytes →
    passage.after.source.left ≡ Some bytes → RunsAlone 0 passage journal 4 → journal ≡ closing_entry ∷ []

-- an insertion that was not sent
abbrev pub unsent_insertion : Entry
unsent_insertion = record (insertion (233 ∷ [])) { sent = false }

-- where the third of three entries was not sent, the sink holds what the first two write, and a part of the third piece
abbrev pub ThirdWriteFails : Type 0
ThirdWriteFails = (before after : SinkState) (gained : List ℕ) → before.held ≡ Some [] → after.held ≡ Some gained →
    IsCutOff (terms_for 0) before after (opening ∷ (insertion (97 ∷ []) ∷ (unsent_insertion ∷ (closing_entry ∷ [])))) →
    (part : List ℕ) × (gained ≡ (opening_bytes ++ first_bytes) ++ part) ×
    IsProperPart part (piece_after (terms_for 0) (opening ∷ insertion (97 ∷ []) ∷ []) unsent_insertion)

-- a line of the input
abbrev pub opening_line : List ℕ
opening_line = codes "{\"id\":0,\"method\":\"new_view\"}\n"

-- no run that took the first ten bytes of it alone has an entry, whatever that is: half a line is none
abbrev pub HalfLine : Type 0
HalfLine = (passage : Passage) (entry : Entry) → passage.before.source.left ≡ Some opening_line →
    passage.after.source.left ≡ Some (drop 10 opening_line) → RunsAlone 0 passage (entry ∷ closing_entry ∷ []) 3 → ⊥

-- an entry of the plugin with this number
abbrev pub entry_by : ℕ → Id → Act → Entry
entry_by caller id act = record { caller = caller; command = record { id = id; act = act }; shelf = NoCall; sent = true }

-- what a session with three plugins is made with
abbrev pub three_plugins : Terms
three_plugins = record { plugins = 3; limit = 2 ^ 40 }

-- the alert of a plugin is told the front end, and nothing else
abbrev pub PluginAlert : Type 0
PluginAlert = written (first_session three_plugins) (entry_by 1 (Num (pos 1)) (Alert (codes "hi")) ∷ []) ≡
    codes "{\"method\":\"alert\",\"params\":{\"msg\":\"hi\"}}\n"

-- the sessions of two plugins ended, of one of them twice, before a view was opened: they have ended in it, and that of the third has
-- acknowledged nothing
abbrev pub LateView : Type 0
LateView = map (λ (view : OpenView). view.document.text.sessions)
    (views_of three_plugins (entry_by 2 NoId Ended ∷ entry_by 1 NoId Ended ∷ entry_by 2 NoId Ended ∷ opening ∷ [])) ≡
    (None ∷ None ∷ Some 0 ∷ []) ∷ []

-- the plugins whose sessions have ended stand once each, in the order of their ends
abbrev pub EndsStandOnce : Type 0
EndsStandOnce =
    (session_of three_plugins (entry_by 2 NoId Ended ∷ entry_by 1 NoId Ended ∷ entry_by 2 NoId Ended ∷ [])).ended ≡ 2 ∷ 1 ∷ []
