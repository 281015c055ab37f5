-- What bytes show that no core writes.
use Rattle.std.proofs.Common.{◌≡◌, ℕ, List, [], ◌∷◌, Option, Some, ap, sym, ◌∙◌, codes, append-nil}
use Rattle.std.specs.Prelude.{if◌then◌else◌}
use Rattle.plain_screen.specs.Screen.{screen_after}
use Rattle.plain_screen.specs.declared.screen.Update.{Update}
use Rattle.serde_json.specs.Data.{Data}
use Rattle.json_rpc.specs.Line.{line_of}
use Rattle.json_rpc.specs.Response.{note_data}
use Rattle.view_update.specs.Fair.{IsFairUpdate}
use Rattle.view_update.specs.declared.note.ViewUpdate.{ViewUpdate}
use Rattle.view_update.specs.Reading.{read_params, line_update}
use Rattle.view_update.specs.Written.{update_data}
use Rattle.view_update.proofs.ForCallers.{updates_are_read, updates_read_back}
use Rattle.core_session.specs.Shows.{updates_in, screen_with, rebuilt_from}
use Rattle.session_laws.specs.Laws.{UnreadShowsNothing, OtherViewIsPassedOver}
use Rattle.core_session.proofs.ForCallers.{updates_of-some, updates_in-lines}

-- one message alone
updates_in-note : (message : Data) (note : Option ViewUpdate) → line_update (line_of message) ≡ Some note → updates_in (line_of message) ≡ note ∷ []
updates_in-note message note is =
    ap updates_in (sym (append-nil (line_of message))) ∙ updates_in-lines (message ∷ []) ∙ updates_of-some message note is

-- an update alone
updates_in-update : (view : List ℕ) (update : Update) → IsFairUpdate view update →
    updates_in (line_of (update_data view update)) ≡ Some (record { view = view; update = update }) ∷ []
updates_in-update view update fair =
    updates_in-note (update_data view update) (Some (record { view = view; update = update })) (updates_read_back view update fair).reads_back

pub unread_shows_nothing : UnreadShowsNothing
unread_shows_nothing id params line unread =
    ap (rebuilt_from id (Some [])) (updates_in-note (note_data (codes "update") params) (read_params params) (updates_are_read params _ line)) ∙
    ap (screen_with id (Some [])) unread

pub other_view_is_passed_over : OtherViewIsPassedOver
other_view_is_passed_over id view update fair other =
    ap (rebuilt_from id (Some [])) (updates_in-update view update fair) ∙
    ap (λ here. if here then screen_after [] update.ops else Some []) other
