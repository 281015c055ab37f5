-- What a front end is told after a document changed.
use Rattle.std.specs.Prelude.{[], Option, Some, None, unwrap_or}
use Rattle.plain_text.specs.declared.run.Run.{Run}
use Rattle.plain_screen.specs.declared.screen.Update.{Update}
use Rattle.plain_screen.specs.Screen.{Screen, screen_after}
use Rattle.doc_layout.specs.Told.{scroll_between}
use Rattle.doc_view.specs.declared.told.Pristine.{Pristine}
use Rattle.doc_view.specs.Told.{settled_view, told}
use Rattle.doc_view.specs.View.{point_in}
use Rattle.doc_text.specs.Writing.{is_pristine}
use Rattle.doc_session.specs.Layout.{Position}
use Rattle.doc_session.specs.Document.{Document}

-- whether the text was the one that was loaded or last saved, and whether it is
abbrev pub pristine_from : Document → Document → Pristine
pristine_from before after = record { before = is_pristine before.text; after = is_pristine after.text }

-- THE UPDATE at an event that requests these lines, where the front end lacks something: that is the view's own word
abbrev pub update_after : Run → Document → Document → Option Update
update_after request before after = told before.view after.view request (pristine_from before after)

-- the screen after an update, where there is one
abbrev pub screen_told : Option Update → Screen → Screen
screen_told None screen = screen
screen_told (Some update) screen = unwrap_or (screen_after screen update.ops) []

-- the document once its front end was told
abbrev pub settled : Run → Document → Document → Document
settled request before after = record after {
  view = settled_view before.view after.view request (pristine_from before after);
  screen = screen_told (update_after request before after) after.screen;
}

-- THE OCCASION OF A SCROLL, at a command of the front end: line or byte column of the last caret changed; and the place that is written
abbrev pub scroll_after : Document → Document → Option Position
scroll_after before after = scroll_between (point_in before.view) (point_in after.view)
