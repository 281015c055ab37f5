-- THE STEPS OF AN EVENT: how many logical lines may be broken anew at it.
use Rattle.std.specs.Prelude.{ℕ, ◌+◌, ◌-◌}
use Rattle.plain_edits.specs.History.{head}
use Rattle.doc_text.specs.Writing.{Writing}
use Rattle.doc_view.specs.View.{config_ticks}
use Rattle.doc_session.specs.declared.event.Event.{Event}
use Rattle.doc_session.specs.declared.event.Event.TheVariants.{Config as Configure}
use Rattle.doc_session.specs.Document.{Document}
use Rattle.doc_session.specs.Step.{EventStep, taken_step}
use Rattle.doc_session.specs.Touched.{touched_between}

-- from one text to the next as many as the logical lines that are touched by text, as the histories have them, and two more
abbrev pub revision_ticks : Writing → Writing → ℕ
revision_ticks before next =
    let touched = touched_between next.history (head before.history) (head next.history) in touched.end - touched.start + 2

-- from a document to the one after a step
abbrev pub step_ticks : Document → EventStep → ℕ
step_ticks document step = revision_ticks document.text step.document.text

-- THE MOST STEPS OF AN EVENT: those of the text before it and the text after, before anything is collected; and of a configuration
-- those that the view needs
abbrev pub ticks_at : Document → Event → ℕ
ticks_at document (Configure config) = config_ticks document.view config
ticks_at document event = step_ticks document (taken_step document event)
