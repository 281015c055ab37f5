-- What the head of an engine shows is the head text of each history that the engine stands for.
use Rattle.std.proofs.Common.{◌≡◌, Option}
use Rattle.std.proofs.Math.Logic.{∥∥₁_map}
use Rattle.plain_edits.specs.History.{History, head, text_at}
use Rattle.rev_engine.specs.State.{State}
use Rattle.rev_engine.specs.Engine.{StandsFor}
use Rattle.rev_engine.proofs.ForCallers.{shown_head-stands}
use Rattle.undo_groups.specs.Groups.{Groups}
use Rattle.edit_groups.specs.declared.typing.Typing.{Typing}
use Rattle.doc_text.specs.InMemory.{TextState, head_shown, text_in}
use Rattle.doc_text.specs.Inner.{StandsForSome}
use Rattle.doc_text.specs.Stands.{IsTextOf}
use Rattle.doc_text.specs.Whole.{IsWhole, IsWholeOf}
use Rattle.doc_text.specs.Writing.{Writing, head_text}
pub use Rattle.rev_engine.proofs.ForCallers.{head-stands}

pub head_shown-stands : (engine : State) (h : History) → StandsFor engine h → head_shown engine ≡ text_at h (head h)
head_shown-stands engine h stands = shown_head-stands engine h stands

-- ---- what is whole

pub some-whole : (engine : State) (groups : Groups) (typing : Option Typing) → IsWhole engine groups typing → StandsForSome engine
some-whole engine groups typing whole =
    ∥∥₁_map whole (λ (s : (h : History) × IsWholeOf h engine groups typing). (s.0, s.1.state.stands))

-- ---- a text in memory

pub text_in-stands : (text : TextState) (plain : Writing) → IsTextOf text plain → text_in text ≡ head_text plain
text_in-stands text plain is = head_shown-stands text.engine plain.history is.state.stands

pub head-text : (text : TextState) (plain : Writing) → IsTextOf text plain → head text.engine.revisions ≡ head plain.history
head-text text plain is = head-stands text.engine plain.history is.state.stands
