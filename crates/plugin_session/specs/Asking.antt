-- How the lines of a turn are asked, in two parts: the lines, and the end. Private functions alone speak of it.
use Rattle.std.specs.Prelude.{◌≡◌, ℕ, ◌+◌, Bool, List, [], ◌++◌, length}
use Rattle.xi_plain.specs.declared.reply.Reply.{Reply}
use Rattle.xi_plain.specs.declared.reply.Reply.TheVariants as reply
use Rattle.plugin_session.specs.declared.after.After.{After}
use Rattle.plugin_session.specs.declared.after.After.TheVariants.{Over}
use Rattle.plugin_session.specs.declared.asking.Met.{Met}
use Rattle.plugin_session.specs.declared.asking.Met.TheVariants.{All, Closed, NoMemory}
use Rattle.plugin_session.specs.declared.asking.Step.{Step}
use Rattle.plugin_session.specs.declared.asking.Step.TheVariants.{Goes, Stops}
use Rattle.plugin_session.specs.Call.{Call, answer_in}
use Rattle.plugin_session.specs.Visit.{AreAsked, EndsShort}

-- what a reply to a line comes to, where so many answers were kept before
abbrev pub step_after : ℕ → Reply → Step
step_after kept (reply.Taken text) = Goes (kept + length (answer_in text))
step_after kept (reply.Refused text) = Goes (kept + length (answer_in text))
step_after kept reply.SinkFault = Goes kept
step_after kept reply.Closed = Stops Closed
step_after kept reply.NoMemory = Stops NoMemory

-- what follows the lines
abbrev pub MetsEnd : Met → Bool → List Call → After → Type 0
MetsEnd All done calls ended = AreAsked [] done calls ended
MetsEnd Closed done calls ended = (calls ≡ []) × (ended ≡ Over)
MetsEnd NoMemory done calls ended = EndsShort calls ended

-- the lines were asked by these calls: with what follows them they are all asks of the turn
abbrev pub WereAsked : List (List ℕ) → Met → List Call → Type 0
WereAsked lines met calls =
    (done : Bool) (rest : List Call) (ended : After) → MetsEnd met done rest ended → AreAsked lines done (calls ++ rest) ended
