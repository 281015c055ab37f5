-- Replies: which come with an entry. Answers: what they say of the journal.
use Rattle.std.specs.Prelude.{◌≡◌, ℕ, Bool, true, false}
use Rattle.xi_plain.specs.declared.reply.Reply.{Reply}
use Rattle.xi_plain.specs.declared.reply.Reply.TheVariants.{Taken, Refused, SinkFault, Closed, NoMemory}
use Rattle.xi_plain.specs.declared.reply.Answer.{Answer}
use Rattle.xi_plain.specs.declared.reply.Answer.TheVariants as answer

-- whether the reply comes with an entry of the journal
abbrev pub has_entry : Reply → Bool
has_entry (Taken line) = true
has_entry SinkFault = true
has_entry (Refused line) = false
has_entry Closed = false
has_entry NoMemory = false

-- the answer says how long the journal is, unless memory was wanting
abbrev pub SaysLength : ℕ → Answer → Type 0
SaysLength len (answer.Notices lines next over) = next ≡ len
SaysLength len (answer.Nothing said) = said ≡ len
SaysLength len answer.NoMemory = Unit {0}
