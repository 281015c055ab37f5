-- Laws of an object that has a journal, and tells faults.
use Rattle.std.specs.Prelude.{◌≡◌, ℕ, ◌<◌, ◌≤◌, ◌^◌, Bool, true, false, get_or, List, [], ◌∷◌, ◌++◌, length}
use Rattle.xi_plain.specs.declared.entry.Entry.{Entry}
use Rattle.xi_plain.specs.declared.reply.Reply.{Reply}
use Rattle.xi_plain.specs.declared.reply.Reply.TheVariants.{Taken, Refused, SinkFault, Closed, NoMemory}
use Rattle.xi_plain.specs.Reply.{has_entry}
use Rattle.xi_plain.specs.Room.{AddsEntryIf, Begins}
use Rattle.plugin_crew.specs.Taker.{SaysSent}
use Rattle.std.proofs.Math.Seq.{get_or-append_seam}
use native.Mathlib.Omega.{arith}
use mathlib.Core.Path.{sym, ap, ◌∙◌}
use mathlib.Core.List.{append-nil, append_assoc}

-- there is one entry more or none, as the reply says, and the reply says whether it was sent
abbrev pub Adds : List Entry → ℕ → Reply → List Entry → Type 0
Adds before caller given after = AddsEntryIf (has_entry given) before caller after × SaysSent given before after

-- a list has one last entry
last_is : (before : List Entry) (a b : Entry) → before ++ a ∷ [] ≡ before ++ b ∷ [] → a ≡ b
last_is before a b is =
    sym (get_or-append_seam before a [] a) ∙ ap (λ x. get_or x (length before) a) is ∙ get_or-append_seam before b [] a

-- the reply tells of an entry that it was sent, or that it was not
abbrev pub Tells : Bool → Reply → Type 0
Tells true (Taken text) = Unit {0}
Tells false SinkFault = Unit {0}
Tells sent given = ⊥

-- so is said of an entry that was added
pub adds_told : (before after : List Entry) (caller : ℕ) (entry : Entry) (sent : Bool) (given : Reply) → Tells sent given → after ≡ before ++ entry ∷ []
    → entry.caller ≡ caller → entry.sent ≡ sent → Adds before caller given after
adds_told before after caller entry true (Taken text) tells is own sent =
    ((entry, is, own), λ other also. ap (λ e. e.sent) (last_is before other entry (sym also ∙ is)) ∙ sent)
adds_told before after caller entry false SinkFault tells is own sent =
    ((entry, is, own), λ other also. ap (λ e. e.sent) (last_is before other entry (sym also ∙ is)) ∙ sent)
adds_told before after caller entry true SinkFault tells is own sent = absurd tells
adds_told before after caller entry true (Refused text) tells is own sent = absurd tells
adds_told before after caller entry true Closed tells is own sent = absurd tells
adds_told before after caller entry true NoMemory tells is own sent = absurd tells
adds_told before after caller entry false (Taken text) tells is own sent = absurd tells
adds_told before after caller entry false (Refused text) tells is own sent = absurd tells
adds_told before after caller entry false Closed tells is own sent = absurd tells
adds_told before after caller entry false NoMemory tells is own sent = absurd tells

-- a journal begins with itself
pub begins_same : (xs : List Entry) → Begins xs xs
begins_same xs = ([], sym (append-nil xs))

-- and with what its beginnings begin with
pub begins_on : (xs ys zs : List Entry) → Begins xs ys → Begins ys zs → Begins xs zs
begins_on xs ys zs a b = (a.0 ++ b.0, b.1 ∙ (ap (λ l. l ++ b.0) a.1 ∙ append_assoc xs a.0 b.0))

-- a list is short whose length is below such a bound
pub short_of : (xs : List Entry) (len cap : ℕ) → (len ≡ length xs) × (len ≤ cap) → cap < 2 ^ 63 → length xs < 2 ^ 63
short_of xs len cap ok small = let same = ok.0 in let less = ok.1 in omega arith
