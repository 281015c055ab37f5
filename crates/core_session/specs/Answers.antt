-- WHAT A QUERY IS ANSWERED, by the journal alone.
use Rattle.std.specs.Prelude.{◌≡◌, ◌≢◌, ℕ, Bool, List, length, drop}
use Rattle.std.proofs.Common.{subst}
use Rattle.xi_plain.specs.declared.ask.Query.{Query}
use Rattle.xi_plain.specs.declared.ask.Query.TheVariants.{Notices}
use Rattle.xi_plain.specs.declared.entry.Entry.{Entry}
use Rattle.xi_plain.specs.declared.reply.Answer.{Answer}
use Rattle.xi_plain.specs.declared.reply.Answer.TheVariants as answer
use Rattle.xi_plain.specs.Reply.{SaysLength}
use Rattle.entry_lines.specs.Notices.{AreNoticeTexts}
use Rattle.session_step.specs.declared.terms.Terms.{Terms}
use Rattle.core_session.specs.Kept.{has_closing}
use Rattle.core_session.specs.Notes.{told_from}

-- what is told from a place on that is not the journal's end: the notices of the entries from there on, where to ask next, which is that end,
-- and whether the closing entry is among them
pub record AreNotices (terms : Terms) (journal : List Entry) (from : ℕ) (lines : List (List ℕ)) (next : ℕ) (over : Bool) : Type 0 where
  pub some : from ≢ length journal
  pub notices : ∥ AreNoticeTexts (told_from terms journal from) lines ∥₁
  pub next_is : next ≡ length journal
  pub over_is : over ≡ has_closing (drop from journal)

-- THE ANSWER, by what it is; there is nothing exactly where the place is the journal's end, and there memory does not want
abbrev pub Answers : Terms → List Entry → Query → Answer → Type 0
Answers terms journal (Notices from) (answer.Notices lines next over) = AreNotices terms journal from lines next over
Answers terms journal (Notices from) (answer.Nothing len) = (len ≡ length journal) × (from ≡ length journal)
Answers terms journal (Notices from) answer.NoMemory = from ≢ length journal

-- it says how long the journal is
pub Answers-length : (terms : Terms) (journal : List Entry) (query : Query) (told : Answer) → Answers terms journal query told →
    SaysLength (length journal) told
Answers-length terms journal (Notices from) (answer.Notices lines next over) answered = answered.next_is
Answers-length terms journal (Notices from) (answer.Nothing len) answered = answered.0
Answers-length terms journal (Notices from) answer.NoMemory answered = tt

-- it is the same of a session that was made alike
pub Answers-on : (terms other : Terms) (journal : List Entry) (query : Query) (told : Answer) → other ≡ terms → Answers other journal query told →
    Answers terms journal query told
Answers-on terms other journal query told same answered = subst (λ (t : Terms). Answers t journal query told) same answered
