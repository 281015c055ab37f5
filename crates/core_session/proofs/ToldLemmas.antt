-- The lines that stand beside entries, and what they tell.
use Rattle.std.proofs.Common.{◌≡◌, ℕ, zero, suc, ◌<◌, arith, Bool, true, false, List, [], ◌∷◌, ◌++◌, length, drop, refl, ap, sym, ◌∙◌}
use Rattle.std.specs.Prelude.{◌&&◌, ◌||◌, ◌==◌, nat_le, if◌then◌else◌}
use Rattle.std.specs.List.{list_all}
use Rattle.std.proofs.lemmas.Bool.Decides.{nat_tests}
use Rattle.plugin_wire.specs.Told.{Told}
use Rattle.xi_plain.specs.declared.entry.Entry.{Entry}
use Rattle.xi_plain.specs.Journal.{IsLegal, has_own_note, is_closing, is_ordered, may_follow}
use Rattle.entry_lines.specs.Notices.{AreNoticeTexts}
use Rattle.session_step.specs.declared.terms.Terms.{Terms}
use Rattle.session_step.specs.News.{news_of}
use Rattle.session_step.specs.Session.{Session, first_session, session_after, session_of, step}
use Rattle.plain_edits.specs.declared.style.Style.{Style}
use Rattle.session_step.specs.declared.opened.Opened.{Opened}
use Rattle.core_session.specs.declared.prepare.Prepared.{Prepared}
use Rattle.core_session.specs.InnerSession.{IsPrepared}
use Rattle.core_session.specs.Kept.{has_closing, with_sent}
use Rattle.core_session.specs.declared.telling.EntryNews.{EntryNews}
use Rattle.core_session.specs.Notes.{AreToldAfter, AreToldOf, lines_in, news_after, news_from, told_from}
use Rattle.core_session.proofs.KeptLemmas.{first_of, second_of}
use Rattle.core_session.proofs.SentLemmas.{prepared_sent}

-- one more entry, with its lines
AreToldAfter-push : (session : Session) (entries : List Entry) (told : List EntryNews) (entry : Entry) (news : EntryNews) →
    AreToldAfter session entries told → AreNoticeTexts (news_of (session_after session entries) entry) news.lines →
    AreToldAfter session (entries ++ entry ∷ []) (told ++ news ∷ [])
AreToldAfter-push session [] [] entry news are last = (last, tt)
AreToldAfter-push session [] (more ∷ told) entry news are last = absurd are
AreToldAfter-push session (first ∷ entries) [] entry news are last = absurd are
AreToldAfter-push session (first ∷ entries) (more ∷ told) entry news are last =
    (are.0, AreToldAfter-push (step session first) entries told entry news are.1 last)

pub AreToldOf-push : (terms : Terms) (journal : List Entry) (told : List EntryNews) (entry : Entry) (news : EntryNews) →
    AreToldOf terms journal told → AreNoticeTexts (news_of (session_of terms journal) entry) news.lines →
    AreToldOf terms (journal ++ entry ∷ []) (told ++ news ∷ [])
AreToldOf-push terms journal told entry news are last = AreToldAfter-push (first_session terms) journal told entry news are last

-- an entry that was prepared, with its lines
pub told_push : (terms : Terms) (held : List Opened) (table : List Style) (ended : List ℕ) (journal : List Entry) (told : List EntryNews) (made : Prepared)
    (sent : Bool) → AreToldOf terms journal told → IsPrepared held table ended (session_of terms journal) made →
    AreToldOf terms (journal ++ with_sent made.entry sent ∷ []) (told ++ record { lines = made.told } ∷ [])
told_push terms held table ended journal told made sent are prepared =
    AreToldOf-push terms journal told (with_sent made.entry sent) (record { lines = made.told }) are
    (prepared_sent held table ended (session_of terms journal) made sent prepared).told

-- as many
AreToldAfter-length : (session : Session) (entries : List Entry) (told : List EntryNews) → AreToldAfter session entries told →
    length told ≡ length entries
AreToldAfter-length session [] [] are = refl
AreToldAfter-length session [] (more ∷ told) are = absurd are
AreToldAfter-length session (entry ∷ entries) [] are = absurd are
AreToldAfter-length session (entry ∷ entries) (more ∷ told) are = ap suc (AreToldAfter-length (step session entry) entries told are.1)

pub AreToldOf-length : (terms : Terms) (journal : List Entry) (told : List EntryNews) → AreToldOf terms journal told → length told ≡ length journal
AreToldOf-length terms journal told are = AreToldAfter-length (first_session terms) journal told are

-- ---- what they tell, one after the other

texts-append : (news more : List Told) (texts others : List (List ℕ)) → AreNoticeTexts news texts → AreNoticeTexts more others →
    AreNoticeTexts (news ++ more) (texts ++ others)
texts-append [] more [] others first second = second
texts-append [] more (text ∷ texts) others first second = absurd first
texts-append (told ∷ news) more [] others first second = absurd first
texts-append (told ∷ news) more (text ∷ texts) others first second = (first.0, texts-append news more texts others first.1 second)

texts_after : (session : Session) (entries : List Entry) (told : List EntryNews) → AreToldAfter session entries told →
    AreNoticeTexts (news_after session entries) (lines_in told)
texts_after session [] [] are = tt
texts_after session [] (more ∷ told) are = absurd are
texts_after session (entry ∷ entries) [] are = absurd are
texts_after session (entry ∷ entries) (more ∷ told) are =
    texts-append (news_of session entry) (news_after (step session entry) entries) more.lines (lines_in told) are.0
    (texts_after (step session entry) entries told are.1)

texts_from : (session : Session) (entries : List Entry) (told : List EntryNews) (from : ℕ) → AreToldAfter session entries told →
    AreNoticeTexts (news_from session entries from) (lines_in (drop from told))
texts_from session entries told zero are = texts_after session entries told are
texts_from session [] [] (suc from) are = tt
texts_from session [] (more ∷ told) (suc from) are = absurd are
texts_from session (entry ∷ entries) [] (suc from) are = absurd are
texts_from session (entry ∷ entries) (more ∷ told) (suc from) are = texts_from (step session entry) entries told from are.1

pub texts-told_from : (terms : Terms) (journal : List Entry) (told : List EntryNews) (from : ℕ) → AreToldOf terms journal told →
    AreNoticeTexts (told_from terms journal from) (lines_in (drop from told))
texts-told_from terms journal told from are = texts_from (first_session terms) journal told from are

-- ---- the closing entry is the last one

goes_on : (closes : Bool) (many : ℕ) (rest : Bool) → (if closes then suc many == 0 else rest) ≡ true → closes ≡ false
goes_on true many rest is = absurd (grind (arith, nat_tests, is))
goes_on false many rest is = refl

other_or : (a b : Bool) → a ≡ false → a || b ≡ b
other_or a b none = rw none refl

closing_later : (plugins : ℕ) (journal : List Entry) (from : ℕ) → is_ordered plugins journal ≡ true → from < length journal →
    has_closing (drop from journal) ≡ has_closing journal
closing_later plugins journal zero ordered inside = refl
closing_later plugins [] (suc from) ordered inside = absurd (omega (arith, inside))
closing_later plugins (entry ∷ []) (suc from) ordered inside = absurd (omega (arith, inside))
closing_later plugins (entry ∷ next ∷ entries) (suc from) ordered inside =
    let rest : may_follow entry (next ∷ entries) && is_ordered plugins (next ∷ entries) ≡ true =
    second_of (nat_le entry.caller plugins) (may_follow entry (next ∷ entries) && is_ordered plugins (next ∷ entries)) ordered in
    let mine : is_closing entry ≡ false =
    goes_on (is_closing entry) (length entries) (if entry.sent then true else list_all is_closing (next ∷ entries))
    (first_of (may_follow entry (next ∷ entries)) (is_ordered plugins (next ∷ entries)) rest) in
    closing_later plugins (next ∷ entries) from (second_of (may_follow entry (next ∷ entries)) (is_ordered plugins (next ∷ entries)) rest)
    (omega (arith, inside)) ∙ sym (other_or (is_closing entry) (has_closing (next ∷ entries)) mine)

-- so it is among the later entries where it is there
pub closing-drop : (plugins : ℕ) (journal : List Entry) (from : ℕ) → IsLegal plugins journal → from < length journal →
    has_closing (drop from journal) ≡ has_closing journal
closing-drop plugins journal from legal inside =
    closing_later plugins journal from (first_of (is_ordered plugins journal) (list_all has_own_note journal) legal) inside
