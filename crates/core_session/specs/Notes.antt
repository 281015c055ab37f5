-- WHAT PLUGINS ARE TOLD of a journal.
use Rattle.std.specs.Prelude.{ℕ, zero, suc, List, [], ◌∷◌, ◌++◌, ⊤}
use Rattle.std.specs.List.{flat_map}
use Rattle.xi_plain.specs.declared.entry.Entry.{Entry}
use Rattle.plugin_wire.specs.Told.{Told}
use Rattle.entry_lines.specs.Notices.{AreNoticeTexts}
use Rattle.session_step.specs.declared.terms.Terms.{Terms}
use Rattle.session_step.specs.Session.{Session, first_session, step}
use Rattle.session_step.specs.News.{news_of}
use Rattle.core_session.specs.declared.telling.EntryNews.{EntryNews}

-- what plugins are told of each of these entries, one after the other, and of those from a place on
abbrev pub news_after : Session → List Entry → List Told
news_after session [] = []
news_after session (entry ∷ entries) = news_of session entry ++ news_after (step session entry) entries

abbrev pub news_from : Session → List Entry → ℕ → List Told
news_from session entries zero = news_after session entries
news_from session [] (suc from) = []
news_from session (entry ∷ entries) (suc from) = news_from (step session entry) entries from

-- THE NOTICES of a journal from a place on
abbrev pub told_from : Terms → List Entry → ℕ → List Told
told_from terms journal from = news_from (first_session terms) journal from

-- ---- their lines

-- the lines of entries, one after the other
abbrev pub lines_in : List EntryNews → List (List ℕ)
lines_in told = flat_map (λ (news : EntryNews). news.lines) told

-- beside each entry stand the lines that tell of it
abbrev pub AreToldAfter : Session → List Entry → List EntryNews → Type 0
AreToldAfter session [] [] = ⊤
AreToldAfter session [] (news ∷ told) = ⊥
AreToldAfter session (entry ∷ entries) [] = ⊥
AreToldAfter session (entry ∷ entries) (news ∷ told) =
    AreNoticeTexts (news_of session entry) news.lines × AreToldAfter (step session entry) entries told

-- those of a journal
abbrev pub AreToldOf : Terms → List Entry → List EntryNews → Type 0
AreToldOf terms journal told = AreToldAfter (first_session terms) journal told
