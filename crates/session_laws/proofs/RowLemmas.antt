-- Worked rows of sessions, computed, and of runs.
use Rattle.std.proofs.Math.Logic.{∥∥₁_elim}
use Rattle.std.specs.Coded.{Coded-set, coded_list, coded_ℕ}
use Rattle.xi_top.specs.Alone.{terms_for}
use Rattle.std.proofs.Common.{◌≡◌, ℕ, ◌+◌, ◌<◌, ◌≤◌, true, inl, inr, List, [], ◌∷◌, ◌++◌, length, map, drop, codes, Option, Some, Ok, Err, refl, ap, sym, ◌∙◌, subst, length-append, arith}
use Rattle.std.proofs.lemmas.List.{length-map, nil_from_length}
use Rattle.std.specs.Fmt.{digits}
use Rattle.std.specs.List.{concat}
use Rattle.std.specs.Prelude.{IfSome}
use Rattle.json.specs.Print.{escape_byte}
use Rattle.json_rpc.specs.Line.{line_of}
use Rattle.serde_json.specs.Data.{object, no_members}
use Rattle.view_update.proofs.ForCallers.{IsLineOf-empty_note}
use Rattle.plain_screen.specs.declared.screen.Update.{Update}
use Rattle.xi_plain.specs.declared.entry.Entry.{Entry}
use Rattle.plain_text.specs.InputLines.{ended_lines, lines_of}
use Rattle.front_wire.specs.Front.{command_of}
use Rattle.outside.specs.Sink.{Gains}
use Rattle.xi_plain.specs.Journal.{closing_entry}
use Rattle.session_step.specs.Session.{first_session, written}
use Rattle.core_session.specs.Core.{piece_after}
use Rattle.xi_top.specs.declared.ending.Ending.TheVariants.{NoMemory, SourceFault, SinkFault, TooMany, TooLong}
use Rattle.xi_top.specs.Ending.{Outcome, status_of}
use Rattle.xi_top.specs.Written.{IsProperPart}
use Rattle.xi_top.specs.Run.{Passage, IsRun}
use Rattle.session_laws.specs.Rows.{FirstInsertion, FirstReadFails, FirstView, HalfLine, StrangeNotes, ThirdWriteFails, ThreeInsertions, first_bytes, first_id, insertion, opening, opening_bytes, opening_line, unsent_insertion, EndsStandOnce, LateView, PluginAlert}
use Rattle.session_laws.proofs.LawLemmas.{other_view_is_passed_over, unread_shows_nothing}
use Rattle.xi_top.proofs.ForCallers.{told_input, asked-lines}

-- ---- what a session writes

pub first_view : FirstView
unfolding line_of digits escape_byte lib.Utf8.encode
first_view = refl

pub first_insertion : FirstInsertion
unfolding line_of digits escape_byte lib.Utf8.encode
first_insertion = refl

pub three_insertions : ThreeInsertions
unfolding line_of digits escape_byte lib.Utf8.encode
three_insertions = refl

pub plugin_alert : PluginAlert
unfolding line_of digits escape_byte lib.Utf8.encode
plugin_alert = refl

pub late_view : LateView
unfolding digits lib.Utf8.encode
late_view = refl

pub ends_stand_once : EndsStandOnce
ends_stand_once = refl

-- an update of a second view, without operations
second_update : Update
second_update = record { ops = []; pristine = true }

pub strange_notes : StrangeNotes
unfolding line_of digits escape_byte lib.Utf8.encode second_update
strange_notes = record {
  no_params = unread_shows_nothing first_id (object no_members) IsLineOf-empty_note refl;
  other_view = other_view_is_passed_over first_id (codes "view-id-2") second_update (record { id = refl; ops = tt }) refl;
}

-- ---- the first read fails

nothing_taken : (bytes taken : List ℕ) → bytes ≡ taken ++ bytes → taken ≡ []
nothing_taken bytes taken is = nil_from_length taken (omega (arith, ap length is, length-append taken bytes))

none_entered : (entries : List Entry) (lines : List (List ℕ)) → map (λ entry. entry.command) entries ≡ map command_of lines → lines ≡ [] → entries ≡ []
none_entered entries lines asked none =
    nil_from_length entries
    (omega (arith, length-map entries (λ (entry : Entry). entry.command), ap length asked, length-map lines command_of, ap length none))

source_failed : (passage : Passage) (journal : List Entry) (outcome : Outcome) (bytes : List ℕ) → 4 ≡ status_of outcome →
    passage.before.source.left ≡ Some bytes → passage.after.source.left ≡ Some bytes → IsRun 0 passage journal outcome → journal ≡ closing_entry ∷ []
source_failed passage journal (Err SourceFault) bytes is before after run =
    let left : bytes ≡ run.left = subst (λ o. IfSome o (λ rest. rest ≡ run.left)) after run.leaves in
    let all = told_input _ _ bytes run.taken run.left before run.gives run.leaves in
    let none : run.taken ≡ [] = nothing_taken bytes run.taken (all ∙ ap (λ rest. run.taken ++ rest) (sym left)) in
    let lines : run.lines.lines ≡ [] = run.lines.so_many ∙ ap (ended_lines []) none in
    run.closed ∙ ap (λ entries. entries ++ closing_entry ∷ []) (none_entered run.entries run.lines.lines (asked-lines passage journal (Err SourceFault) run) lines)
source_failed passage journal (Ok done) bytes is before after run = absurd (omega (arith, is))
source_failed passage journal (Err NoMemory) bytes is before after run = absurd (omega (arith, is))
source_failed passage journal (Err SinkFault) bytes is before after run = absurd (omega (arith, is))
source_failed passage journal (Err TooMany) bytes is before after run = absurd (omega (arith, is))
source_failed passage journal (Err TooLong) bytes is before after run = absurd (omega (arith, is))

pub first_read_fails : FirstReadFails
first_read_fails passage journal bytes before after (inl (outcome, is, run)) = source_failed passage journal outcome bytes is before after run
first_read_fails passage journal bytes before after (inr (is, none)) = absurd (omega (arith, is))

-- ---- the third write fails

-- of four entries the first two stand before the last but one
two_before : (a b c d : Entry) (sent : List Entry) (last : Entry) → a ∷ (b ∷ (c ∷ (d ∷ []))) ≡ sent ++ (last ∷ (closing_entry ∷ [])) →
    (sent ≡ a ∷ b ∷ []) × (last ≡ c)
two_before a b c d [] last is = absurd (omega (arith, ap length is))
two_before a b c d (x ∷ []) last is = absurd (omega (arith, ap length is))
two_before a b c d (x ∷ y ∷ []) last is =
    let first : x ≡ a = cc in
    let second : y ≡ b = cc in
    let third : last ≡ c = cc in
    ((λ t. first t ∷ second t ∷ []), third)
two_before a b c d (x ∷ y ∷ z ∷ sent) last is =
    absurd (omega (arith, ap length is, length-append sent (last ∷ (closing_entry ∷ []))))

pub third_write_fails : ThirdWriteFails
third_write_fails before after gained none some cut =
    let parts = two_before opening (insertion (97 ∷ [])) unsent_insertion closing_entry cut.sent cut.last cut.cut in
    let bytes : cut.bytes ≡ opening_bytes ++ first_bytes = ∥∥₁_elim cut.shows (Coded-set (coded_list coded_ℕ) _ _) (λ shows. shows.pieces) ∙ ap (written (first_session (terms_for 0))) parts.0 ∙ first_insertion in
    let At : Option (List ℕ) → Option (List ℕ) → Type 0 = λ from to. Gains from to (cut.bytes ++ cut.part) in
    let all : gained ≡ cut.bytes ++ cut.part = subst (At (Some [])) some (subst (λ from. At from after.held) none cut.gains) in
    let Proper : List Entry → Entry → Type 0 = λ sent last. IsProperPart cut.part (piece_after (terms_for 0) sent last) in (
      cut.part,
      all ∙ ap (λ b. b ++ cut.part) bytes,
      subst (Proper (opening ∷ insertion (97 ∷ []) ∷ [])) parts.1 (subst (λ sent. Proper sent cut.last) parts.0 cut.proper),
    )

-- ---- half a line is none

one_line : lines_of opening_line ≡ opening_line ∷ []
one_line = refl

whole_line : (taken rest : List ℕ) (lines later : List (List ℕ)) → opening_line ∷ [] ≡ lines ++ later → taken ≡ concat lines ++ rest →
    length lines ≡ 1 → length opening_line ≤ length taken
whole_line taken rest [] later first whole one = absurd (omega (arith, one))
whole_line taken rest (line ∷ []) later first whole one =
    let same : line ≡ opening_line = cc in
    omega (arith, ap length whole, length-append (line ++ []) rest, length-append line [], ap length same)
whole_line taken rest (line ∷ next ∷ lines) later first whole one = absurd (omega (arith, one))

short : length (drop 10 opening_line) + 10 ≡ length opening_line
short = refl

long : 10 < length opening_line
long = omega arith

half_run : (passage : Passage) (entry : Entry) (outcome : Outcome) → passage.before.source.left ≡ Some opening_line →
    passage.after.source.left ≡ Some (drop 10 opening_line) → IsRun 0 passage (entry ∷ closing_entry ∷ []) outcome → ⊥
half_run passage entry outcome before after run =
    let left : drop 10 opening_line ≡ run.left = subst (λ o. IfSome o (λ rest. rest ≡ run.left)) after run.leaves in
    let all = told_input _ _ opening_line run.taken run.left before run.gives run.leaves in
    let one : length run.lines.lines ≡ 1 =
    omega (
      arith,
      ap length run.closed,
      length-append run.entries (closing_entry ∷ []),
      length-map run.entries (λ (entry : Entry). entry.command),
      ap length (asked-lines passage (entry ∷ closing_entry ∷ []) outcome run),
      length-map run.lines.lines command_of,
    ) in
    let first : opening_line ∷ [] ≡ run.lines.lines ++ run.lines.later = sym one_line ∙ ap lines_of all ∙ run.lines.first in
    let whole = whole_line run.taken run.lines.rest run.lines.lines run.lines.later first run.lines.whole one in
    omega (arith, whole, ap length all, length-append run.taken run.left, ap length left, short, long)

pub half_line : HalfLine
half_line passage entry before after (inl (outcome, is, run)) = half_run passage entry outcome before after run
half_line passage entry before after (inr (is, none)) = absurd (omega (arith, ap length none.empty))
