-- Lemmas on files of journals, line by line.
use Rattle.std.proofs.Common.{◌≡◌, ℕ, ◌+◌, ◌<◌, Bool, true, false, cond, IsUtf8, option_and_then, List, [], ◌∷◌, ◌++◌, length, take, map, get_or, Option, Some, None, Result, Ok, Err, T, refl, ap, sym, subst, ◌∙◌, append_assoc, append-nil}
use Rattle.std.proofs.lemmas.List.{map-append, take_more}
use Rattle.std.proofs.Math.Seq.{take-length}
use Rattle.std.specs.Prelude.{OnOk, is_err}
use Rattle.std.specs.Str.{encode_utf8_all, is_utf8}
use Rattle.std.proofs.lemmas.Str.{IsUtf8-from_is_utf8, encodes-append, is_utf8-from_IsUtf8}
use Rattle.serde_json.specs.Data.{Data}
use Rattle.serde_json.specs.Read.{read}
use Rattle.json_rpc.specs.Line.{reading, text_value, without_lf}
use Rattle.plain_text.specs.InputLines.{lines_of}
use Rattle.xi_plain.specs.declared.entry.Entry.{Entry}
use Rattle.macro_record.proofs.ForCallers.{lines_of-line}
use Rattle.journal_file.specs.Filed.{IsFirstBad, IsOneLine, entries_in, entry_in, entry_of}

-- ---- reading

-- one line more
pub read_next : (all : List (Option Entry)) (made : List Entry) (entry : Entry) (bytes line later : List ℕ) → lines_of bytes ≡ line ∷ lines_of later →
    Some entry ≡ entry_in line → all ≡ map Some made ++ entries_in bytes → all ≡ map Some (made ++ entry ∷ []) ++ entries_in later
read_next all made entry bytes line later cut is so_far =
    so_far ∙ ap (λ xs. map Some made ++ xs) (ap (map entry_in) cut ∙ ap (λ e. e ∷ entries_in later) (sym is)) ∙
    sym (append_assoc (map Some made) (Some entry ∷ []) (entries_in later)) ∙
    ap (λ xs. xs ++ entries_in later) (sym (map-append Some made (entry ∷ [])))

-- and one that is no entry
pub read_bad : (all : List (Option Entry)) (made : List Entry) (bytes line later : List ℕ) → lines_of bytes ≡ line ∷ lines_of later →
    None ≡ entry_in line → all ≡ map Some made ++ entries_in bytes → IsFirstBad all (length made)
read_bad all made bytes line later cut is so_far =
    (made, entries_in later, so_far ∙ ap (λ xs. map Some made ++ xs) (ap (map entry_in) cut ∙ ap (λ e. e ∷ entries_in later) (sym is)), refl)

-- ---- writing

-- the lines of these bytes are so many entries, whatever stands behind them
abbrev pub BeginsWith : List ℕ → List Entry → Type 0
BeginsWith bytes entries = (later : List ℕ) → entries_in (bytes ++ later) ≡ map Some entries ++ entries_in later

pub none_begins : BeginsWith (encode_utf8_all []) []
none_begins later = refl

-- what a call says of an answer that is no error
pub pushed_on : {X E : Type 0} {Said : Type 0} (r : Result X E) → is_err r ≡ false → OnOk r Said → Said
pushed_on (Ok x) fine said = said
pushed_on (Err e) fine said = absurd (subst T fine tt)

-- one line more
pub written_next : (text line new : List ℕ) (journal : List Entry) (at : ℕ) (entry : Entry) → new ≡ text ++ line →
    IsOneLine (encode_utf8_all line) → entry_in (encode_utf8_all line) ≡ Some entry → at < length journal → entry ≡ get_or journal at entry →
    BeginsWith (encode_utf8_all text) (take at journal) → BeginsWith (encode_utf8_all new) (take (at + 1) journal)
written_next text line new journal at entry is one reads inside got so_far later =
    let bytes = encode_utf8_all text in
    let more = encode_utf8_all line in
    let before = map Some (take at journal) in
    ap (λ all. entries_in (all ++ later)) (ap encode_utf8_all is ∙ encodes-append text line) ∙ ap entries_in (append_assoc bytes more later) ∙
    so_far (more ++ later) ∙ ap (λ lines. before ++ map entry_in lines) (lines_of-line more later one) ∙
    ap (λ e. before ++ (e ∷ entries_in later)) (reads ∙ ap Some got) ∙
    sym (append_assoc before (Some (get_or journal at entry) ∷ []) (entries_in later)) ∙
    ap (λ xs. xs ++ entries_in later)
    (sym (map-append Some (take at journal) (get_or journal at entry ∷ [])) ∙ ap (map Some) (sym (take_more journal at entry inside)))

-- all of them were written
pub written_all : (journal : List Entry) (at : ℕ) (text : List ℕ) → length journal ≡ at → BeginsWith (encode_utf8_all text) (take at journal) →
    entries_in (encode_utf8_all text) ≡ map Some journal
written_all journal at text end so_far =
    ap entries_in (sym (append-nil (encode_utf8_all text))) ∙ so_far [] ∙ append-nil (map Some (take at journal)) ∙
    ap (λ n. map Some (take n journal)) (sym end) ∙ ap (map Some) (take-length journal)

-- ---- the entry of a line

text_value-read : (text : List ℕ) (d : Data) → IsUtf8 text × (read text ≡ Some d) → text_value text ≡ Some d
unfolding text_value
text_value-read text d h = let is = is_utf8-from_IsUtf8 text h.0 in rw is h.1

chosen : (b : Bool) (o : Option Data) → (b ≡ true → o ≡ None) → cond b o None ≡ None
chosen true o h = h refl
chosen false o h = refl

text_value-none : (text : List ℕ) → (IsUtf8 text → read text ≡ None) → text_value text ≡ None
unfolding text_value
text_value-none text h = chosen (is_utf8 text) (read text) (λ e. h (IsUtf8-from_is_utf8 text e))

pub entry_in-read : (line text : List ℕ) (d : Data) → text ≡ without_lf line → IsUtf8 text × (read text ≡ Some d) → entry_in line ≡ entry_of d
unfolding reading entry_in
entry_in-read line text d is h = ap (option_and_then entry_of) (ap text_value (sym is) ∙ text_value-read text d h)

pub entry_in-unread : (line text : List ℕ) → text ≡ without_lf line → (IsUtf8 text → read text ≡ None) → entry_in line ≡ None
unfolding reading entry_in
entry_in-unread line text is h = ap (option_and_then entry_of) (ap text_value (sym is) ∙ text_value-none text h)
