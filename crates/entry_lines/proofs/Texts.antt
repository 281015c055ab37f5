-- Lines without their LF.
use Rattle.std.proofs.Common.{◌≡◌, ◌≢◌, refl, ℕ, ◌+◌, ◌-◌, ◌<◌, ◌≤◌, List, [], ◌∷◌, ◌++◌, length, map, take, drop, get_or, ap, sym, ◌∙◌, subst, arith, append_assoc, append-nil, length-append}
use Rattle.std.proofs.Math.Seq.{take-append_seam, get_or-append_seam}
use Rattle.std.proofs.lemmas.List.{append_cancel_right, drop_all}
use Rattle.std.proofs.lemmas.Str.{IsCharBoundary-before_ascii}
use Rattle.std.specs.Str.{IsCharBoundary, encode_utf8_all}
use Rattle.xi_plain.specs.declared.command.Id.{Id}
use Rattle.xi_plain.specs.declared.command.Id.TheVariants.{NoId, Num, Word}
use Rattle.serde_json.specs.Data.{Data}
use Rattle.serde_json.specs.Written.{compact_text}
use Rattle.json_rpc.specs.Line.{line_feed, line_of, HasNoLf, IsLineOf}
use Rattle.json_rpc.specs.Response.{reply_data}
use Rattle.plugin_wire.specs.Told.{Told, told_data}
use Rattle.plugin_wire.specs.Laws.{IsNoticeOf}
use Rattle.entry_lines.specs.PluginAnswer.{EndsInLf, IsAnswerText, IsTextOf, result_answer}
use Rattle.entry_lines.specs.Notices.{AreNoticeTexts, IsNoticeText, told_of}
use Rattle.entry_lines.specs.declared.notice.PluginNews.{PluginNews}
use Rattle.entry_lines.proofs.Pieces.{drop-item}

-- the line of a value ends in an LF
pub EndsInLf-line : (d : Data) (line : List ℕ) → IsLineOf d line → EndsInLf line
unfolding line_of
EndsInLf-line d line is = (compact_text d, is.bytes)

-- where an LF is the last byte, the bytes may be cut before it
last_place : (front : List ℕ) → length (front ++ line_feed ∷ []) - 1 ≡ length front
last_place front = simp length-append (omega arith)

pub cut_before : (bytes front : List ℕ) (n : ℕ) → bytes ≡ front ++ line_feed ∷ [] → n ≡ length bytes - 1 → IsCharBoundary bytes n
cut_before bytes front n is at =
    let place : n ≡ length front = at ∙ ap (λ x. length x - 1) is ∙ last_place front in
    let long : length bytes ≡ length front + 1 = ap length is ∙ length-append front (line_feed ∷ []) in
    let byte : get_or bytes n 0 ≡ 10 = ap (λ x. get_or x n 0) is ∙ ap (λ k. get_or (front ++ line_feed ∷ []) k 0) place ∙ get_or-append_seam front line_feed [] 0 in
    IsCharBoundary-before_ascii bytes n (omega (arith, place, long)) (omega (arith, byte))

-- and the LF after what is left is the whole
pub cut_is : (bytes front : List ℕ) (n : ℕ) → bytes ≡ front ++ line_feed ∷ [] → n ≡ length bytes - 1 → take n bytes ++ line_feed ∷ [] ≡ bytes
cut_is bytes front n is at =
    let place : n ≡ length front = at ∙ ap (λ x. length x - 1) is ∙ last_place front in
    ap (λ x. x ++ line_feed ∷ []) (ap (take n) is ∙ ap (λ k. take k (front ++ line_feed ∷ [])) place ∙ take-append_seam front (line_feed ∷ []))
    ∙ sym is

-- what is left has no LF
no_lf_left : (d : Data) (bytes : List ℕ) → IsLineOf d (bytes ++ line_feed ∷ []) → HasNoLf bytes
unfolding line_of
no_lf_left d bytes is = subst HasNoLf (sym (append_cancel_right bytes (compact_text d) (line_feed ∷ []) is.bytes)) is.one

-- the text of a value, where its line was cut
pub IsTextOf-cut : (d : Data) (line bytes : List ℕ) → IsLineOf d line → bytes ++ line_feed ∷ [] ≡ line → IsTextOf d bytes
IsTextOf-cut d line bytes is cut =
    let whole : IsLineOf d (bytes ++ line_feed ∷ []) = subst (IsLineOf d) (sym cut) is in
    record { line = whole; one = no_lf_left d bytes whole }

-- of a result, where there is an id
pub IsAnswerText-result : (id : Id) (d : Data) (bytes : List ℕ) → id ≢ NoId → IsTextOf (reply_data id d) bytes → IsAnswerText (result_answer id d) bytes
IsAnswerText-result NoId d bytes other is = absurd (other refl)
IsAnswerText-result (Num z) d bytes other is = is
IsAnswerText-result (Word text) d bytes other is = is

-- and of a notice
pub IsNoticeText-cut : (told : Told) (line bytes : List ℕ) → IsNoticeOf told line → bytes ++ line_feed ∷ [] ≡ line → IsNoticeText told bytes
IsNoticeText-cut told line bytes is cut =
    let whole : IsNoticeOf told (bytes ++ line_feed ∷ []) = subst (IsNoticeOf told) (sym cut) is in
    record { notice = whole; one = no_lf_left (told_data told) bytes whole.written }

-- ---- a loop over notices

-- the texts so far, and those of the notices from i on, are those of all
pub IsTellingTo : List PluginNews → ℕ → List (List ℕ) → Type 0
IsTellingTo news i texts = (rest : List (List ℕ)) → AreNoticeTexts (map told_of (drop i news)) rest → AreNoticeTexts (map told_of news) (texts ++ rest)

pub IsTellingTo-none : (news : List PluginNews) → IsTellingTo news 0 []
unfolding IsTellingTo
IsTellingTo-none news = λ rest all. all

pub IsTellingTo-next : (news : List PluginNews) (i : ℕ) (texts : List (List ℕ)) (none x : PluginNews) (text : List ℕ)
    → IsTellingTo news i texts → i < length news → x ≡ get_or news i none → IsNoticeText (told_of x) (encode_utf8_all text)
    → IsTellingTo news (i + 1) (texts ++ text ∷ [])
unfolding IsTellingTo
IsTellingTo-next news i texts none x text h below is told = λ rest all.
    let step = drop-item news i none x below is in
    subst (AreNoticeTexts (map told_of news)) (sym (append_assoc texts (text ∷ []) rest))
    (h (text ∷ rest) (subst (λ xs. AreNoticeTexts (map told_of xs) (text ∷ rest)) (sym step) (told, all)))

pub IsTellingTo-all : (news : List PluginNews) (i : ℕ) (texts : List (List ℕ)) → IsTellingTo news i texts → length news ≤ i
    → AreNoticeTexts (map told_of news) texts
unfolding IsTellingTo
IsTellingTo-all news i texts h end =
    subst (AreNoticeTexts (map told_of news)) (append-nil texts)
    (h [] (subst (λ xs. AreNoticeTexts (map told_of xs) []) (sym (drop_all i news end)) tt))
