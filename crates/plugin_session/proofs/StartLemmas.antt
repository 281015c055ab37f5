-- A line without its LF.
use Rattle.std.proofs.Common.{◌≡◌, ℕ, ◌+◌, ◌-◌, List, [], ◌∷◌, ◌++◌, length, take, get_or, ap, sym, ◌∙◌, arith, length-append}
use Rattle.std.proofs.Math.Seq.{take-append_seam, get_or-append_seam}
use Rattle.std.specs.Str.{IsCharBoundary}
use Rattle.std.proofs.lemmas.Str.{IsCharBoundary-before_ascii}
use Rattle.serde_json.specs.Written.{compact_text}
use Rattle.json_rpc.specs.Line.{line_feed, line_of}
use Rattle.plugin_wire.specs.Told.{started, told_data}
use Rattle.plugin_wire.specs.Laws.{IsNoticeOf}

-- the first line ends with an LF
pub start_is : (caller : ℕ) (line : List ℕ) → IsNoticeOf (started caller) line → (front : List ℕ) × (line ≡ front ++ line_feed ∷ [])
unfolding line_of
start_is caller line is = (compact_text (told_data (started caller)), is.written.bytes)

-- where an LF is the last byte, the text may be cut before it
last_place : (front : List ℕ) → length (front ++ line_feed ∷ []) - 1 ≡ length front
last_place front = simp length-append (omega arith)

pub cut_before : (bytes front : List ℕ) (n : ℕ) → bytes ≡ front ++ line_feed ∷ [] → n ≡ length bytes - 1 → IsCharBoundary bytes n
cut_before bytes front n is at =
    let place : n ≡ length front = at ∙ ap (λ x. length x - 1) is ∙ last_place front in
    let long : length bytes ≡ length front + 1 = ap length is ∙ length-append front (line_feed ∷ []) in
    let byte : get_or bytes n 0 ≡ 10 = ap (λ x. get_or x n 0) is ∙ ap (λ k. get_or (front ++ line_feed ∷ []) k 0) place ∙ get_or-append_seam front line_feed [] 0 in
    IsCharBoundary-before_ascii bytes n (omega (arith, place, long)) (omega (arith, byte))

-- and the LF after what is left is the whole
pub cut_is : (bytes front : List ℕ) (n : ℕ) → bytes ≡ front ++ line_feed ∷ [] → n ≡ length bytes - 1 → take n bytes ++ line_feed ∷ [] ≡ bytes
cut_is bytes front n is at =
    let place : n ≡ length front = at ∙ ap (λ x. length x - 1) is ∙ last_place front in
    ap (λ x. x ++ line_feed ∷ []) (ap (take n) is ∙ ap (λ k. take k (front ++ line_feed ∷ [])) place ∙ take-append_seam front (line_feed ∷ []))
    ∙ sym is
