-- The line of a proper value.
use Rattle.std.proofs.Common.{◌≡◌, ◌≢◌, ℕ, zero, suc, ◌-◌, ◌≤◌, ◌==◌, List, [], ◌∷◌, ◌++◌, get_or, length, Bool, true, false, Option, Some, None, cond, IsUtf8, refl, sym, ap, ◌∙◌, subst, arith, length-append}
use Rattle.std.proofs.Math.Seq.{get_or-append_seam, take-append_seam}
use Rattle.std.proofs.lemmas.Bool.{eq-eqb, ne_eqb}
use Rattle.std.proofs.lemmas.Str.{IsUtf8-append, is_utf8-from_IsUtf8, IsUtf8-from_is_utf8}
use Rattle.std.specs.Str.{is_utf8}
use Rattle.json.proofs.Printed.Utf8.{IsUtf8-are_ascii}
use Rattle.serde_json.specs.Data.{Data, depth}
use Rattle.serde_json.specs.Read.{read, max_depth}
use Rattle.serde_json.specs.Written.{has_float, compact_text}
use Rattle.serde_json.proofs.Nesting.{depth-read}
use Rattle.json_rpc.specs.Proper.{IsProper}
use Rattle.json_rpc.specs.Line.{HasNoLf, without_lf, text_value, reading, line_of, IsLineOf}
use Rattle.json_rpc.proofs.Proper.{read-compact_text, IsUtf8-compact_text, HasNoLf-compact_text}

ends_line : (b : ℕ) (xs ys : List ℕ) → b ≡ 10 → cond (b == 10) xs ys ≡ xs
ends_line b xs ys e = let is = eq-eqb b 10 e in rw is

pub goes_on : {X : Type 0} (b : ℕ) (xs ys : X) → b ≢ 10 → cond (b == 10) xs ys ≡ ys
goes_on b xs ys other = let no = ne_eqb b 10 other in rw no

-- a line that LF ends is that line with its LF
pub without_lf-ended : (bytes : List ℕ) → without_lf (bytes ++ 10 ∷ []) ≡ bytes
unfolding without_lf
without_lf-ended bytes =
    let len : length (bytes ++ 10 ∷ []) - 1 ≡ length bytes = omega (arith, length-append bytes (10 ∷ [])) in
    rw len (ends_line _ _ _ (get_or-append_seam bytes 10 [] 0) ∙ take-append_seam bytes (10 ∷ []))

no_lf_at : (bytes : List ℕ) (i : ℕ) → HasNoLf bytes → get_or bytes i 0 ≢ 10
no_lf_at [] i h = λ e. omega arith
no_lf_at (b ∷ bytes) zero h = h.0
no_lf_at (b ∷ bytes) (suc i) h = no_lf_at bytes i h.1

-- a line with no LF stays
pub without_lf-HasNoLf : (bytes : List ℕ) → HasNoLf bytes → without_lf bytes ≡ bytes
unfolding without_lf
without_lf-HasNoLf bytes h = goes_on _ _ _ (no_lf_at bytes (length bytes - 1) h)

pub text_value-IsUtf8 : (text : List ℕ) → IsUtf8 text → text_value text ≡ read text
unfolding text_value
text_value-IsUtf8 text h = let is = is_utf8-from_IsUtf8 text h in rw is

pub text_value-read : (text : List ℕ) (d : Data) → IsUtf8 text × (read text ≡ Some d) → text_value text ≡ Some d
text_value-read text d h = text_value-IsUtf8 text h.0 ∙ h.1

chosen : (b : Bool) (o : Option Data) → (b ≡ true → o ≡ None) → cond b o None ≡ None
chosen true o h = h refl
chosen false o h = refl

pub text_value-none : (text : List ℕ) → (IsUtf8 text → read text ≡ None) → text_value text ≡ None
unfolding text_value
text_value-none text h = chosen (is_utf8 text) (read text) (λ e. h (IsUtf8-from_is_utf8 text e))

-- a text that is that of a value and reads as the value, with its LF
pub IsLineOf-text : (d : Data) (text line : List ℕ) → text ≡ compact_text d → IsUtf8 text → read text ≡ Some d → line ≡ text ++ 10 ∷ [] → IsLineOf d line
unfolding reading line_of
IsLineOf-text d text line same utf8 reads is = record {
  bytes = is ∙ ap (λ bytes. bytes ++ 10 ∷ []) same;
  one = HasNoLf-compact_text d;
  text = subst IsUtf8 (sym is) (IsUtf8-append text (10 ∷ []) utf8 (IsUtf8-are_ascii (10 ∷ []) refl));
  reads = ap (λ bytes. text_value (without_lf bytes)) is ∙ ap text_value (without_lf-ended text) ∙ text_value-IsUtf8 text utf8 ∙ reads;
}

-- the line of a proper value with no float, nested at most 127 deep, is one line of text and reads as the value
pub IsLineOf-line_of : (d : Data) → IsProper d → has_float d ≡ false → depth d ≤ max_depth → IsLineOf d (line_of d)
unfolding line_of
IsLineOf-line_of d h whole shallow = IsLineOf-text d (compact_text d) _ refl (IsUtf8-compact_text d h whole) (read-compact_text d h whole shallow) refl

pub line_of-ends : (d : Data) → line_of d ≡ compact_text d ++ 10 ∷ []
unfolding line_of
line_of-ends d = refl

-- a line reads the same with its LF and without it
pub reading-ended : (bytes : List ℕ) → HasNoLf bytes → reading (bytes ++ 10 ∷ []) ≡ reading bytes
unfolding reading
reading-ended bytes h = ap text_value (without_lf-ended bytes ∙ sym (without_lf-HasNoLf bytes h))

depth-text_value : (b : Bool) (text : List ℕ) (d : Data) → cond b (read text) None ≡ Some d → depth d ≤ max_depth
depth-text_value true text d e = depth-read text d e
depth-text_value false text d e = absurd (cc)

-- what a line reads as is nested at most 127 deep
pub depth-reading : (line : List ℕ) (d : Data) → reading line ≡ Some d → depth d ≤ max_depth
unfolding reading text_value
depth-reading line d e = depth-text_value (is_utf8 (without_lf line)) (without_lf line) d e
