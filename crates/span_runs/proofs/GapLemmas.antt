-- Places along a line, from one gap to the next.
use Rattle.std.proofs.Common.{◌≡◌, ℕ, zero, suc, ◌+◌, ◌-◌, ◌<◌, ◌≤◌, List, [], ◌∷◌, length, get_or, take, drop, refl, ap, subst, ◌∙◌, arith}
use Rattle.std.specs.Str.{chars, IsUtf8}
use Rattle.std.proofs.Math.Seq.{drop-nil, take-nil}
use Rattle.std.proofs.lemmas.Str.{encodes-chars, len_utf8_bounds}
use Rattle.plain_text.specs.Text.{byte_len, place_of}
use Rattle.plain_text.proofs.callers.TextLemmas.{length-encodes}
use Rattle.span_runs.specs.Places.{RiseUpTo}

-- the bytes of a text are those of its characters
pub byte_len-chars : (bs : List ℕ) → IsUtf8 bs → byte_len (chars bs) ≡ length bs
byte_len-chars bs u = omega (arith, length-encodes (chars bs), ap length (encodes-chars bs u))

pub byte_len-ge : (text : List ℕ) → length text ≤ byte_len text
byte_len-ge [] = omega arith
byte_len-ge (c ∷ text) = let some = (len_utf8_bounds c).0 in let more = byte_len-ge text in omega arith

-- in a text of one byte a character the place is the gap
pub place_of-plain : (text : List ℕ) (gap : ℕ) → byte_len text ≡ length text → gap ≤ length text → gap ≡ place_of text gap
place_of-plain text zero is inside = refl
place_of-plain [] (suc gap) is inside = absurd (omega arith)
place_of-plain (c ∷ text) (suc gap) is inside =
    let some = (len_utf8_bounds c).0 in
    let more = byte_len-ge text in
    let rest = place_of-plain text gap (omega arith) (omega arith) in omega arith

-- a place by that of an earlier gap
pub place_of-sum : (text : List ℕ) (at gap : ℕ) → place_of text (at + gap) ≡ place_of text at + place_of (drop at text) gap
place_of-sum text zero gap = let same : 0 + gap ≡ gap = omega arith in let is = ap (place_of text) same in omega arith
place_of-sum [] (suc at) gap =
    let none = ap (λ (cs : List ℕ). byte_len cs) (take-nil (suc at + gap)) in
    let rest = ap (λ (cs : List ℕ). byte_len (take gap cs)) (drop-nil (suc at)) in
    let last = ap (λ (cs : List ℕ). byte_len cs) (take-nil gap) in omega arith
place_of-sum (c ∷ text) (suc at) gap =
    let more : suc at + gap ≡ suc (at + gap) = omega arith in
    let is = ap (place_of (c ∷ text)) more in
    let rest = place_of-sum text at gap in omega arith

pub place_of-le : (text : List ℕ) (gap : ℕ) → place_of text gap ≤ byte_len text
place_of-le text zero = omega arith
place_of-le [] (suc gap) = omega arith
place_of-le (c ∷ text) (suc gap) = let rest = place_of-le text gap in omega arith

-- what a walk has come to, by a step from an earlier gap
pub place-step : (line bs : List ℕ) (at gap place step : ℕ) → chars bs ≡ drop at line → at ≤ gap → place ≡ place_of line at →
    step ≡ place_of (chars bs) (gap - at) → place + step ≡ place_of line gap
place-step line bs at gap place step rest ordered is stepped =
    let sum : at + (gap - at) ≡ gap = omega arith in
    let whole = ap (place_of line) sum in
    let own = ap (λ (cs : List ℕ). place_of cs (gap - at)) rest in
    let parts = place_of-sum line at (gap - at) in omega arith

-- ---- gaps that rise

pub RiseUpTo-lower : (low from last : ℕ) (gaps : List ℕ) → low ≤ from → RiseUpTo from last gaps → RiseUpTo low last gaps
RiseUpTo-lower low from last [] le rise = tt
RiseUpTo-lower low from last (gap ∷ gaps) le rise = let up = rise.0 in (omega arith, rise.1, rise.2)

-- the gaps from an index on
pub gaps-step : (i : ℕ) (gaps : List ℕ) (d : ℕ) → i < length gaps → drop i gaps ≡ get_or gaps i d ∷ drop (i + 1) gaps
gaps-step i gaps d inside = from_suc i gaps inside ∙ ap (λ (n : ℕ). get_or gaps i d ∷ drop n gaps) (let next : suc i ≡ i + 1 = omega arith in next)
  where
    from_suc : (i : ℕ) (gaps : List ℕ) → i < length gaps → drop i gaps ≡ get_or gaps i d ∷ drop (suc i) gaps
    from_suc i [] inside = absurd (omega arith)
    from_suc zero (gap ∷ gaps) inside = refl
    from_suc (suc i) (gap ∷ gaps) inside = from_suc i gaps (omega arith)

pub rise-step : (from last i : ℕ) (gaps : List ℕ) (d : ℕ) → i < length gaps → RiseUpTo from last (drop i gaps) →
    (from ≤ get_or gaps i d) × (get_or gaps i d ≤ last) × RiseUpTo (get_or gaps i d) last (drop (i + 1) gaps)
rise-step from last i gaps d inside rise = subst (RiseUpTo from last) (gaps-step i gaps d inside) rise
