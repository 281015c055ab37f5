-- Lemmas on the lines of what was taken, and of what may come after it.
use Rattle.std.proofs.Common.{◌≡◌, ℕ, zero, suc, ◌+◌, ◌<◌, true, false, List, [], ◌∷◌, ◌++◌, length, take, refl, ap, sym, ◌∙◌, append_assoc, append-nil, arith}
use Rattle.std.specs.Prelude.{if◌then◌else◌, ◌==◌}
use Rattle.std.specs.List.{concat}
use Rattle.std.proofs.lemmas.Bool.Decides.{nat_tests}
use Rattle.plain_text.specs.InputLines.{ended_lines, unended, last_line, lines_of}
use Rattle.plain_text.proofs.callers.InputLemmas.{ended_lines-append, unended-append, concat-ended_lines}
use Rattle.memchr.specs.Find.{Nowhere, Passes, is_byte}
use Rattle.xi_top.specs.InnerRun.{EndsLine, HasNoEnd}

-- bytes without LF end no line
ends_none : (b : ℕ) → (b ≡ 10 → ⊥) → (b == 10) ≡ false
ends_none b differs = grind (arith, nat_tests)

pub ended_lines-no_end : (begun bytes : List ℕ) → HasNoEnd bytes → ended_lines begun bytes ≡ []
ended_lines-no_end begun [] none = refl
ended_lines-no_end begun (b ∷ bytes) none =
    ap (λ ends. if ends then (begun ++ b ∷ []) ∷ ended_lines [] bytes else ended_lines (begun ++ b ∷ []) bytes) (ends_none b none.0) ∙
    ended_lines-no_end (begun ++ b ∷ []) bytes none.1

pub unended-no_end : (begun bytes : List ℕ) → HasNoEnd bytes → unended begun bytes ≡ begun ++ bytes
unended-no_end begun [] none = sym (append-nil begun)
unended-no_end begun (b ∷ bytes) none =
    ap (λ ends. if ends then unended [] bytes else unended (begun ++ b ∷ []) bytes) (ends_none b none.0) ∙
    unended-no_end (begun ++ b ∷ []) bytes none.1 ∙ append_assoc begun (b ∷ []) bytes

-- a line's bytes end one line
pub ended_lines-line : (begun bytes : List ℕ) → EndsLine bytes → ended_lines begun bytes ≡ (begun ++ bytes) ∷ []
ended_lines-line begun bytes (front, is, none) =
    ap (ended_lines begun) is ∙ ended_lines-append begun front (10 ∷ []) ∙
    ap (λ lines. lines ++ ended_lines (unended begun front) (10 ∷ [])) (ended_lines-no_end begun front none) ∙
    ap (λ rest. (rest ++ 10 ∷ []) ∷ []) (unended-no_end begun front none) ∙
    ap (λ line. line ∷ []) (append_assoc begun front (10 ∷ []) ∙ ap (λ b. begun ++ b) (sym is))

pub unended-line : (begun bytes : List ℕ) → EndsLine bytes → unended begun bytes ≡ []
unended-line begun bytes (front, is, none) = ap (unended begun) is ∙ unended-append begun front (10 ∷ [])

-- what was taken, and a line more
pub ended_lines-more : (taken bytes : List ℕ) → EndsLine bytes →
    ended_lines [] (taken ++ bytes) ≡ ended_lines [] taken ++ (unended [] taken ++ bytes) ∷ []
ended_lines-more taken bytes ends =
    ended_lines-append [] taken bytes ∙ ap (λ lines. ended_lines [] taken ++ lines) (ended_lines-line (unended [] taken) bytes ends)

pub unended-more : (taken bytes : List ℕ) → EndsLine bytes → unended [] (taken ++ bytes) ≡ []
unended-more taken bytes ends = unended-append [] taken bytes ∙ unended-line (unended [] taken) bytes ends

-- what was taken, and bytes that end no line
pub ended_lines-begin : (taken bytes : List ℕ) → HasNoEnd bytes → ended_lines [] (taken ++ bytes) ≡ ended_lines [] taken
ended_lines-begin taken bytes none =
    ended_lines-append [] taken bytes ∙ ap (λ lines. ended_lines [] taken ++ lines) (ended_lines-no_end (unended [] taken) bytes none) ∙
    append-nil (ended_lines [] taken)

pub unended-begin : (taken bytes : List ℕ) → HasNoEnd bytes → unended [] (taken ++ bytes) ≡ unended [] taken ++ bytes
unended-begin taken bytes none = unended-append [] taken bytes ∙ unended-no_end (unended [] taken) bytes none

-- the lines that were ended are the first ones, whatever comes
pub lines_of-first : (front more : List ℕ) →
    lines_of (front ++ more) ≡ ended_lines [] front ++ (ended_lines (unended [] front) more ++ last_line (unended [] (front ++ more)))
lines_of-first front more =
    ap (λ lines. lines ++ last_line (unended [] (front ++ more))) (ended_lines-append [] front more) ∙
    append_assoc (ended_lines [] front) (ended_lines (unended [] front) more) (last_line (unended [] (front ++ more)))

-- and all their bytes are there
pub concat-first : (front extra : List ℕ) → front ++ extra ≡ concat (ended_lines [] front) ++ (unended [] front ++ extra)
concat-first front extra =
    ap (λ bytes. bytes ++ extra) (sym (concat-ended_lines [] front)) ∙ append_assoc (concat (ended_lines [] front)) (unended [] front) extra

-- ---- where a search finds the LF

is_lf : (b : ℕ) → (b == 10) ≡ true → b ≡ 10
is_lf b is = grind (arith, nat_tests)

lf_is : (b : ℕ) → b ≡ 10 → (b == 10) ≡ true
lf_is b is = grind (arith, nat_tests)

pub none_found : (hay : List ℕ) → Nowhere (Passes (is_byte 10) hay) 0 (length hay) → HasNoEnd hay
none_found [] none = tt
none_found (b ∷ hay) none =
    (λ is. none 0 (omega arith) (omega arith) (lf_is b is), none_found hay (λ k low high. none (suc k) (omega arith) (omega (arith, high))))

pub line_found : (hay : List ℕ) (at : ℕ) → at < length hay → Nowhere (Passes (is_byte 10) hay) 0 at → Passes (is_byte 10) hay at →
    EndsLine (take (at + 1) hay)
line_found [] at within none here = absurd (omega (arith, within))
line_found (b ∷ hay) zero within none here = ([], ap (λ x. x ∷ []) (is_lf b here), tt)
line_found (b ∷ hay) (suc at) within none here =
    let later = line_found hay at (omega (arith, within)) (λ k low high. none (suc k) (omega arith) (omega (arith, high))) here in
    let less : suc at + 1 ≡ suc (at + 1) = omega arith in
    (b ∷ later.0, ap (λ n. take n (b ∷ hay)) less ∙ ap (λ x. b ∷ x) later.1, (λ is. none 0 (omega arith) (omega arith) (lf_is b is), later.2))
