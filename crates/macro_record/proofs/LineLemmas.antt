-- Lemmas on the first line of an input, and on LFs at the ends of lines.
use Rattle.std.proofs.Common.{◌≡◌, ℕ, zero, suc, ◌+◌, ◌<◌, true, false, List, [], ◌∷◌, ◌++◌, length, take, drop, refl, ap, sym, subst, ◌∙◌, append_assoc, append-nil, arith}
use Rattle.std.specs.Prelude.{if◌then◌else◌, ◌==◌}
use Rattle.std.specs.List.{AllByRecursion}
use Rattle.std.proofs.lemmas.Bool.Decides.{nat_tests}
use Rattle.std.proofs.lemmas.List.{take-append-drop}
use Rattle.plain_text.specs.InputLines.{ended_lines, unended, last_line, lines_of}
use Rattle.plain_text.proofs.callers.InputLemmas.{unended-append}
use Rattle.memchr.specs.Find.{Nowhere, Passes, is_byte}
use Rattle.macro_record.specs.Played.{lacking_lf, with_lf}

-- no byte is an LF
abbrev pub HasNoLf : List ℕ → Type 0
HasNoLf bytes = AllByRecursion (λ b. b ≡ 10 → ⊥) bytes

-- bytes of which the last is their only LF
abbrev pub EndsLine : List ℕ → Type 0
EndsLine bytes = (front : List ℕ) × (bytes ≡ front ++ 10 ∷ []) × HasNoLf front

other_byte : (b : ℕ) → (b ≡ 10 → ⊥) → (b == 10) ≡ false
other_byte b differs = grind (arith, nat_tests)

-- ---- the first line

ended_lines-cut : (begun front later : List ℕ) → HasNoLf front →
    ended_lines begun ((front ++ 10 ∷ []) ++ later) ≡ (begun ++ (front ++ 10 ∷ [])) ∷ ended_lines [] later
ended_lines-cut begun [] later none = refl
ended_lines-cut begun (b ∷ front) later none =
    ap (λ ends. if ends then (begun ++ b ∷ []) ∷ ended_lines [] ((front ++ 10 ∷ []) ++ later) else ended_lines (begun ++ b ∷ []) ((front ++ 10 ∷ []) ++ later))
    (other_byte b none.0) ∙
    ended_lines-cut (begun ++ b ∷ []) front later none.1 ∙
    ap (λ line. line ∷ ended_lines [] later) (append_assoc begun (b ∷ []) (front ++ 10 ∷ []))

unended-cut : (begun front later : List ℕ) → HasNoLf front → unended begun ((front ++ 10 ∷ []) ++ later) ≡ unended [] later
unended-cut begun [] later none = refl
unended-cut begun (b ∷ front) later none =
    ap (λ ends. if ends then unended [] ((front ++ 10 ∷ []) ++ later) else unended (begun ++ b ∷ []) ((front ++ 10 ∷ []) ++ later)) (other_byte b none.0) ∙
    unended-cut (begun ++ b ∷ []) front later none.1

-- an input whose first line LF ends
pub lines_of-line : (line later : List ℕ) → EndsLine line → lines_of (line ++ later) ≡ line ∷ lines_of later
lines_of-line line later (front, is, none) =
    let At : List ℕ → Type 0 = λ bytes. lines_of (bytes ++ later) ≡ bytes ∷ lines_of later in
    subst At (sym is)
    (ap (λ lines. lines ++ last_line (unended [] ((front ++ 10 ∷ []) ++ later))) (ended_lines-cut [] front later none) ∙
    ap (λ rest. (front ++ 10 ∷ []) ∷ (ended_lines [] later ++ last_line rest)) (unended-cut [] front later none))

ended_lines-no_lf : (begun bytes : List ℕ) → HasNoLf bytes → ended_lines begun bytes ≡ []
ended_lines-no_lf begun [] none = refl
ended_lines-no_lf begun (b ∷ bytes) none =
    ap (λ ends. if ends then (begun ++ b ∷ []) ∷ ended_lines [] bytes else ended_lines (begun ++ b ∷ []) bytes) (other_byte b none.0) ∙
    ended_lines-no_lf (begun ++ b ∷ []) bytes none.1

pub unended-no_lf : (begun bytes : List ℕ) → HasNoLf bytes → unended begun bytes ≡ begun ++ bytes
unended-no_lf begun [] none = sym (append-nil begun)
unended-no_lf begun (b ∷ bytes) none =
    ap (λ ends. if ends then unended [] bytes else unended (begun ++ b ∷ []) bytes) (other_byte b none.0) ∙
    unended-no_lf (begun ++ b ∷ []) bytes none.1 ∙ append_assoc begun (b ∷ []) bytes

last_line-some : (bytes : List ℕ) → 0 < length bytes → last_line bytes ≡ bytes ∷ []
last_line-some [] some = absurd (omega (arith, some))
last_line-some (b ∷ bytes) some = refl

-- an input of one line, which LF does not end
pub lines_of-last : (bytes : List ℕ) → 0 < length bytes → HasNoLf bytes → lines_of bytes ≡ bytes ∷ []
lines_of-last bytes some none =
    ap (λ lines. lines ++ last_line (unended [] bytes)) (ended_lines-no_lf [] bytes none) ∙ ap last_line (unended-no_lf [] bytes none) ∙ last_line-some bytes some

-- ---- where a search finds the LF

pub is_lf : (b : ℕ) → (b == 10) ≡ true → b ≡ 10
is_lf b is = grind (arith, nat_tests)

lf_is : (b : ℕ) → b ≡ 10 → (b == 10) ≡ true
lf_is b is = grind (arith, nat_tests)

pub no_lf_found : (hay : List ℕ) → Nowhere (Passes (is_byte 10) hay) 0 (length hay) → HasNoLf hay
no_lf_found [] none = tt
no_lf_found (b ∷ hay) none =
    (λ is. none 0 (omega arith) (omega arith) (lf_is b is), no_lf_found hay (λ k low high. none (suc k) (omega arith) (omega (arith, high))))

pub lf_found : (hay : List ℕ) (at : ℕ) → at < length hay → Nowhere (Passes (is_byte 10) hay) 0 at → Passes (is_byte 10) hay at →
    EndsLine (take (at + 1) hay)
lf_found [] at within none here = absurd (omega (arith, within))
lf_found (b ∷ hay) zero within none here = ([], ap (λ x. x ∷ []) (is_lf b here), tt)
lf_found (b ∷ hay) (suc at) within none here =
    let later = lf_found hay at (omega (arith, within)) (λ k low high. none (suc k) (omega arith) (omega (arith, high))) here in
    let less : suc at + 1 ≡ suc (at + 1) = omega arith in
    (b ∷ later.0, ap (λ n. take n (b ∷ hay)) less ∙ ap (λ x. b ∷ x) later.1, (λ is. none 0 (omega arith) (omega arith) (lf_is b is), later.2))

-- ---- LFs at the ends of lines

-- what stands after the last LF of bytes and one more
unended-push : (front : List ℕ) (b : ℕ) → unended [] (front ++ b ∷ []) ≡ (if b == 10 then [] else unended [] front ++ b ∷ [])
unended-push front b = unended-append [] front (b ∷ [])

lacking_lf-push : (front : List ℕ) (b : ℕ) → lacking_lf (front ++ b ∷ []) ≡ 10 ∷ []
lacking_lf-push [] b = refl
lacking_lf-push (c ∷ front) b = refl

-- bytes that end with LF, and bytes that do not
pub with_lf-ended : (front : List ℕ) → with_lf (front ++ 10 ∷ []) ≡ front ++ 10 ∷ []
with_lf-ended front =
    ap (λ rest. (front ++ 10 ∷ []) ++ lacking_lf rest) (unended-push front 10) ∙ append-nil (front ++ 10 ∷ [])

pub with_lf-lacking : (front : List ℕ) (b : ℕ) → (b == 10) ≡ false → with_lf (front ++ b ∷ []) ≡ (front ++ b ∷ []) ++ 10 ∷ []
with_lf-lacking front b other =
    ap (λ rest. (front ++ b ∷ []) ++ lacking_lf rest)
    (unended-push front b ∙ ap (λ ends. if ends then [] else unended [] front ++ b ∷ []) other) ∙
    ap (λ lf. (front ++ b ∷ []) ++ lf) (lacking_lf-push (unended [] front) b)

-- ---- the first line, cut off

take-drop-all : (bytes : List ℕ) → (take (length bytes) bytes ≡ bytes) × (drop (length bytes) bytes ≡ [])
take-drop-all [] = (refl, refl)
take-drop-all (b ∷ bytes) = (ap (λ rest. b ∷ rest) (take-drop-all bytes).0, (take-drop-all bytes).1)

pub lines_of-only : (bytes line later : List ℕ) → 0 < length bytes → HasNoLf bytes → line ≡ take (length bytes) bytes → later ≡ drop (length bytes) bytes →
    lines_of bytes ≡ line ∷ lines_of later
lines_of-only bytes line later some none front back =
    let all = take-drop-all bytes in
    lines_of-last bytes some none ∙ ap (λ first. first ∷ []) (sym (front ∙ all.0)) ∙ ap (λ rest. line ∷ lines_of rest) (sym (back ∙ all.1))

pub lines_of-first : (bytes line later : List ℕ) (count : ℕ) → EndsLine (take count bytes) → line ≡ take count bytes → later ≡ drop count bytes →
    lines_of bytes ≡ line ∷ lines_of later
lines_of-first bytes line later count ends front back =
    ap lines_of (sym (take-append-drop count bytes)) ∙ lines_of-line (take count bytes) (drop count bytes) ends ∙
    ap (λ first. first ∷ lines_of (drop count bytes)) (sym front) ∙ ap (λ rest. line ∷ lines_of rest) (sym back)

-- ---- a line put behind others

pub pushed_ended : (made old line front : List ℕ) (last : ℕ) → line ≡ front ++ last ∷ [] → last ≡ 10 → made ≡ old ++ line → made ≡ old ++ with_lf line
pushed_ended made old line front last is ten pushed =
    let At : List ℕ → Type 0 = λ bytes. bytes ≡ with_lf bytes in
    pushed ∙ ap (λ bytes. old ++ bytes) (subst At (sym (is ∙ ap (λ b. front ++ b ∷ []) ten)) (sym (with_lf-ended front)))

pub pushed_lacking : (made first old line front : List ℕ) (last : ℕ) → line ≡ front ++ last ∷ [] → (last ≡ 10 → ⊥) → first ≡ old ++ line →
    made ≡ first ++ 10 ∷ [] → made ≡ old ++ with_lf line
pushed_lacking made first old line front last is other begun pushed =
    let At : List ℕ → Type 0 = λ bytes. bytes ++ 10 ∷ [] ≡ with_lf bytes in
    pushed ∙ ap (λ bytes. bytes ++ 10 ∷ []) begun ∙ append_assoc old line (10 ∷ []) ∙
    ap (λ bytes. old ++ bytes) (subst At (sym is) (sym (with_lf-lacking front last (other_byte last other))))
