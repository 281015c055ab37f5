-- Lemmas on what is played of a tape.
use Rattle.std.proofs.Common.{◌≡◌, ℕ, zero, suc, ◌-◌, ◌<◌, ◌⊎◌, inl, inr, Bool, true, false, List, [], ◌∷◌, ◌++◌, length, take, drop, map, refl, ap, sym, subst, ◌∙◌, append_assoc, append-nil, arith}
use Rattle.std.specs.Prelude.{if◌then◌else◌, ◌==◌, replicate, slice_range}
use Rattle.std.specs.List.{AllByRecursion, concat, flat_map}
use Rattle.std.proofs.lemmas.Grind.{flat_map-append}
use Rattle.std.proofs.lemmas.List.Folds.{concat-append}
use Rattle.plain_text.specs.InputLines.{ended_lines, unended, last_line, lines_of}
use Rattle.plain_text.proofs.callers.InputLemmas.{concat-ended_lines}
use Rattle.macro_record.specs.Played.{lacking_lf, with_lf, played_of}
use Rattle.macro_record.proofs.LineLemmas.{HasNoLf, EndsLine, is_lf, lines_of-line, unended-no_lf, with_lf-ended}

-- ---- what lines of an input are

-- bytes that LF ends, or some without LF
abbrev IsLine : List ℕ → Type 0
IsLine line = EndsLine line ⊎ (HasNoLf line × (0 < length line))

HasNoLf-push : (begun : List ℕ) (b : ℕ) → HasNoLf begun → (b == 10) ≡ false → HasNoLf (begun ++ b ∷ [])
HasNoLf-push [] b none other = (λ is. let ten = ap (λ c. c == 10) is in absurd cc, tt)
HasNoLf-push (c ∷ begun) b none other = (none.0, HasNoLf-push begun b none.1 other)

ended_step : (ends : Bool) (begun : List ℕ) (b : ℕ) (bytes : List ℕ) → (b == 10) ≡ ends → HasNoLf begun →
    AllByRecursion EndsLine (ended_lines [] bytes) →
    (HasNoLf (begun ++ b ∷ []) → AllByRecursion EndsLine (ended_lines (begun ++ b ∷ []) bytes)) →
    AllByRecursion EndsLine (if ends then (begun ++ b ∷ []) ∷ ended_lines [] bytes else ended_lines (begun ++ b ∷ []) bytes)
ended_step true begun b bytes is none rest more = ((begun, ap (λ c. begun ++ c ∷ []) (is_lf b is), none), rest)
ended_step false begun b bytes is none rest more = more (HasNoLf-push begun b none is)

ended_lines-are : (begun bytes : List ℕ) → HasNoLf begun → AllByRecursion EndsLine (ended_lines begun bytes)
ended_lines-are begun [] none = tt
ended_lines-are begun (b ∷ bytes) none =
    ended_step (b == 10) begun b bytes refl none (ended_lines-are [] bytes tt) (λ more. ended_lines-are (begun ++ b ∷ []) bytes more)

unended_step : (ends : Bool) (begun : List ℕ) (b : ℕ) (bytes : List ℕ) → (b == 10) ≡ ends → HasNoLf begun → HasNoLf (unended [] bytes) →
    (HasNoLf (begun ++ b ∷ []) → HasNoLf (unended (begun ++ b ∷ []) bytes)) →
    HasNoLf (if ends then unended [] bytes else unended (begun ++ b ∷ []) bytes)
unended_step true begun b bytes is none rest more = rest
unended_step false begun b bytes is none rest more = more (HasNoLf-push begun b none is)

unended-is : (begun bytes : List ℕ) → HasNoLf begun → HasNoLf (unended begun bytes)
unended-is begun [] none = none
unended-is begun (b ∷ bytes) none =
    unended_step (b == 10) begun b bytes refl none (unended-is [] bytes tt) (λ more. unended-is (begun ++ b ∷ []) bytes more)

each_ended : (lines : List (List ℕ)) → AllByRecursion EndsLine lines → AllByRecursion IsLine lines
each_ended [] ended = tt
each_ended (line ∷ lines) ended = (inl ended.0, each_ended lines ended.1)

last_line-is : (bytes : List ℕ) → HasNoLf bytes → AllByRecursion IsLine (last_line bytes)
last_line-is [] none = tt
last_line-is (b ∷ bytes) none = (inr (none, omega arith), tt)

each_append : {X : Type 0} (P : X → Type 0) (xs ys : List X) → AllByRecursion P xs → AllByRecursion P ys → AllByRecursion P (xs ++ ys)
each_append P [] ys first second = second
each_append P (x ∷ xs) ys first second = (first.0, each_append P xs ys first.1 second)

each_take : {X : Type 0} (P : X → Type 0) (n : ℕ) (xs : List X) → AllByRecursion P xs → AllByRecursion P (take n xs)
each_take P zero xs each = tt
each_take P (suc n) [] each = tt
each_take P (suc n) (x ∷ xs) each = (each.0, each_take P n xs each.1)

each_drop : {X : Type 0} (P : X → Type 0) (n : ℕ) (xs : List X) → AllByRecursion P xs → AllByRecursion P (drop n xs)
each_drop P zero xs each = each
each_drop P (suc n) [] each = tt
each_drop P (suc n) (x ∷ xs) each = each_drop P n xs each.1

lines-are : (bytes : List ℕ) → AllByRecursion IsLine (lines_of bytes)
lines-are bytes =
    each_append IsLine (ended_lines [] bytes) (last_line (unended [] bytes)) (each_ended (ended_lines [] bytes) (ended_lines-are [] bytes tt))
    (last_line-is (unended [] bytes) (unended-is [] bytes tt))

-- ---- lines with their LFs

lacking_lf-some : (bytes : List ℕ) → 0 < length bytes → lacking_lf bytes ≡ 10 ∷ []
lacking_lf-some [] some = absurd (omega (arith, some))
lacking_lf-some (b ∷ bytes) some = refl

with_lf-is : (line : List ℕ) → IsLine line → EndsLine (with_lf line)
with_lf-is line (inl (front, is, none)) =
    (front, subst (λ bytes. with_lf bytes ≡ bytes) (sym is) (with_lf-ended front) ∙ is, none)
with_lf-is line (inr (none, some)) =
    (line, ap (λ lf. line ++ lf) (ap lacking_lf (unended-no_lf [] line none) ∙ lacking_lf-some line some), none)

each_with_lf : (lines : List (List ℕ)) → AllByRecursion IsLine lines → AllByRecursion EndsLine (map with_lf lines)
each_with_lf [] each = tt
each_with_lf (line ∷ lines) each = (with_lf-is line each.0, each_with_lf lines each.1)

each_times : (lines : List (List ℕ)) (times : ℕ) → AllByRecursion EndsLine lines → AllByRecursion EndsLine (flat_map (λ x. x) (replicate times lines))
each_times lines zero each = tt
each_times lines (suc times) each = each_append EndsLine lines (flat_map (λ x. x) (replicate times lines)) each (each_times lines times each)

-- lines that LF ends are the lines of what they come to
lines_of-concat : (lines : List (List ℕ)) → AllByRecursion EndsLine lines → lines_of (concat lines) ≡ lines
lines_of-concat [] each = refl
lines_of-concat (line ∷ lines) each = lines_of-line line (concat lines) each.0 ∙ ap (λ rest. line ∷ rest) (lines_of-concat lines each.1)

concat-map : (f : List ℕ → List ℕ) (lines : List (List ℕ)) → concat (map f lines) ≡ flat_map f lines
concat-map f [] = refl
concat-map f (line ∷ lines) = ap (λ rest. f line ++ rest) (concat-map f lines)

concat-times : (lines : List (List ℕ)) (times : ℕ) →
    concat (replicate times (flat_map with_lf lines)) ≡ concat (flat_map (λ x. x) (replicate times (map with_lf lines)))
concat-times lines zero = refl
concat-times lines (suc times) =
    ap (λ rest. flat_map with_lf lines ++ rest) (concat-times lines times) ∙
    ap (λ first. first ++ concat (flat_map (λ x. x) (replicate times (map with_lf lines)))) (sym (concat-map with_lf lines)) ∙
    sym (concat-append (map with_lf lines) (flat_map (λ x. x) (replicate times (map with_lf lines))))

pub lines_of-played : (tape : List ℕ) (from to times : ℕ) →
    lines_of (played_of tape from to times) ≡ flat_map (λ x. x) (replicate times (map with_lf (slice_range (lines_of tape) from to)))
lines_of-played tape from to times =
    let lines = slice_range (lines_of tape) from to in
    let each = each_take IsLine (to - from) (drop from (lines_of tape)) (each_drop IsLine from (lines_of tape) (lines-are tape)) in
    ap lines_of (concat-times lines times) ∙
    lines_of-concat (flat_map (λ x. x) (replicate times (map with_lf lines))) (each_times (map with_lf lines) times (each_with_lf lines each))

-- ---- all lines, once

flat_map-ended : (lines : List (List ℕ)) → AllByRecursion EndsLine lines → flat_map with_lf lines ≡ concat lines
flat_map-ended [] each = refl
flat_map-ended (line ∷ lines) each =
    let (front, is, none) = each.0 in
    ap (λ first. first ++ flat_map with_lf lines) (subst (λ bytes. with_lf bytes ≡ bytes) (sym is) (with_lf-ended front)) ∙
    ap (λ rest. line ++ rest) (flat_map-ended lines each.1)

flat_map-last : (bytes : List ℕ) → HasNoLf bytes → flat_map with_lf (last_line bytes) ≡ bytes ++ lacking_lf bytes
flat_map-last [] none = refl
flat_map-last (b ∷ bytes) none =
    append-nil (with_lf (b ∷ bytes)) ∙ ap (λ rest. (b ∷ bytes) ++ lacking_lf rest) (unended-no_lf [] (b ∷ bytes) none)

pub flat_map-lines_of : (tape : List ℕ) → flat_map with_lf (lines_of tape) ≡ with_lf tape
flat_map-lines_of tape =
    let ended = ended_lines [] tape in
    let rest = unended [] tape in
    flat_map-append with_lf ended (last_line rest) ∙
    ap (λ first. first ++ flat_map with_lf (last_line rest)) (flat_map-ended ended (ended_lines-are [] tape tt)) ∙
    ap (λ last. concat ended ++ last) (flat_map-last rest (unended-is [] tape tt)) ∙ sym (append_assoc (concat ended) rest (lacking_lf rest)) ∙
    ap (λ bytes. bytes ++ lacking_lf rest) (concat-ended_lines [] tape)

take-all : {X : Type 0} (xs : List X) → take (length xs) xs ≡ xs
take-all [] = refl
take-all (x ∷ xs) = ap (λ rest. x ∷ rest) (take-all xs)

slice-all : {X : Type 0} (xs : List X) → slice_range xs 0 (length xs) ≡ xs
slice-all xs = let all : length xs - 0 ≡ length xs = omega arith in ap (λ n. take n (drop 0 xs)) all ∙ take-all xs

pub played-all : (tape : List ℕ) → played_of tape 0 (length (lines_of tape)) 1 ≡ with_lf tape
played-all tape =
    append-nil (flat_map with_lf (slice_range (lines_of tape) 0 (length (lines_of tape)))) ∙ ap (flat_map with_lf) (slice-all (lines_of tape)) ∙
    flat_map-lines_of tape
