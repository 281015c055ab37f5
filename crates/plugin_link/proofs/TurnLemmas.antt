-- Lemmas on turns of bytes.
use Rattle.std.proofs.Common.{◌≡◌, ◌≢◌, ℕ, Bool, true, false, List, [], ◌∷◌, ◌++◌, length, map, refl, ap, sym, subst, ◌∙◌, append_assoc, append-nil, arith}
use Rattle.std.specs.Prelude.{if◌then◌else◌, ◌==◌}
use Rattle.std.specs.List.{AllByRecursion, concat, flat_map}
use Rattle.std.proofs.lemmas.Bool.Decides.{nat_tests}
use Rattle.std.proofs.lemmas.Grind.{flat_map-append}
use Rattle.std.proofs.lemmas.List.{append_cancel_left}
use Rattle.plain_text.specs.InputLines.{ended_lines, unended}
use Rattle.plain_text.proofs.callers.InputLemmas.{concat-ended_lines}
use Rattle.plugin_link.specs.Turns.{HasNoLf, IsLine, lined, framed, before_lf, whole_lines, turns_of, open_of, turns, rest_of}

other_byte : (b : ℕ) → b ≢ 10 → (b == 10) ≡ false
other_byte b differs = grind (arith, nat_tests)

is_lf : (b : ℕ) → (b == 10) ≡ true → b ≡ 10
is_lf b is = grind (arith, nat_tests)

-- ---- the first line

ended_lines-cut : (begun front later : List ℕ) → HasNoLf front →
    ended_lines begun ((front ++ 10 ∷ []) ++ later) ≡ (begun ++ (front ++ 10 ∷ [])) ∷ ended_lines [] later
ended_lines-cut begun [] later none = refl
ended_lines-cut begun (b ∷ front) later none =
    ap (λ ends. if ends then (begun ++ b ∷ []) ∷ ended_lines [] ((front ++ 10 ∷ []) ++ later) else ended_lines (begun ++ b ∷ []) ((front ++ 10 ∷ []) ++ later))
    (other_byte b none.0) ∙
    ended_lines-cut (begun ++ b ∷ []) front later none.1 ∙
    ap (λ line. line ∷ ended_lines [] later) (append_assoc begun (b ∷ []) (front ++ 10 ∷ []))

before_lf-line : (line : List ℕ) → HasNoLf line → before_lf (line ++ 10 ∷ []) ≡ line
before_lf-line [] none = refl
before_lf-line (b ∷ line) none =
    ap (λ ends. if ends then [] else b ∷ before_lf (line ++ 10 ∷ [])) (other_byte b none.0) ∙ ap (λ rest. b ∷ rest) (before_lf-line line none.1)

whole_lines-line : (line later : List ℕ) → HasNoLf line → whole_lines ((line ++ 10 ∷ []) ++ later) ≡ line ∷ whole_lines later
whole_lines-line line later none =
    ap (map before_lf) (ended_lines-cut [] line later none) ∙ ap (λ first. first ∷ whole_lines later) (before_lf-line line none)

-- ---- lines with their LFs are the first turn

pub framed-next : (line : List ℕ) (lines : List (List ℕ)) → framed (line ∷ lines) ≡ (line ++ 10 ∷ []) ++ framed lines
framed-next line lines = append_assoc (line ++ 10 ∷ []) (lined lines) (10 ∷ [])

whole_lines-framed : (lines : List (List ℕ)) (rest : List ℕ) → AllByRecursion IsLine lines →
    whole_lines (framed lines ++ rest) ≡ lines ++ ([] ∷ whole_lines rest)
whole_lines-framed [] rest each = refl
whole_lines-framed (line ∷ lines) rest each =
    ap whole_lines (ap (λ bytes. bytes ++ rest) (framed-next line lines) ∙ append_assoc (line ++ 10 ∷ []) (framed lines) rest) ∙
    whole_lines-line line (framed lines ++ rest) each.0.1 ∙ ap (λ later. line ∷ later) (whole_lines-framed lines rest each.1)

turns_of-lines : (begun lines more : List (List ℕ)) → AllByRecursion IsLine lines →
    turns_of begun (lines ++ ([] ∷ more)) ≡ (begun ++ lines) ∷ turns_of [] more
turns_of-lines begun [] more each = ap (λ first. first ∷ turns_of [] more) (sym (append-nil begun))
turns_of-lines begun ([] ∷ lines) more each = absurd (each.0.0 refl)
turns_of-lines begun ((b ∷ line) ∷ lines) more each =
    turns_of-lines (begun ++ (b ∷ line) ∷ []) lines more each.1 ∙
    ap (λ first. first ∷ turns_of [] more) (append_assoc begun ((b ∷ line) ∷ []) lines)

pub turns-first : (lines : List (List ℕ)) (rest : List ℕ) → AllByRecursion IsLine lines → turns (framed lines ++ rest) ≡ lines ∷ turns rest
turns-first lines rest each =
    ap (turns_of []) (whole_lines-framed lines rest each) ∙ turns_of-lines [] lines (whole_lines rest) each

turns-many : (all : List (List (List ℕ))) (rest : List ℕ) → AllByRecursion (AllByRecursion IsLine) all →
    turns (flat_map framed all ++ rest) ≡ all ++ turns rest
turns-many [] rest each = refl
turns-many (turn ∷ all) rest each =
    ap turns (append_assoc (framed turn) (flat_map framed all) rest) ∙ turns-first turn (flat_map framed all ++ rest) each.0 ∙
    ap (λ later. turn ∷ later) (turns-many all rest each.1)

-- ---- turns are joined

turns_of-joined : (begun lines : List (List ℕ)) →
    flat_map framed (turns_of begun lines) ++ lined (open_of begun lines) ≡ lined begun ++ lined lines
turns_of-joined begun [] = sym (append-nil (lined begun))
turns_of-joined begun ([] ∷ lines) =
    append_assoc (framed begun) (flat_map framed (turns_of [] lines)) (lined (open_of [] lines)) ∙
    ap (λ rest. framed begun ++ rest) (turns_of-joined [] lines) ∙ append_assoc (lined begun) (10 ∷ []) (lined lines)
turns_of-joined begun ((b ∷ line) ∷ lines) =
    let with : List ℕ → List ℕ = λ bytes. bytes ++ 10 ∷ [] in
    turns_of-joined (begun ++ (b ∷ line) ∷ []) lines ∙ ap (λ first. first ++ lined lines) (flat_map-append with begun ((b ∷ line) ∷ [])) ∙
    append_assoc (lined begun) (lined ((b ∷ line) ∷ [])) (lined lines) ∙
    ap (λ rest. lined begun ++ rest) (sym (flat_map-append with ((b ∷ line) ∷ []) lines))

-- bytes of which the last is their only LF
abbrev EndsLine : List ℕ → Type 0
EndsLine bytes = (front : List ℕ) × (bytes ≡ front ++ 10 ∷ []) × HasNoLf front

HasNoLf-push : (begun : List ℕ) (b : ℕ) → HasNoLf begun → (b == 10) ≡ false → HasNoLf (begun ++ b ∷ [])
HasNoLf-push [] b none other = (λ is. let ten = ap (λ c. c == 10) is in absurd cc, tt)
HasNoLf-push (c ∷ begun) b none other = (none.0, HasNoLf-push begun b none.1 other)

ended_step : (ends : Bool) (begun : List ℕ) (b : ℕ) (bytes : List ℕ) → (b == 10) ≡ ends → HasNoLf begun →
    AllByRecursion EndsLine (ended_lines [] bytes) →
    (HasNoLf (begun ++ b ∷ []) → AllByRecursion EndsLine (ended_lines (begun ++ b ∷ []) bytes)) →
    AllByRecursion EndsLine (if ends then (begun ++ b ∷ []) ∷ ended_lines [] bytes else ended_lines (begun ++ b ∷ []) bytes)
ended_step true begun b bytes is none rest more = ((begun, ap (λ c. begun ++ c ∷ []) (is_lf b is), none), rest)
ended_step false begun b bytes is none rest more = more (HasNoLf-push begun b none is)

ended_lines-are : (begun bytes : List ℕ) → HasNoLf begun → AllByRecursion EndsLine (ended_lines begun bytes)
ended_lines-are begun [] none = tt
ended_lines-are begun (b ∷ bytes) none =
    ended_step (b == 10) begun b bytes refl none (ended_lines-are [] bytes tt) (λ more. ended_lines-are (begun ++ b ∷ []) bytes more)

lined-whole : (lines : List (List ℕ)) → AllByRecursion EndsLine lines → lined (map before_lf lines) ≡ concat lines
lined-whole [] each = refl
lined-whole (line ∷ lines) each =
    let (front, is, none) = each.0 in
    let At : List ℕ → Type 0 = λ bytes. before_lf bytes ++ 10 ∷ [] ≡ bytes in
    ap (λ first. first ++ lined (map before_lf lines)) (subst At (sym is) (ap (λ bytes. bytes ++ 10 ∷ []) (before_lf-line front none))) ∙
    ap (λ rest. line ++ rest) (lined-whole lines each.1)

whole-are : (lines : List (List ℕ)) → AllByRecursion EndsLine lines → AllByRecursion HasNoLf (map before_lf lines)
whole-are [] each = tt
whole-are (line ∷ lines) each =
    let (front, is, none) = each.0 in
    let At : List ℕ → Type 0 = λ bytes. HasNoLf (before_lf bytes) in
    (subst At (sym is) (subst HasNoLf (sym (before_lf-line front none)) none), whole-are lines each.1)

some_byte : (b : ℕ) (line : List ℕ) → (b ∷ line) ≢ []
some_byte b line is = let longer = ap length is in absurd (omega (arith, longer))

push-line : (begun : List (List ℕ)) (line : List ℕ) → AllByRecursion IsLine begun → IsLine line → AllByRecursion IsLine (begun ++ line ∷ [])
push-line [] line each is = (is, tt)
push-line (first ∷ begun) line each is = (each.0, push-line begun line each.1 is)

turns_of-are : (begun lines : List (List ℕ)) → AllByRecursion IsLine begun → AllByRecursion HasNoLf lines →
    AllByRecursion (AllByRecursion IsLine) (turns_of begun lines)
turns_of-are begun [] are none = tt
turns_of-are begun ([] ∷ lines) are none = (are, turns_of-are [] lines tt none.1)
turns_of-are begun ((b ∷ line) ∷ lines) are none =
    turns_of-are (begun ++ (b ∷ line) ∷ []) lines (push-line begun (b ∷ line) are (some_byte b line, none.0)) none.1

pub turns-are : (bytes : List ℕ) → AllByRecursion (AllByRecursion IsLine) (turns bytes)
turns-are bytes = turns_of-are [] (whole_lines bytes) tt (whole-are (ended_lines [] bytes) (ended_lines-are [] bytes tt))

pub turns-joined : (bytes : List ℕ) → flat_map framed (turns bytes) ++ rest_of bytes ≡ bytes
turns-joined bytes =
    let rest = unended [] bytes in
    sym (append_assoc (flat_map framed (turns bytes)) (lined (open_of [] (whole_lines bytes))) rest) ∙
    ap (λ first. first ++ rest) (turns_of-joined [] (whole_lines bytes)) ∙
    ap (λ first. first ++ rest) (lined-whole (ended_lines [] bytes) (ended_lines-are [] bytes tt)) ∙ concat-ended_lines [] bytes

pub turns-append : (front back : List ℕ) → turns (front ++ back) ≡ turns front ++ turns (rest_of front ++ back)
turns-append front back =
    ap turns (ap (λ bytes. bytes ++ back) (sym (turns-joined front)) ∙ append_assoc (flat_map framed (turns front)) (rest_of front) back) ∙
    turns-many (turns front) (rest_of front ++ back) (turns-are front)

pub turns-rest : (bytes : List ℕ) → turns (rest_of bytes) ≡ []
turns-rest bytes =
    let again : turns bytes ≡ turns bytes ++ turns (rest_of bytes) =
    ap turns (sym (turns-joined bytes)) ∙ turns-many (turns bytes) (rest_of bytes) (turns-are bytes) in
    append_cancel_left (turns bytes) (turns (rest_of bytes)) [] (sym again ∙ sym (append-nil (turns bytes)))
