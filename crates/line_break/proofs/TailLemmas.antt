-- Lemmas on the end of a text: what stands before its LF and its trailing blanks.
use Rattle.std.proofs.Common.{◌≡◌, ◌⊎◌, inl, inr, ℕ, ◌+◌, ◌-◌, ◌<◌, ◌≤◌, ◌==◌, ◌||◌, Bool, true, false, cond, List, [], ◌∷◌, ◌++◌, length, reverse, refl, sym, ap, ap₂, subst, ◌∙◌, arith, length-append}
use Rattle.std.specs.List.{prefix_len}
use Rattle.std.proofs.lemmas.List.{reverse-append, reverse-reverse, length-reverse}
use Rattle.std.proofs.lemmas.List.Sums.{prefix_len-le-length}
use Rattle.std.proofs.lemmas.Bool.{cases_Bool as bool_cases, eqb-true}
use Rattle.std.proofs.lemmas.Bool.Decides.{nat_tests}
use Rattle.line_break.specs.Breaks.{is_space_or_tab, is_breaking, past_return, past_line_end, past_blanks, shown_len}
use Rattle.line_break.specs.Inner.{solid_len, ended_len, breaks_first}

-- ---- characters that are read from the back

past_blanks-blank : (c : ℕ) (text : List ℕ) → is_space_or_tab c ≡ true → past_blanks (c ∷ text) ≡ past_blanks text
past_blanks-blank c text blank =
    let same : length (c ∷ text) - (1 + prefix_len is_space_or_tab text) ≡ past_blanks text = omega (arith, prefix_len-le-length is_space_or_tab text) in
    ap (λ b. length (c ∷ text) - cond b (1 + prefix_len is_space_or_tab text) 0) blank ∙ same

past_blanks-solid : (c : ℕ) (text : List ℕ) → is_space_or_tab c ≡ false → past_blanks (c ∷ text) ≡ length text + 1
past_blanks-solid c text solid =
    let same : length (c ∷ text) - 0 ≡ length text + 1 = omega arith in
    ap (λ b. length (c ∷ text) - cond b (1 + prefix_len is_space_or_tab text) 0) solid ∙ same

past_blanks-none : (front back : List ℕ) → past_blanks front ≡ 0 → past_blanks (front ++ back) ≡ past_blanks back
past_blanks-none [] back none = refl
past_blanks-none (c ∷ front) back none = by (past_blanks-none front back) (bool_cases (is_space_or_tab c))
  where
    by : (past_blanks front ≡ 0 → past_blanks (front ++ back) ≡ past_blanks back) → (is_space_or_tab c ≡ true) ⊎ (is_space_or_tab c ≡ false) →
        past_blanks (c ∷ front ++ back) ≡ past_blanks back
    by rest (inl blank) = past_blanks-blank c (front ++ back) blank ∙ rest (sym (past_blanks-blank c front blank) ∙ none)
    by rest (inr solid) = let some = past_blanks-solid c front solid in absurd (omega arith)

past_blanks-some : (front back : List ℕ) → 0 < past_blanks front → past_blanks (front ++ back) ≡ length back + past_blanks front
past_blanks-some [] back some = absurd (omega arith)
past_blanks-some (c ∷ front) back some = by (past_blanks-some front back) (bool_cases (is_space_or_tab c))
  where
    by : (0 < past_blanks front → past_blanks (front ++ back) ≡ length back + past_blanks front) → (is_space_or_tab c ≡ true) ⊎ (is_space_or_tab c ≡ false) →
        past_blanks (c ∷ front ++ back) ≡ length back + past_blanks (c ∷ front)
    by rest (inl blank) =
        let own = past_blanks-blank c front blank in
        past_blanks-blank c (front ++ back) blank ∙ rest (subst (λ n. 0 < n) own some) ∙ ap (λ n. length back + n) (sym own)
    by rest (inr solid) =
        let own = past_blanks-solid c front solid in
        let all = past_blanks-solid c (front ++ back) solid in
        omega (arith, length-append front back)

-- the first is no lone LF before a CR
abbrev ReadsApart : List ℕ → List ℕ → Type 0
ReadsApart front back = (rest : List ℕ) → front ≡ 10 ∷ [] → back ≡ 13 ∷ rest → ⊥

past_return-append : (front back : List ℕ) → 0 < length front → past_return (front ++ back) ≡ past_return front ++ back
past_return-append [] back some = absurd (omega arith)
past_return-append (c ∷ front) back some = by (c == 13)
  where
    by : (b : Bool) → cond b (front ++ back) (c ∷ front ++ back) ≡ cond b front (c ∷ front) ++ back
    by true = refl
    by false = refl

-- what is left past a CR is left as it is where no CR stands first
pub past_return-other : (text : List ℕ) → ((rest : List ℕ) → text ≡ 13 ∷ rest → ⊥) → past_return text ≡ text
past_return-other [] other = refl
past_return-other (c ∷ text) other = by (bool_cases (c == 13))
  where
    by : (c == 13 ≡ true) ⊎ (c == 13 ≡ false) → past_return (c ∷ text) ≡ c ∷ text
    by (inl return) = absurd (other text (ap (λ d. d ∷ text) (eqb-true c 13 return)))
    by (inr another) = ap (λ b. cond b text (c ∷ text)) another

past_line_end-append : (front back : List ℕ) → 0 < length front → ReadsApart front back → past_line_end (front ++ back) ≡ past_line_end front ++ back
past_line_end-append [] back some apart = absurd (omega arith)
past_line_end-append (c ∷ front) back some apart = by (bool_cases (c == 10)) front refl
  where
    by : (c == 10 ≡ true) ⊎ (c == 10 ≡ false) → (rest : List ℕ) → front ≡ rest → past_line_end (c ∷ rest ++ back) ≡ past_line_end (c ∷ rest) ++ back
    by (inr another) rest is =
        ap (λ b. cond b (past_return (rest ++ back)) (c ∷ rest ++ back)) another ∙
        sym (ap (λ b. cond b (past_return rest) (c ∷ rest) ++ back) another)
    by (inl feed) [] is =
        let lone : c ∷ front ≡ 10 ∷ [] = ap₂ (λ (d : ℕ) (ds : List ℕ). d ∷ ds) (eqb-true c 10 feed) is in
        ap (λ b. cond b (past_return back) (c ∷ back)) feed ∙ past_return-other back (λ rest return. apart rest lone return) ∙
        sym (ap (λ b. cond b [] (c ∷ []) ++ back) feed)
    by (inl feed) (d ∷ rest) is =
        ap (λ b. cond b (past_return (d ∷ rest ++ back)) (c ∷ d ∷ rest ++ back)) feed ∙
        past_return-append (d ∷ rest) back (omega arith) ∙
        sym (ap (λ b. cond b (past_return (d ∷ rest)) (c ∷ d ∷ rest) ++ back) feed)

past_return-le : (text : List ℕ) → length (past_return text) ≤ length text
past_return-le [] = omega arith
past_return-le (c ∷ text) = by (c == 13)
  where
    by : (b : Bool) → length (cond b text (c ∷ text)) ≤ length (c ∷ text)
    by true = omega arith
    by false = omega arith

feed_blank : (c : ℕ) → c == 10 ≡ true → is_space_or_tab c ≡ true → ⊥
feed_blank c feed blank = grind (arith, nat_tests)

-- without the line end there is no more
past_line_end-le : (text : List ℕ) → past_blanks (past_line_end text) ≤ past_blanks text
past_line_end-le [] = omega arith
past_line_end-le (c ∷ text) = by (bool_cases (c == 10)) (bool_cases (is_space_or_tab c))
  where
    by : (c == 10 ≡ true) ⊎ (c == 10 ≡ false) → (is_space_or_tab c ≡ true) ⊎ (is_space_or_tab c ≡ false) → past_blanks (past_line_end (c ∷ text)) ≤ past_blanks (c ∷ text)
    by (inl feed) (inl blank) = absurd (feed_blank c feed blank)
    by (inl feed) (inr solid) =
        rw feed (let own = past_blanks-solid c text solid in omega (arith, past_return-le text))
    by (inr other) both = rw other (omega arith)

-- where the first character is a blank it is no LF
past_line_end-blank : (text : List ℕ) → past_blanks text < length text → past_line_end text ≡ text
past_line_end-blank [] less = refl
past_line_end-blank (c ∷ text) less = by (bool_cases (c == 10)) (bool_cases (is_space_or_tab c))
  where
    by : (c == 10 ≡ true) ⊎ (c == 10 ≡ false) → (is_space_or_tab c ≡ true) ⊎ (is_space_or_tab c ≡ false) → past_line_end (c ∷ text) ≡ c ∷ text
    by (inr other) both = ap (λ b. cond b (past_return text) (c ∷ text)) other
    by (inl feed) (inr solid) = let own = past_blanks-solid c text solid in absurd (omega arith)
    by (inl feed) (inl blank) = absurd (feed_blank c feed blank)

-- ---- texts

pub solid_len-le : (text : List ℕ) → solid_len text ≤ length text
solid_len-le text = omega (arith, length-reverse text)

pub shown-le-solid : (text : List ℕ) → shown_len text ≤ solid_len text
shown-le-solid text = past_line_end-le (reverse text)

pub shown_is_solid : (text : List ℕ) → solid_len text < length text → shown_len text ≡ solid_len text
shown_is_solid text less = ap past_blanks (past_line_end-blank (reverse text) (omega (arith, length-reverse text)))

pub solid_len-none : (front back : List ℕ) → solid_len back ≡ 0 → solid_len (front ++ back) ≡ solid_len front
solid_len-none front back none = ap past_blanks (reverse-append front back) ∙ past_blanks-none (reverse back) (reverse front) none

pub solid_len-some : (front back : List ℕ) → 0 < solid_len back → solid_len (front ++ back) ≡ length front + solid_len back
solid_len-some front back some =
    ap past_blanks (reverse-append front back) ∙ past_blanks-some (reverse back) (reverse front) some ∙
    ap (λ n. n + solid_len back) (length-reverse front)

-- the back is no lone LF behind a CR
abbrev pub StandsApart : List ℕ → List ℕ → Type 0
StandsApart front back = (before : List ℕ) → front ≡ before ++ 13 ∷ [] → back ≡ 10 ∷ [] → ⊥

reads_apart : (front back : List ℕ) → StandsApart front back → ReadsApart (reverse back) (reverse front)
reads_apart front back apart rest feed return =
    apart (reverse rest) (sym (reverse-reverse front) ∙ ap reverse return ∙ reverse-append (13 ∷ []) rest)
    (sym (reverse-reverse back) ∙ ap reverse feed)

shown_apart : (front back : List ℕ) → 0 < shown_len back → StandsApart front back
shown_apart front back shown before return feed = let none : shown_len back ≡ 0 = ap shown_len feed in absurd (omega arith)

shown_len-append : (front back : List ℕ) → 0 < length back → StandsApart front back →
    shown_len (front ++ back) ≡ past_blanks (past_line_end (reverse back) ++ reverse front)
shown_len-append front back some apart =
    ap (λ text. past_blanks (past_line_end text)) (reverse-append front back) ∙
    ap past_blanks (past_line_end-append (reverse back) (reverse front) (omega (arith, length-reverse back)) (reads_apart front back apart))

pub shown_len-none : (front back : List ℕ) → 0 < length back → StandsApart front back → shown_len back ≡ 0 → shown_len (front ++ back) ≡ solid_len front
shown_len-none front back some apart none =
    shown_len-append front back some apart ∙ past_blanks-none (past_line_end (reverse back)) (reverse front) none

pub shown_len-some : (front back : List ℕ) → 0 < length back → 0 < shown_len back → shown_len (front ++ back) ≡ length front + shown_len back
shown_len-some front back some shown =
    shown_len-append front back some (shown_apart front back shown) ∙ past_blanks-some (past_line_end (reverse back)) (reverse front) shown ∙
    ap (λ n. n + shown_len back) (length-reverse front)

-- ---- one character more

push : (text : List ℕ) (c : ℕ) → reverse (text ++ c ∷ []) ≡ c ∷ reverse text
push text c = reverse-append text (c ∷ [])

pub solid_len-push : (text : List ℕ) (c : ℕ) → solid_len (text ++ c ∷ []) ≡ cond (is_space_or_tab c) (solid_len text) (length text + 1)
solid_len-push text c = ap past_blanks (push text c) ∙ by (bool_cases (is_space_or_tab c))
  where
    by : (is_space_or_tab c ≡ true) ⊎ (is_space_or_tab c ≡ false) → past_blanks (c ∷ reverse text) ≡ cond (is_space_or_tab c) (solid_len text) (length text + 1)
    by (inl blank) = past_blanks-blank c (reverse text) blank ∙ sym (ap (λ b. cond b (solid_len text) (length text + 1)) blank)
    by (inr solid) =
        past_blanks-solid c (reverse text) solid ∙ ap (λ n. n + 1) (length-reverse text) ∙
        sym (ap (λ b. cond b (solid_len text) (length text + 1)) solid)

blanks-push : (text : List ℕ) (c : ℕ) → past_blanks (c ∷ reverse text) ≡ cond (is_space_or_tab c) (solid_len text) (length text + 1)
blanks-push text c = ap past_blanks (sym (push text c)) ∙ solid_len-push text c

pub ended_len-push : (text : List ℕ) (c : ℕ) → ended_len (text ++ c ∷ []) ≡ cond (is_space_or_tab c || c == 13) (solid_len text) (length text + 1)
ended_len-push text c = ap (λ t. past_blanks (past_return t)) (push text c) ∙ by (c == 13) (is_space_or_tab c) (blanks-push text c)
  where
    by : (return blank : Bool) → past_blanks (c ∷ reverse text) ≡ cond blank (solid_len text) (length text + 1) →
        past_blanks (cond return (reverse text) (c ∷ reverse text)) ≡ cond (blank || return) (solid_len text) (length text + 1)
    by true true is = refl
    by true false is = refl
    by false true is = is
    by false false is = is

pub shown_len-push : (text : List ℕ) (c : ℕ) →
    shown_len (text ++ c ∷ []) ≡ cond (c == 10) (ended_len text) (cond (is_space_or_tab c) (solid_len text) (length text + 1))
shown_len-push text c = ap (λ t. past_blanks (past_line_end t)) (push text c) ∙ by (c == 10)
  where
    by : (feed : Bool) → past_blanks (cond feed (past_return (reverse text)) (c ∷ reverse text))
        ≡ cond feed (ended_len text) (cond (is_space_or_tab c) (solid_len text) (length text + 1))
    by true = refl
    by false = blanks-push text c

pub breaks_first-push : (text : List ℕ) (c : ℕ) → breaks_first (reverse (text ++ c ∷ [])) ≡ is_breaking c
breaks_first-push text c = ap breaks_first (push text c)
