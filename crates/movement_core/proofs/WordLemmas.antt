-- Words: what is passed over character by character, and in parts of a text.
use Rattle.std.proofs.Common.{◌≡◌, ⊎_elim, ℕ, zero, suc, ◌+◌, ◌-◌, ◌<◌, ◌≤◌, Bool, true, false, cond, List, [], ◌∷◌, ◌++◌, length, reverse, take, drop, Option, Some, None, refl, sym, ap, ap₂, ◌∙◌, arith, length-drop}
use Rattle.std.specs.Prelude.{if◌then◌else◌, ◌==◌, slice_get, slice_range, unwrap_or}
use Rattle.std.specs.List.{prefix_len}
use Rattle.std.proofs.lemmas.Bool.{cases_Bool, eqb-true}
use Rattle.std.proofs.lemmas.List.{length-reverse, length-take-le, reverse-append, take-append-drop, take_all}
use Rattle.std.proofs.lemmas.List.Sums.{prefix_len-le-length}
use Rattle.cluster_core.specs.Classes.{class_of}
use Rattle.movement_core.specs.declared.words.Trail.{Trail}
use Rattle.movement_core.specs.Words.{class_number, is_alike, is_between_words, run_len, word_len}
use Rattle.movement_core.specs.Inner.{IsTrail, begun, goes_on, reach_from, run_from, run_with}

-- ---- character by character

reach_from-word : (first : ℕ) (characters : List ℕ) → reach_from (Some first) characters ≡ prefix_len (is_alike first) characters
reach_from-word first [] = refl
reach_from-word first (c ∷ characters) =
    let On : Bool → ℕ = λ b. if b then 1 + reach_from (Some first) characters else 0 in
    let Len : Bool → ℕ = λ b. cond b (1 + prefix_len (is_alike first) characters) 0 in
    ⊎_elim
    (λ alike. ap On alike ∙ ap (λ n. 1 + n) (reach_from-word first characters) ∙ sym (ap Len alike))
    (λ other. ap On other ∙ sym (ap Len other))
    (cases_Bool (is_alike first c))

drop-more : (n c : ℕ) (characters : List ℕ) → drop (1 + n) (c ∷ characters) ≡ drop n characters
drop-more n c characters = let same : 1 + n ≡ suc n = omega arith in ap (λ m. drop m (c ∷ characters)) same

-- what stands between words is passed over first
word_len-between : (c : ℕ) (characters : List ℕ) → is_between_words c ≡ true → word_len (c ∷ characters) ≡ 1 + word_len characters
word_len-between c characters between =
    let blanks = prefix_len is_between_words characters in
    let Len : Bool → ℕ = λ b. let n = cond b (1 + blanks) 0 in n + run_len (drop n (c ∷ characters)) in
    let all = ap Len between in
    omega (arith, all, ap run_len (drop-more blanks c characters))

word_len-run : (c : ℕ) (characters : List ℕ) → is_between_words c ≡ false → word_len (c ∷ characters) ≡ run_len (c ∷ characters)
word_len-run c characters other =
    let blanks = prefix_len is_between_words characters in
    let Len : Bool → ℕ = λ b. let n = cond b (1 + blanks) 0 in n + run_len (drop n (c ∷ characters)) in
    let all = ap Len other in
    omega (arith, all)

pub reach_from-start : (characters : List ℕ) → reach_from None characters ≡ word_len characters
reach_from-start [] = refl
reach_from-start (c ∷ characters) =
    let On : Bool → ℕ = λ b. 1 + reach_from (if b then None else Some c) characters in
    ⊎_elim
    (λ between. ap On between ∙ ap (λ n. 1 + n) (reach_from-start characters) ∙ sym (word_len-between c characters between))
    (λ other. ap On other ∙ ap (λ n. 1 + n) (reach_from-word c characters) ∙ sym (word_len-run c characters other))
    (cases_Bool (is_between_words c))

pub reach_from-step : (first : Option ℕ) (c : ℕ) (characters all : List ℕ) → all ≡ c ∷ characters → goes_on first c ≡ true →
    reach_from first all ≡ 1 + reach_from (begun first c) characters
reach_from-step first c characters all is goes =
    ap (reach_from first) is ∙ ap (λ b. if b then 1 + reach_from (begun first c) characters else 0) goes

pub reach_from-stop : (first : Option ℕ) (c : ℕ) (characters all : List ℕ) → all ≡ c ∷ characters → goes_on first c ≡ false → reach_from first all ≡ 0
reach_from-stop first c characters all is stops =
    ap (reach_from first) is ∙ ap (λ b. if b then 1 + reach_from (begun first c) characters else 0) stops

reach_from-le : (first : Option ℕ) (characters : List ℕ) → reach_from first characters ≤ length characters
reach_from-le first [] = omega arith
reach_from-le first (c ∷ characters) =
    let On : Bool → ℕ = λ b. if b then 1 + reach_from (begun first c) characters else 0 in
    ⊎_elim
    (λ goes. omega (arith, ap On goes, reach_from-le (begun first c) characters))
    (λ stops. omega (arith, ap On stops))
    (cases_Bool (goes_on first c))

pub word_len-le : (characters : List ℕ) → word_len characters ≤ length characters
word_len-le characters = omega (arith, reach_from-start characters, reach_from-le None characters)

pub run_len-le : (characters : List ℕ) → run_len characters ≤ length characters
run_len-le [] = omega arith
run_len-le (c ∷ characters) = omega (arith, prefix_len-le-length (is_alike c) characters)

-- the first character of a run, past one character more
pub run_from-step : (first : Option ℕ) (c : ℕ) (characters all : List ℕ) → all ≡ c ∷ characters → goes_on first c ≡ true →
    run_from first all ≡ 1 + run_from (Some (unwrap_or first c)) characters
run_from-step None c characters all is goes = ap (run_from None) is
run_from-step (Some first) c characters all is goes = ap (run_from (Some first)) is ∙ ap (λ b. cond b (1 + prefix_len (is_alike first) characters) 0) goes

pub run_from-stop : (first : Option ℕ) (c : ℕ) (characters all : List ℕ) → all ≡ c ∷ characters → goes_on first c ≡ false → run_from first all ≡ 0
run_from-stop None c characters all is stops = absurd cc
run_from-stop (Some first) c characters all is stops = ap (run_from (Some first)) is ∙ ap (λ b. cond b (1 + prefix_len (is_alike first) characters) 0) stops

pub run_from-end : (first : Option ℕ) (characters : List ℕ) → characters ≡ [] → run_from first characters ≡ 0
run_from-end None characters none = ap (run_from None) none
run_from-end (Some first) characters none = ap (run_from (Some first)) none

-- ---- a part tells where the word stops, unless it reaches to the part's end

reach_from-part : (first : Option ℕ) (front back : List ℕ) → reach_from first front < length front → reach_from first (front ++ back) ≡ reach_from first front
reach_from-part first [] back less = absurd (omega arith)
reach_from-part first (c ∷ front) back less =
    let On : List ℕ → Bool → ℕ = λ cs b. if b then 1 + reach_from (begun first c) cs else 0 in
    ⊎_elim
    (λ goes.
    let one = ap (On front) goes in
    ap (On (front ++ back)) goes ∙ ap (λ n. 1 + n) (reach_from-part (begun first c) front back (omega arith)) ∙ sym one)
    (λ stops. ap (On (front ++ back)) stops ∙ sym (ap (On front) stops))
    (cases_Bool (goes_on first c))

word_len-part : (front back : List ℕ) → word_len front < length front → word_len (front ++ back) ≡ word_len front
word_len-part front back less =
    let same = reach_from-start front in
    sym (reach_from-start (front ++ back)) ∙ reach_from-part None front back (omega arith) ∙ same

prefix_len-part : (p : ℕ → Bool) (front back : List ℕ) → prefix_len p front < length front → prefix_len p (front ++ back) ≡ prefix_len p front
prefix_len-part p [] back less = absurd (omega arith)
prefix_len-part p (c ∷ front) back less =
    let On : List ℕ → Bool → ℕ = λ cs b. cond b (1 + prefix_len p cs) 0 in
    ⊎_elim
    (λ goes.
    let one = ap (On front) goes in
    ap (On (front ++ back)) goes ∙ ap (λ n. 1 + n) (prefix_len-part p front back (omega arith)) ∙ sym one)
    (λ stops. ap (On (front ++ back)) stops ∙ sym (ap (On front) stops))
    (cases_Bool (p c))

run_len-part : (front back : List ℕ) → run_len front < length front → run_len (front ++ back) ≡ run_len front
run_len-part [] back less = absurd (omega arith)
run_len-part (c ∷ front) back less = ap (λ n. 1 + n) (prefix_len-part (is_alike c) front back (omega arith))

module _ (text : List ℕ) (gap len : ℕ) (inside : gap + len ≤ length text) where
  ahead-is : slice_range text gap (gap + len) ≡ take len (drop gap text)
  ahead-is = let few : gap + len - gap ≡ len = omega arith in ap (λ n. take n (drop gap text)) few

  pub ahead-long : length (slice_range text gap (gap + len)) ≡ len
  ahead-long = ap length ahead-is ∙ length-take-le len (drop gap text) (omega (arith, length-drop gap text))

  pub ahead-part : word_len (slice_range text gap (gap + len)) < len → word_len (slice_range text gap (gap + len)) ≡ word_len (drop gap text)
  ahead-part less =
      let long = ahead-long in
      sym (ap word_len (sym (take-append-drop len (drop gap text)) ∙ ap (λ front. front ++ drop len (drop gap text)) (sym ahead-is)) ∙
      word_len-part (slice_range text gap (gap + len)) (drop len (drop gap text)) (omega arith))

  pub run-ahead-part : run_len (slice_range text gap (gap + len)) < len → run_len (slice_range text gap (gap + len)) ≡ run_len (drop gap text)
  run-ahead-part less =
      let long = ahead-long in
      sym (ap run_len (sym (take-append-drop len (drop gap text)) ∙ ap (λ front. front ++ drop len (drop gap text)) (sym ahead-is)) ∙
      run_len-part (slice_range text gap (gap + len)) (drop len (drop gap text)) (omega arith))

  pub run-ahead-all : gap + len ≡ length text → run_len (slice_range text gap (gap + len)) ≡ run_len (drop gap text)
  run-ahead-all all = ap run_len (ahead-is ∙ take_all len (drop gap text) (omega (arith, length-drop gap text)))

  pub ahead-all : gap + len ≡ length text → word_len (slice_range text gap (gap + len)) ≡ word_len (drop gap text)
  ahead-all all = ap word_len (ahead-is ∙ take_all len (drop gap text) (omega (arith, length-drop gap text)))

take-cut : {X : Type 0} (n m : ℕ) (xs : List X) → take (n + m) xs ≡ take n xs ++ take m (drop n xs)
take-cut zero m xs = let same : 0 + m ≡ m = omega arith in ap (λ k. take k xs) same
take-cut (suc n) m [] = take_all (suc n + m) [] (omega arith) ∙ sym (take_all m [] (omega arith))
take-cut (suc n) m (x ∷ xs) =
    let same : suc n + m ≡ suc (n + m) = omega arith in
    ap (λ k. take k (x ∷ xs)) same ∙ ap (λ ys. x ∷ ys) (take-cut n m xs)

module _ (text : List ℕ) (gap len : ℕ) (few : len ≤ gap) (inside : gap ≤ length text) where
  behind-is : slice_range text (gap - len) gap ≡ take len (drop (gap - len) text)
  behind-is = let same : gap - (gap - len) ≡ len = omega arith in ap (λ n. take n (drop (gap - len) text)) same

  pub behind-long : length (reverse (slice_range text (gap - len) gap)) ≡ len
  behind-long =
      length-reverse (slice_range text (gap - len) gap) ∙ ap length behind-is ∙
      length-take-le len (drop (gap - len) text) (omega (arith, length-drop (gap - len) text))

  behind-cut : reverse (take gap text) ≡ reverse (slice_range text (gap - len) gap) ++ reverse (take (gap - len) text)
  behind-cut =
      let sum : gap ≡ gap - len + len = omega arith in
      ap (λ n. reverse (take n text)) sum ∙ ap reverse (take-cut (gap - len) len text ∙ ap (λ back. take (gap - len) text ++ back) (sym behind-is)) ∙
      reverse-append (take (gap - len) text) (slice_range text (gap - len) gap)

  pub behind-part : word_len (reverse (slice_range text (gap - len) gap)) < len →
      word_len (reverse (slice_range text (gap - len) gap)) ≡ word_len (reverse (take gap text))
  behind-part less =
      let long = behind-long in
      sym (ap word_len behind-cut ∙ word_len-part (reverse (slice_range text (gap - len) gap)) (reverse (take (gap - len) text)) (omega arith))

  pub behind-all : len ≡ gap → word_len (reverse (slice_range text (gap - len) gap)) ≡ word_len (reverse (take gap text))
  behind-all all =
      let none : gap - len ≡ 0 = omega arith in
      ap (λ cs. word_len (reverse cs)) (behind-is ∙ ap₂ (λ n m. take n (drop m text)) all none)

  pub run-behind-part : run_len (reverse (slice_range text (gap - len) gap)) < len →
      run_len (reverse (slice_range text (gap - len) gap)) ≡ run_len (reverse (take gap text))
  run-behind-part less =
      let long = behind-long in
      sym (ap run_len behind-cut ∙ run_len-part (reverse (slice_range text (gap - len) gap)) (reverse (take (gap - len) text)) (omega arith))

  pub run-behind-all : len ≡ gap → run_len (reverse (slice_range text (gap - len) gap)) ≡ run_len (reverse (take gap text))
  run-behind-all all =
      let none : gap - len ≡ 0 = omega arith in
      ap (λ cs. run_len (reverse cs)) (behind-is ∙ ap₂ (λ n m. take n (drop m text)) all none)

-- ---- the end of a text

alike-same : (c other : ℕ) → is_alike c other ≡ true → is_alike other ≡ is_alike c
alike-same c other is =
    let same = eqb-true (class_number (class_of other)) (class_number (class_of c)) is in
    let Is : ℕ → ℕ → Bool = λ k d. class_number (class_of d) == k in
    ap Is same

run_len-more : (c : ℕ) (characters : List ℕ) → run_len (c ∷ characters) ≡ run_with (slice_get characters 0) (run_len characters) c
run_len-more c [] = refl
run_len-more c (last ∷ characters) =
    let Len : Bool → ℕ = λ b. 1 + cond b (1 + prefix_len (is_alike c) characters) 0 in
    let With : Bool → ℕ = λ b. if b then 1 + prefix_len (is_alike last) characters + 1 else 1 in
    ⊎_elim
    (λ alike.
    let one = ap Len alike in
    let two = ap With alike in
    let same = ap (λ p. prefix_len p characters) (alike-same c last alike) in omega arith)
    (λ other. let one = ap Len other in let two = ap With other in omega arith)
    (cases_Bool (is_alike c last))

reverse-push : (text : List ℕ) (c : ℕ) → reverse (text ++ c ∷ []) ≡ c ∷ reverse text
reverse-push text c = reverse-append text (c ∷ [])

pub IsTrail-none : (trail : Trail) → trail.len ≡ 0 → trail.run ≡ 0 → trail.last ≡ None → IsTrail [] trail
IsTrail-none trail len run last = record { len = len; run = run; last = last }

pub IsTrail-between : (text : List ℕ) (trail next : Trail) (c : ℕ) → IsTrail text trail → next.run ≡ run_with trail.last trail.run c → next.last ≡ Some c →
    is_between_words c ≡ true → next.len ≡ trail.len + 1 → IsTrail (text ++ c ∷ []) next
IsTrail-between text trail next c is run last between len =
    let push = reverse-push text c in record {
      len = let was = is.len in omega (arith, ap word_len push, word_len-between c (reverse text) between, len);
      run = run ∙ ap₂ (λ l r. run_with l r c) is.last is.run ∙ sym (ap run_len push ∙ run_len-more c (reverse text));
      last = last ∙ sym (ap (λ cs. slice_get cs 0) push);
    }

pub IsTrail-run : (text : List ℕ) (trail next : Trail) (c : ℕ) → IsTrail text trail → next.run ≡ run_with trail.last trail.run c → next.last ≡ Some c →
    is_between_words c ≡ false → next.len ≡ next.run → IsTrail (text ++ c ∷ []) next
IsTrail-run text trail next c is run last other len =
    let push = reverse-push text c in
    let now : next.run ≡ run_len (reverse (text ++ c ∷ [])) =
    run ∙ ap₂ (λ l r. run_with l r c) is.last is.run ∙ sym (ap run_len push ∙ run_len-more c (reverse text)) in record {
      len = len ∙ now ∙ ap run_len push ∙ sym (ap word_len push ∙ word_len-run c (reverse text) other);
      run = now;
      last = last ∙ sym (ap (λ cs. slice_get cs 0) push);
    }

-- a trail is not longer than its text
pub IsTrail-le : (text : List ℕ) (trail : Trail) → IsTrail text trail → (trail.len ≤ length text) × (trail.run ≤ length text)
IsTrail-le text trail is =
    let long = length-reverse text in
    let len = is.len in
    let run = is.run in
    let one = word_len-le (reverse text) in
    let two = run_len-le (reverse text) in (omega arith, omega arith)
