-- Lemmas on the steps of a history: where its characters stand after a step, and that what is dropped stays dropped.
use Rattle.std.proofs.Common.{◌≡◌, ℕ, zero, suc, ◌+◌, ◌≤◌, ◌<◌, Bool, true, false, List, [], ◌∷◌, ◌++◌, length, refl, ap, ◌∙◌, arith}
use Rattle.std.specs.Prelude.{if◌then◌else◌}
use Rattle.std.specs.List.{AllByRecursion}
use Rattle.std.proofs.lemmas.Bool.{both_ways, lt-leb, le-leb}
use Rattle.plain_text.specs.Woven.{woven, nth_index}
use Rattle.plain_text.proofs.callers.ListLemmas.{AllByRecursion-weaker, nth_index-here, nth_index-yes}
use Rattle.plain_edits.specs.History.{Tagged, History, head, is_there, IsTaggedBy, IsSound}
use Rattle.plain_edits.specs.Edits.{PlainEdit, edited, inserted_at, is_deleted_by, with_deletion}
use Rattle.plain_edits.specs.Collection.{is_dropped}
use Rattle.plain_edits.specs.Change.{passes_at}
use Rattle.plain_edits.specs.Caret.{index_after}
use Rattle.plain_edits.specs.HistorySteps.{Step, edits, undoes, collects, after_step, MayCome}
use Rattle.plain_edits.proofs.callers.HistoryLemmas.{AllByRecursion-inserted_at}
use Rattle.plain_edits.proofs.callers.CollectionLemmas.{keeps-after_step, is_dropped-later, is_dropped-with_deletion}

-- ---- the index of an item by its number, in a list that got more items

module _ {X : Type 0} (p : X → Bool) where
  pub nth_index-none : (n : ℕ) (xs : List X) → AllByRecursion (λ x. p x ≡ false) xs → nth_index p n xs ≡ length xs
  nth_index-none n [] none = refl
  nth_index-none zero (x ∷ xs) none = ap (λ b. if b then 0 else nth_index p zero xs + 1) none.0 ∙ omega (arith, nth_index-none zero xs none.1)
  nth_index-none (suc n) (x ∷ xs) none =
      ap (λ b. nth_index p (if b then n else suc n) xs + 1) none.0 ∙ omega (arith, nth_index-none (suc n) xs none.1)

  pub nth_index-past_front : (n : ℕ) (front back : List X) → AllByRecursion (λ x. p x ≡ false) front →
      nth_index p n (front ++ back) ≡ length front + nth_index p n back
  nth_index-past_front n [] back none = omega arith
  nth_index-past_front zero (x ∷ front) back none =
      ap (λ b. if b then 0 else nth_index p zero (front ++ back) + 1) none.0 ∙ omega (arith, nth_index-past_front zero front back none.1)
  nth_index-past_front (suc n) (x ∷ front) back none =
      ap (λ b. nth_index p (if b then n else suc n) (front ++ back) + 1) none.0 ∙ omega (arith, nth_index-past_front (suc n) front back none.1)

  -- where all pass, an item's number is its index
  pub nth_index-all : (n : ℕ) (xs : List X) → AllByRecursion (λ x. p x ≡ true) xs → n ≤ length xs → nth_index p n xs ≡ n
  nth_index-all n [] all within = omega arith
  nth_index-all zero (x ∷ xs) all within = nth_index-here p x xs all.0
  nth_index-all (suc n) (x ∷ xs) all within = omega (arith, nth_index-yes p n x xs all.0, nth_index-all n xs all.1 (omega arith))

  pub passes_at-past_front : (front back : List X) (n : ℕ) → passes_at p (length front + n) (front ++ back) ≡ passes_at p n back
  passes_at-past_front [] back n = (let none : 0 + n ≡ n = omega arith in ap (λ k. passes_at p k back) none)
  passes_at-past_front (x ∷ front) back n =
      (let more : length (x ∷ front) + n ≡ suc (length front + n) = omega arith in
      ap (λ k. passes_at p k (x ∷ (front ++ back))) more) ∙ passes_at-past_front front back n

  pub passes_at-lt : (n : ℕ) (xs : List X) → passes_at p n xs ≡ true → n < length xs
  passes_at-lt n [] passes = absurd (both_ways false refl passes)
  passes_at-lt zero (x ∷ xs) passes = omega arith
  passes_at-lt (suc n) (x ∷ xs) passes = omega (arith, passes_at-lt n xs passes)

pub passes_at-weaker : {X : Type 0} (Q : X → Type 0) (p q : X → Bool) → ((x : X) → Q x → p x ≡ true → q x ≡ true) →
    (n : ℕ) (xs : List X) → AllByRecursion Q xs → passes_at p n xs ≡ true → passes_at q n xs ≡ true
passes_at-weaker Q p q weaker n [] all passes = passes
passes_at-weaker Q p q weaker zero (x ∷ xs) all passes = weaker x all.0 passes
passes_at-weaker Q p q weaker (suc n) (x ∷ xs) all passes = passes_at-weaker Q p q weaker n xs all.1 passes

pub passes_at-same : {X : Type 0} (Q : X → Type 0) (p q : X → Bool) → ((x : X) → Q x → p x ≡ q x) →
    (n : ℕ) (xs : List X) → AllByRecursion Q xs → passes_at p n xs ≡ passes_at q n xs
passes_at-same Q p q same n [] all = refl
passes_at-same Q p q same zero (x ∷ xs) all = same x all.0
passes_at-same Q p q same (suc n) (x ∷ xs) all = passes_at-same Q p q same n xs all.1

-- among items of which those between fail a test, what the item with an index became
pub passes_at-woven : {X Y : Type 0} (Q : X → Type 0) (r now : Y → Bool) (before : X → Bool) (between : ℕ → List Y) (f : ℕ → X → Y) →
    ((i : ℕ) → AllByRecursion (λ y. r y ≡ false) (between i)) →
    ((i : ℕ) (x : X) → Q x → r (f i x) ≡ true) → ((i : ℕ) (x : X) → Q x → before x ≡ true → now (f i x) ≡ true) →
    (index : ℕ) (xs : List X) → AllByRecursion Q xs → (n : ℕ) → passes_at before n xs ≡ true →
    passes_at now (nth_index r n (woven between (λ i x. f i x ∷ []) index xs)) (woven between (λ i x. f i x ∷ []) index xs) ≡ true
passes_at-woven Q r now before between f none some stays index [] all n passes = absurd (both_ways false refl passes)
passes_at-woven {Y = Y} Q r now before between f none some stays index (x ∷ xs) all n passes =
    ap (λ k. passes_at now k (between index ++ (f index x ∷ rest))) (nth_index-past_front r n (between index) (f index x ∷ rest) (none index)) ∙
    passes_at-past_front now (between index) (f index x ∷ rest) (nth_index r n (f index x ∷ rest)) ∙
    here n passes (λ k passing. passes_at-woven Q r now before between f none some stays (index + 1) xs all.1 k passing)
  where
    rest : List Y
    rest = woven between (λ i z. f i z ∷ []) (index + 1) xs

    here : (n : ℕ) → passes_at before n (x ∷ xs) ≡ true →
        ((k : ℕ) → passes_at before k xs ≡ true → passes_at now (nth_index r k rest) rest ≡ true) →
        passes_at now (nth_index r n (f index x ∷ rest)) (f index x ∷ rest) ≡ true
    here zero passing later =
        ap (λ k. passes_at now k (f index x ∷ rest)) (nth_index-here r (f index x) rest (some index x all.0)) ∙ stays index x all.0 passing
    here (suc k) passing later =
        let next : nth_index r (suc k) (f index x ∷ rest) ≡ suc (nth_index r k rest) =
        omega (arith, nth_index-yes r k (f index x) rest (some index x all.0)) in
        ap (λ m. passes_at now m (f index x ∷ rest)) next ∙ later k passing

-- ---- what is dropped stays dropped

-- what an edit makes of a character
abbrev pub edited_character : History → PlainEdit → ℕ → Tagged → Tagged
edited_character history e index tagged = if is_deleted_by history e index tagged then with_deletion (head history + 1) tagged else tagged

pub all_there : (history : History) → IsSound history → AllByRecursion (λ tagged. is_there (head history) tagged ≡ true) history.characters
all_there history sound =
    AllByRecursion-weaker (IsTaggedBy (head history)) (λ tagged. is_there (head history) tagged ≡ true)
    (λ tagged is. le-leb tagged.inserted (head history) is.inserted) history.characters sound

pub none_there : (history : History) (e : PlainEdit) (index : ℕ) →
    AllByRecursion (λ tagged. is_there (head history) tagged ≡ false) (inserted_at history e index)
none_there history e =
    AllByRecursion-inserted_at (λ tagged. is_there (head history) tagged ≡ false) history e (λ c. lt-leb (head history + 1) (head history) (omega arith))

pub edited_is_there : (history : History) (e : PlainEdit) (index : ℕ) (tagged : Tagged) → IsTaggedBy (head history) tagged →
    is_there (head history) (edited_character history e index tagged) ≡ true
edited_is_there history e index tagged is = by (is_deleted_by history e index tagged)
  where
    by : (b : Bool) → is_there (head history) (if b then with_deletion (head history + 1) tagged else tagged) ≡ true
    by true = le-leb tagged.inserted (head history) is.inserted
    by false = le-leb tagged.inserted (head history) is.inserted

-- where a step leaves the list of characters, an index stays
same_list : (history : History) (step : Step) → (after_step history step).characters ≡ history.characters → IsSound history → MayCome history step →
    (index : ℕ) → passes_at (is_dropped history) index history.characters ≡ true →
    passes_at (is_dropped (after_step history step)) (index_after history (after_step history step) index) (after_step history step).characters ≡ true
same_list history step same sound may index dropped =
    ap (λ xs. passes_at (is_dropped (after_step history step)) (nth_index (is_there (head history)) index xs) xs) same ∙
    ap (λ n. passes_at (is_dropped (after_step history step)) n history.characters)
    (nth_index-all (is_there (head history)) index history.characters (all_there history sound)
    (let below = passes_at-lt (is_dropped history) index history.characters dropped in omega (arith, below))) ∙
    passes_at-weaker (IsTaggedBy (head history)) (is_dropped history) (is_dropped (after_step history step))
    (λ tagged is was. is_dropped-later history (after_step history step) (keeps-after_step history step may) tagged is was) index history.characters
    sound dropped

pub dropped-after_step : (history : History) (step : Step) → IsSound history → MayCome history step → (index : ℕ) →
    passes_at (is_dropped history) index history.characters ≡ true →
    passes_at (is_dropped (after_step history step)) (index_after history (after_step history step) index) (after_step history step).characters ≡ true
dropped-after_step history (edits e) sound may index dropped =
    passes_at-woven (IsTaggedBy (head history)) (is_there (head history)) (is_dropped (edited history e)) (is_dropped history)
    (inserted_at history e) (edited_character history e) (none_there history e) (edited_is_there history e)
    (λ i tagged is was. by i tagged is was (is_deleted_by history e i tagged)) 0 history.characters sound index dropped
  where
    stays : (tagged : Tagged) → IsTaggedBy (head history) tagged → is_dropped history tagged ≡ true → is_dropped (edited history e) tagged ≡ true
    stays tagged is was = is_dropped-later history (edited history e) (keeps-after_step history (edits e) may) tagged is was

    by : (i : ℕ) (tagged : Tagged) → IsTaggedBy (head history) tagged → is_dropped history tagged ≡ true → (b : Bool) →
        is_dropped (edited history e) (if b then with_deletion (head history + 1) tagged else tagged) ≡ true
    by i tagged is was true = is_dropped-with_deletion (edited history e) (head history + 1) tagged (stays tagged is was)
    by i tagged is was false = stays tagged is was
dropped-after_step history (undoes groups) sound may index dropped =
    same_list history (undoes groups) refl sound may index dropped
dropped-after_step history (collects floor groups) sound may index dropped =
    same_list history (collects floor groups) refl sound may index dropped
