-- Lemmas on insertions that are carried over other ones.
use Rattle.std.proofs.Common.{◌≡◌, ◌≢◌, ℕ, zero, suc, true, false, Bool, not, ◌+◌, ◌<◌, ◌≤◌, ◌⊎◌, inl, inr, List, [], ◌∷◌, ◌++◌, length, filter, drop, replicate, append-nil, add-one, refl, ap, subst, sym, ◌∙◌, arith, length-drop}
use Rattle.std.specs.Prelude.{slice_get, Some}
use Rattle.std.proofs.lemmas.Bool.{false≢true, true≢false}
use Rattle.subset_runs.specs.declared.stretch.Stretch.{Stretch}
use Rattle.subset_runs.specs.Stretch.{IsFront}
use Rattle.subset_runs.specs.Subset.{count, expand}
use Rattle.subset_runs.proofs.ForCallers.{count_le_length, count-append, count-replicate_true, count-replicate_false}
use Rattle.subset_runs.proofs.ForCallers.{front_part, front_len}
use Rattle.plain_text.specs.Woven.{woven}
use Rattle.plain_edits.proofs.callers.ChangeLemmas.{woven_front}
use Rattle.delta_core.specs.Carry.{insertions_at, carried_at, carried, IsCarried}
use Rattle.delta_core.specs.Inner.{here, IsNext}

-- ---- how many insertions are at the front

here_run : (n : ℕ) (flags : List Bool) → flags ≡ replicate n true ++ drop n flags → slice_get flags n ≢ Some true → here flags ≡ n
here_run zero [] same longest = refl
here_run zero (true ∷ flags) same longest = absurd (longest refl)
here_run zero (false ∷ flags) same longest = refl
here_run (suc n) [] same longest = absurd cc
here_run (suc n) (true ∷ flags) same longest =
    let rest : flags ≡ replicate n true ++ drop n flags = cc in
    omega (arith, here_run n flags rest longest)
here_run (suc n) (false ∷ flags) same longest = absurd cc

here_base : (n : ℕ) (flags : List Bool) → 0 < n → flags ≡ replicate n false ++ drop n flags → here flags ≡ 0
here_base zero flags some same = absurd (omega arith)
here_base (suc n) [] some same = refl
here_base (suc n) (true ∷ flags) some same = absurd cc
here_base (suc n) (false ∷ flags) some same = refl

pub here-front : (flags : List Bool) (s : Stretch) → IsFront flags s → s.member ≡ true → here flags ≡ s.len
here-front flags s front is =
    here_run s.len flags (front.same ∙ ap (λ b. replicate s.len b ++ drop s.len flags) is) (λ next. front.longest (next ∙ ap Some (sym is)))

pub here_none-front : (flags : List Bool) (s : Stretch) → IsFront flags s → s.member ≡ false → here flags ≡ 0
here_none-front flags s front is = here_base s.len flags front.some (front.same ∙ ap (λ b. replicate s.len b ++ drop s.len flags) is)

pub here_le_length : (flags : List Bool) → here flags ≤ length flags
here_le_length [] = omega arith
here_le_length (true ∷ flags) = omega (arith, here_le_length flags)
here_le_length (false ∷ flags) = omega arith

pub here_split : (flags : List Bool) → flags ≡ replicate (here flags) true ++ drop (here flags) flags
here_split [] = refl
here_split (true ∷ flags) = ap (λ xs. true ∷ xs) (here_split flags)
here_split (false ∷ flags) = refl

-- ---- the steps

-- the gaps of a weave, counted from the next one on
woven_next : {X Y : Type 0} (between : ℕ → List Y) (at : ℕ → X → List Y) (from : ℕ) (xs : List X) →
    woven between at (from + 1) xs ≡ woven (λ i. between (suc i)) (λ i. at (suc i)) from xs
woven_next between at from [] = ap between (add-one from)
woven_next between at from (x ∷ xs) =
    ap (λ i. between i ++ (at i x ++ woven between at (from + 1 + 1) xs)) (add-one from) ∙
    ap (λ ys. between (suc from) ++ (at (suc from) x ++ ys)) (woven_next between at (from + 1) xs)

pub own_step : (after : Bool) (ins later : List Bool) → (after ≡ false) ⊎ (here later ≡ 0) → carried after (true ∷ ins) later ≡ true ∷ carried after ins later
own_step after ins later first =
    woven_front (true ∷ []) _ _ (λ _ _. false ∷ []) 0 (filter not ins) (at_first after first) (λ i above. others i above)
  where
    at_first : (b : Bool) → (b ≡ false) ⊎ (here later ≡ 0) → carried_at b (suc (here ins)) (here later) ≡ true ∷ carried_at b (here ins) (here later)
    at_first false _ = refl
    at_first true (inl e) = absurd (true≢false e)
    at_first true (inr none) = rw none refl

    others : (i : ℕ) → 0 < i → carried_at after (insertions_at (true ∷ ins) i) (insertions_at later i) ≡ carried_at after (insertions_at ins i) (insertions_at later i)
    others zero above = absurd (omega arith)
    others (suc i) above = refl

pub other_step : (after : Bool) (ins later : List Bool) → (after ≡ true) ⊎ (here ins ≡ 0) → carried after ins (true ∷ later) ≡ false ∷ carried after ins later
other_step after ins later first =
    woven_front (false ∷ []) _ _ (λ _ _. false ∷ []) 0 (filter not ins) (at_first after first) (λ i above. others i above)
  where
    at_first : (b : Bool) → (b ≡ true) ⊎ (here ins ≡ 0) → carried_at b (here ins) (suc (here later)) ≡ false ∷ carried_at b (here ins) (here later)
    at_first true _ = refl
    at_first false (inl e) = absurd (false≢true e)
    at_first false (inr none) = rw none refl

    others : (i : ℕ) → 0 < i → carried_at after (insertions_at ins i) (insertions_at (true ∷ later) i) ≡ carried_at after (insertions_at ins i) (insertions_at later i)
    others zero above = absurd (omega arith)
    others (suc i) above = refl

pub base_step : (after : Bool) (ins later : List Bool) → carried after (false ∷ ins) (false ∷ later) ≡ false ∷ carried after ins later
base_step true ins later = ap (λ xs. false ∷ xs) (woven_next _ (λ _ _. false ∷ []) 0 (filter not ins))
base_step false ins later = ap (λ xs. false ∷ xs) (woven_next _ (λ _ _. false ∷ []) 0 (filter not ins))

pub own_steps : (n : ℕ) (after : Bool) (ins later : List Bool) → (after ≡ false) ⊎ (here later ≡ 0) →
    carried after (replicate n true ++ ins) later ≡ replicate n true ++ carried after ins later
own_steps zero after ins later first = refl
own_steps (suc n) after ins later first =
    own_step after (replicate n true ++ ins) later first ∙ ap (λ xs. true ∷ xs) (own_steps n after ins later first)

other_steps : (n : ℕ) (after : Bool) (ins later : List Bool) → (after ≡ true) ⊎ (here ins ≡ 0) →
    carried after ins (replicate n true ++ later) ≡ replicate n false ++ carried after ins later
other_steps zero after ins later first = refl
other_steps (suc n) after ins later first =
    other_step after ins (replicate n true ++ later) first ∙ ap (λ xs. false ∷ xs) (other_steps n after ins later first)

base_steps : (n : ℕ) (after : Bool) (ins later : List Bool) →
    carried after (replicate n false ++ ins) (replicate n false ++ later) ≡ replicate n false ++ carried after ins later
base_steps zero after ins later = refl
base_steps (suc n) after ins later =
    base_step after (replicate n false ++ ins) (replicate n false ++ later) ∙ ap (λ xs. false ∷ xs) (base_steps n after ins later)

-- ---- the next stretch

counts_run : (n : ℕ) (flags : List Bool) → flags ≡ replicate n true ++ drop n flags → n ≤ length flags →
    (count flags ≡ n + count (drop n flags)) × (length flags ≡ n + length (drop n flags))
counts_run n flags same within = (
  ap count same ∙ count-append (replicate n true) (drop n flags) ∙ ap (λ k. k + count (drop n flags)) (count-replicate_true n),
  omega (arith, length-drop n flags),
)

counts_base : (n : ℕ) (flags : List Bool) → flags ≡ replicate n false ++ drop n flags → n ≤ length flags →
    (count flags ≡ count (drop n flags)) × (length flags ≡ n + length (drop n flags))
counts_base n flags same within =
    (omega (arith, ap count same, count-append (replicate n false) (drop n flags), count-replicate_false n), omega (arith, length-drop n flags))

pub IsNext-own : (after : Bool) (own other : List Bool) → length own + count other ≡ length other + count own → 0 < here own → (after ≡ false) ⊎ (here other ≡ 0) →
    IsNext after own other (drop (here own) own) other (here own) true
IsNext-own after own other base some first =
    let counts = counts_run (here own) own (here_split own) (here_le_length own) in
    record {
      next = ap (λ xs. carried after xs other) (here_split own) ∙ own_steps (here own) after (drop (here own) own) other first;
      base = omega (arith, counts.0, counts.1);
      ahead = omega (arith, counts.1);
      some = omega (arith, counts.1);
    }

pub IsNext-other : (after : Bool) (own other : List Bool) → length own + count other ≡ length other + count own → 0 < here other → (after ≡ true) ⊎ (here own ≡ 0) →
    IsNext after own other own (drop (here other) other) (here other) false
IsNext-other after own other base some first =
    let counts = counts_run (here other) other (here_split other) (here_le_length other) in
    record {
      next = ap (λ xs. carried after own xs) (here_split other) ∙ other_steps (here other) after own (drop (here other) other) first;
      base = omega (arith, counts.0, counts.1);
      ahead = omega (arith, counts.0);
      some = omega (arith, counts.1);
    }

all_base : (flags : List Bool) (s : Stretch) → IsFront flags s → here flags ≡ 0 → s.member ≡ false
all_base flags s front none = member_of s.member refl
  where
    member_of : (b : Bool) → s.member ≡ b → s.member ≡ false
    member_of true is = absurd (omega (arith, here-front flags s front is, front.some))
    member_of false is = is

pub IsNext-base : (after : Bool) (own other : List Bool) (s t : Stretch) (n : ℕ) → length own + count other ≡ length other + count own →
    here own ≡ 0 → here other ≡ 0 → IsFront own s → IsFront other t → n ≤ s.len → n ≤ t.len → 0 < n →
    IsNext after own other (drop n own) (drop n other) n false
IsNext-base after own other s t n base no_own no_other front back one two some =
    let first : own ≡ replicate n false ++ drop n own =
    front_part own s n front one ∙ ap (λ b. replicate n b ++ drop n own) (all_base own s front no_own) in
    let second : other ≡ replicate n false ++ drop n other =
    front_part other t n back two ∙ ap (λ b. replicate n b ++ drop n other) (all_base other t back no_other) in
    let counts = counts_base n own first (omega (arith, front_len own s front)) in
    let others = counts_base n other second (omega (arith, front_len other t back)) in
    record {
      next = ap (λ xs. carried after xs other) first ∙ ap (λ xs. carried after (replicate n false ++ drop n own) xs) second ∙ base_steps n after (drop n own) (drop n other);
      base = omega (arith, counts.0, counts.1, others.0, others.1);
      ahead = omega (arith, counts.1, others.0);
      some = omega (arith, counts.1, others.1);
    }

-- where no insertion is next and something is left, both have characters of the base left
pub some_left : (own other : List Bool) → length own + count other ≡ length other + count own → here own ≡ 0 → here other ≡ 0 →
    (own ≡ [] → other ≢ []) → (own ≢ []) × (other ≢ [])
some_left [] [] base no_own no_other more = absurd (more refl refl)
some_left [] (true ∷ other) base no_own no_other more = absurd (omega (arith, no_other))
some_left [] (false ∷ other) base no_own no_other more = absurd (omega (arith, base, count_le_length other))
some_left (true ∷ own) other base no_own no_other more = absurd (omega (arith, no_own))
some_left (false ∷ own) [] base no_own no_other more = absurd (omega (arith, base, count_le_length own))
some_left (false ∷ own) (b ∷ other) base no_own no_other more = (λ e. cc, λ e. cc)

-- ---- the laws

-- what the steps keep is true of two sets over one base
module _ (after : Bool) (P : List Bool → List Bool → Type 0) (nil : P [] [])
    (own : (ins later : List Bool) → (after ≡ false) ⊎ (here later ≡ 0) → P ins later → P (true ∷ ins) later)
    (other : (ins later : List Bool) → (after ≡ true) ⊎ (here ins ≡ 0) → P ins later → P ins (true ∷ later))
    (next : (ins later : List Bool) → P ins later → P (false ∷ ins) (false ∷ later)) where
  by_steps : (bound : ℕ) (ins later : List Bool) → length ins + length later ≤ bound → length ins + count later ≡ length later + count ins → P ins later
  by_steps bound [] [] small base = nil
  by_steps zero [] (b ∷ later) small base = absurd (omega arith)
  by_steps zero (b ∷ ins) later small base = absurd (omega arith)
  by_steps (suc bound) [] (true ∷ later) small base = other [] later (inr refl) (by_steps bound [] later (omega arith) (omega (arith, base)))
  by_steps (suc bound) [] (false ∷ later) small base = absurd (omega (arith, base, count_le_length later))
  by_steps (suc bound) (true ∷ ins) [] small base = own ins [] (inr refl) (by_steps bound ins [] (omega arith) (omega (arith, base)))
  by_steps (suc bound) (false ∷ ins) [] small base = absurd (omega (arith, base, count_le_length ins))
  by_steps (suc bound) (true ∷ ins) (true ∷ later) small base =
      elim after as (λ b. after ≡ b → P (true ∷ ins) (true ∷ later)) [
        | true ↦ λ is. other (true ∷ ins) later (inl is) (by_steps bound (true ∷ ins) later (omega arith) (omega (arith, base)))
        | false ↦ λ is. own ins (true ∷ later) (inl is) (by_steps bound ins (true ∷ later) (omega arith) (omega (arith, base)))
      ] refl
  by_steps (suc bound) (true ∷ ins) (false ∷ later) small base =
      own ins (false ∷ later) (inr refl) (by_steps bound ins (false ∷ later) (omega arith) (omega (arith, base)))
  by_steps (suc bound) (false ∷ ins) (true ∷ later) small base =
      other (false ∷ ins) later (inr refl) (by_steps bound (false ∷ ins) later (omega arith) (omega (arith, base)))
  by_steps (suc bound) (false ∷ ins) (false ∷ later) small base =
      next ins later (by_steps bound ins later (omega arith) (omega (arith, base)))

pub IsCarried-carried : (after : Bool) (ins later : List Bool) → length ins + count later ≡ length later + count ins →
    IsCarried after ins later (carried after ins later)
IsCarried-carried after ins later base =
    by_steps after (λ xs ys. IsCarried after xs ys (carried after xs ys)) (none after)
    (λ xs ys first rest. record {
      is = refl;
      renumbered =
          own_step after xs ys first ∙ ap (λ zs. true ∷ zs) rest.renumbered ∙
          sym (ap (expand (true ∷ xs)) (other_step (not after) ys xs (turned after first)));
      len = omega (arith, ap length (own_step after xs ys first), rest.len);
      members = omega (arith, ap count (own_step after xs ys first), rest.members);
    })
    (λ xs ys first rest. record {
      is = refl;
      renumbered =
          other_step after xs ys first ∙ ap (λ zs. false ∷ zs) rest.renumbered ∙
          sym (ap (expand xs) (own_step (not after) ys xs (back after first)));
      len = omega (arith, ap length (other_step after xs ys first), rest.len);
      members = omega (arith, ap count (other_step after xs ys first), rest.members);
    })
    (λ xs ys rest. record {
      is = refl;
      renumbered =
          base_step after xs ys ∙ ap (λ zs. false ∷ zs) rest.renumbered ∙
          sym (ap (expand (false ∷ xs)) (base_step (not after) ys xs));
      len = omega (arith, ap length (base_step after xs ys), rest.len);
      members = omega (arith, ap count (base_step after xs ys), rest.members);
    })
    (length ins + length later) ins later (omega arith) base
  where
    none : (b : Bool) → IsCarried b [] [] (carried b [] [])
    none true = record { is = refl; renumbered = refl; len = omega arith; members = refl }
    none false = record { is = refl; renumbered = refl; len = omega arith; members = refl }

    turned : (b : Bool) {n : ℕ} → (b ≡ false) ⊎ (n ≡ 0) → (not b ≡ true) ⊎ (n ≡ 0)
    turned b (inl is) = inl (ap not is)
    turned b (inr none) = inr none

    back : (b : Bool) {n : ℕ} → (b ≡ true) ⊎ (n ≡ 0) → (not b ≡ false) ⊎ (n ≡ 0)
    back b (inl is) = inl (ap not is)
    back b (inr none) = inr none

pub IsCarried-all : (after : Bool) (ins later result own other : List Bool) → length ins + count later ≡ length later + count ins →
    result ++ carried after own other ≡ carried after ins later → own ≡ [] → other ≡ [] → IsCarried after ins later result
IsCarried-all after ins later result own other base so_far no_own no_other =
    let is : result ≡ carried after ins later =
    sym (append-nil result) ∙ ap (λ xs. result ++ xs) (sym (ap (λ xs. carried after xs other) no_own ∙ ap (λ xs. carried after [] xs) no_other ∙ nothing after)) ∙ so_far in
    subst (IsCarried after ins later) (sym is) (IsCarried-carried after ins later base)
  where
    nothing : (b : Bool) → carried b [] [] ≡ []
    nothing true = refl
    nothing false = refl
