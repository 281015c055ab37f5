-- Lemmas on how often neighbours in a list do not go on alike.
use Rattle.std.proofs.Common.{◌≡◌, ◌⊎◌, inl, inr, ⊎_elim, ℕ, zero, suc, ◌+◌, ◌≤◌, ◌==◌, nat_le, nat_lt, ◌&&◌, ◌||◌, Bool, true, false, cond, List, [], ◌∷◌, ◌++◌, map, Some, None, refl, sym, ap, ap₂, ◌∙◌, arith}
use Rattle.std.specs.Prelude.{Option}
use Rattle.std.specs.List.{range_with_len}
use Rattle.std.proofs.lemmas.Bool.{and_parts, cases_Bool, cases_lt, le-leb, le-ltb, leb-true, lt-ltb}
use Rattle.plain_text.specs.declared.run.Run.{Run}
use Rattle.plain_screen.specs.Plan.{Standing, stays, is_restyled, is_sent, is_left, is_near, is_within}
use Rattle.line_cache.proofs.PlanLemmas.{stand_by}

-- one where the test fails
abbrev pub unless : Bool → ℕ
unless b = cond b 0 1

at_most_one : (b : Bool) → unless b ≤ 1
at_most_one true = omega arith
at_most_one false = omega arith

-- how many neighbours of a list fail a test
abbrev pub turns : {X : Type 0} → (X → X → Bool) → List X → ℕ
turns test [] = 0
turns test (x ∷ []) = 0
turns test (x ∷ y ∷ xs) = unless (test x y) + turns test (y ∷ xs)

abbrev pub last_of : {X : Type 0} → X → List X → X
last_of x [] = x
last_of x (y ∷ xs) = last_of y xs

-- a seam, and what stands behind it
pub turns-append : {X : Type 0} (test : X → X → Bool) (x : X) (xs : List X) (y : X) (ys : List X) →
    unless (test (last_of x xs) y) + turns test (y ∷ ys) ≤ turns test ((x ∷ xs) ++ (y ∷ ys))
turns-append test x [] y ys = omega arith
turns-append test x (next ∷ xs) y ys = let rest = turns-append test next xs y ys in omega (arith, rest)

-- ---- truths

pub equal : Bool → Bool → Bool
equal true b = b
equal false true = false
equal false false = true

pub equal-same : (b : Bool) → equal b b ≡ true
unfolding equal
equal-same true = refl
equal-same false = refl

equal-true : (a b : Bool) → equal a b ≡ true → a ≡ b
unfolding equal
equal-true true true is = refl
equal-true true false is = let broken = is in cc
equal-true false true is = let broken = is in cc
equal-true false false is = refl

abbrev pub values : {X : Type 0} → (ℕ → X) → ℕ → ℕ → List X
values f a n = map f (range_with_len a n)

-- a test that keeps a value once it has it turns once
settle_step : (v x y : Bool) (later : ℕ) → (x ≡ v → y ≡ v) → (y ≡ v → later ≡ 0) → later ≤ 1 → unless (equal x y) + later ≤ 1
unfolding equal
settle_step true true true later keeps none few = omega (arith, few)
settle_step true true false later keeps none few = let broken = keeps refl in cc
settle_step true false true later keeps none few = let is = none refl in omega (arith, is)
settle_step true false false later keeps none few = omega (arith, few)
settle_step false true true later keeps none few = omega (arith, few)
settle_step false true false later keeps none few = let is = none refl in omega (arith, is)
settle_step false false true later keeps none few = let broken = keeps refl in cc
settle_step false false false later keeps none few = omega (arith, few)

settled : (v : Bool) (f : ℕ → Bool) (a n : ℕ) → ((k : ℕ) → f k ≡ v → f (k + 1) ≡ v) → f a ≡ v → turns equal (values f a n) ≡ 0
settled v f a zero keeps is = refl
settled v f a (suc zero) keeps is = refl
settled v f a (suc (suc n)) keeps is =
    let same : equal (f a) (f (a + 1)) ≡ true = ap₂ equal is (keeps a is) ∙ equal-same v in
    let rest = settled v f (a + 1) (suc n) keeps (keeps a is) in
    omega (arith, ap unless same, rest)

settles : (v : Bool) (f : ℕ → Bool) (a n : ℕ) → ((k : ℕ) → f k ≡ v → f (k + 1) ≡ v) → turns equal (values f a n) ≤ 1
settles v f a zero keeps = omega arith
settles v f a (suc zero) keeps = omega arith
settles v f a (suc (suc n)) keeps =
    settle_step v (f a) (f (a + 1)) (turns equal (values f (a + 1) (suc n))) (keeps a) (settled v f (a + 1) (suc n) keeps) (settles v f (a + 1) (suc n) keeps)

from-turns : (start a n : ℕ) → turns equal (values (λ k. nat_le start k) a n) ≤ 1
from-turns start a n = settles true (λ k. nat_le start k) a n (λ k is. le-leb start (k + 1) (omega (arith, leb-true start k is)))

past-turns : (start more a n : ℕ) → turns equal (values (λ k. nat_le start (k + more)) a n) ≤ 1
past-turns start more a n =
    settles true (λ k. nat_le start (k + more)) a n (λ k is. le-leb start (k + 1 + more) (omega (arith, leb-true start (k + more) is)))

to-keeps : (end k : ℕ) → nat_lt k end ≡ false → nat_lt (k + 1) end ≡ false
to-keeps end k is = ⊎_elim
    (λ lt. let broken : true ≡ false = sym (lt-ltb k end lt) ∙ is in absurd cc) (λ le. le-ltb (k + 1) end (omega (arith, le))) (cases_lt k end)

to-turns : (end a n : ℕ) → turns equal (values (λ k. nat_lt k end) a n) ≤ 1
to-turns end a n = settles false (λ k. nat_lt k end) a n (to-keeps end)

and_step : (x y z w : Bool) → unless (equal (x && z) (y && w)) ≤ unless (equal x y) + unless (equal z w)
unfolding equal
and_step true true z w = omega arith
and_step true false z w = let one = at_most_one (equal (true && z) (false && w)) in omega (arith, one)
and_step false true z w = let one = at_most_one (equal (false && z) (true && w)) in omega (arith, one)
and_step false false z w = omega arith

and-turns : (f g : ℕ → Bool) (a n : ℕ) → turns equal (values (λ k. f k && g k) a n) ≤ turns equal (values f a n) + turns equal (values g a n)
and-turns f g a zero = omega arith
and-turns f g a (suc zero) = omega arith
and-turns f g a (suc (suc n)) =
    let here = and_step (f a) (f (a + 1)) (g a) (g (a + 1)) in
    let rest = and-turns f g (a + 1) (suc n) in
    omega (arith, here, rest)

within-turns : (run : Run) (a n : ℕ) → turns equal (values (is_within run) a n) ≤ 2
within-turns run a n =
    let both = and-turns (λ k. nat_le run.start k) (λ k. nat_lt k run.end) a n in
    omega (arith, both, from-turns run.start a n, to-turns run.end a n)

near-turns : (run : Run) (a n : ℕ) → turns equal (values (is_near run) a n) ≤ 2
near-turns run a n =
    let both = and-turns (λ k. nat_le run.start (k + 1000)) (λ k. nat_lt k (run.end + 1000)) a n in
    omega (arith, both, past-turns run.start 1000 a n, to-turns (run.end + 1000) a n)

never-turns : (a n : ℕ) → turns equal (values (λ k. false) a n) ≡ 0
never-turns a n = settled false (λ k. false) a n (λ k is. refl) refl

-- ---- partners and standings

abbrev pub none : Option (ℕ × Bool)
none = None

-- whether the partner of a line follows that of the line before it
unfoldable pub follows : Option (ℕ × Bool) → Option (ℕ × Bool) → Bool
follows None None = true
follows None (Some (next, alike)) = false
follows (Some (old, same)) None = false
follows (Some (old, same)) (Some (next, alike)) = (old + 1 == next) && equal same alike

-- whether a line could be in one step with the line before it
unfoldable pub goes_on : Standing → Standing → Bool
goes_on (stays old) (stays next) = old + 1 == next
goes_on (is_restyled old) (is_restyled next) = old + 1 == next
goes_on is_sent is_sent = true
goes_on is_left is_left = true
goes_on how other = false

sent_goes_on : (b : Bool) → goes_on (cond b is_sent is_left) (cond b is_sent is_left) ≡ true
unfolding goes_on
sent_goes_on true = refl
sent_goes_on false = refl

kept_goes_on : (b c : Bool) (old next : ℕ) → (old + 1 == next) ≡ true →
    goes_on (cond b (stays old) (cond c is_sent is_left)) (cond b (stays next) (cond c is_sent is_left)) ≡ true
unfolding goes_on
kept_goes_on true c old next is = is
kept_goes_on false c old next is = sent_goes_on c

restyled_goes_on : (b : Bool) (old next : ℕ) → (old + 1 == next) ≡ true →
    goes_on (cond b (is_restyled old) (cond b is_sent is_left)) (cond b (is_restyled next) (cond b is_sent is_left)) ≡ true
unfolding goes_on
restyled_goes_on true old next is = is
restyled_goes_on false old next is = refl

-- lines that stand alike go on where their partners do
level : (near within asked : Bool) (p q : Option (ℕ × Bool)) → follows p q ≡ true → goes_on (stand_by near within asked p) (stand_by near within asked q) ≡ true
unfolding follows stand_by
level near within asked None None is = sent_goes_on (within || asked)
level near within asked None (Some (next, alike)) is = let broken = is in cc
level near within asked (Some (old, same)) None is = let broken = is in cc
level near within asked (Some (old, true)) (Some (next, true)) is =
    kept_goes_on (near || asked) (within || asked) old next (and_parts (old + 1 == next) (equal true true) is).0
level near within asked (Some (old, false)) (Some (next, false)) is =
    restyled_goes_on (within || asked) old next (and_parts (old + 1 == next) (equal false false) is).0
level near within asked (Some (old, true)) (Some (next, false)) is = let broken = equal-true true false (and_parts (old + 1 == next) (equal true false) is).1 in cc
level near within asked (Some (old, false)) (Some (next, true)) is = let broken = equal-true false true (and_parts (old + 1 == next) (equal false true) is).1 in cc

turn_step : (near nigh within inside asked wanted : Bool) (p q : Option (ℕ × Bool)) →
    unless (goes_on (stand_by near within asked p) (stand_by nigh inside wanted q))
    ≤ unless (equal near nigh) + unless (equal within inside) + unless (equal asked wanted) + unless (follows p q)
turn_step near nigh within inside asked wanted p q =
    by (cases_Bool (equal near nigh)) (cases_Bool (equal within inside)) (cases_Bool (equal asked wanted)) (cases_Bool (follows p q))
  where
    one : unless (goes_on (stand_by near within asked p) (stand_by nigh inside wanted q)) ≤ 1
    one = at_most_one (goes_on (stand_by near within asked p) (stand_by nigh inside wanted q))

    by : ((equal near nigh) ≡ true ⊎ (equal near nigh) ≡ false) → ((equal within inside) ≡ true ⊎ (equal within inside) ≡ false) →
        ((equal asked wanted) ≡ true ⊎ (equal asked wanted) ≡ false) → ((follows p q) ≡ true ⊎ (follows p q) ≡ false) →
        unless (goes_on (stand_by near within asked p) (stand_by nigh inside wanted q))
        ≤ unless (equal near nigh) + unless (equal within inside) + unless (equal asked wanted) + unless (follows p q)
    by (inr is) b c d = omega (arith, one, ap unless is)
    by (inl a) (inr is) c d = omega (arith, one, ap unless is)
    by (inl a) (inl b) (inr is) d = omega (arith, one, ap unless is)
    by (inl a) (inl b) (inl c) (inr is) = omega (arith, one, ap unless is)
    by (inl a) (inl b) (inl c) (inl d) =
        let same : stand_by nigh inside wanted q ≡ stand_by near within asked q =
        ap₂ (λ n w. stand_by n w wanted q) (sym (equal-true near nigh a)) (sym (equal-true within inside b)) ∙
        ap (λ r. stand_by near within r q) (sym (equal-true asked wanted c)) in
        let goes = ap (goes_on (stand_by near within asked p)) same ∙ level near within asked p q d in
        omega (arith, ap unless goes)

stand-turns : (near within asked : ℕ → Bool) (partner : ℕ → Option (ℕ × Bool)) (a n : ℕ) →
    turns goes_on (values (λ k. stand_by (near k) (within k) (asked k) (partner k)) a n)
    ≤ turns equal (values near a n) + turns equal (values within a n) + turns equal (values asked a n) + turns follows (values partner a n)
stand-turns near within asked partner a zero = omega arith
stand-turns near within asked partner a (suc zero) = omega arith
stand-turns near within asked partner a (suc (suc n)) =
    let here = turn_step (near a) (near (a + 1)) (within a) (within (a + 1)) (asked a) (asked (a + 1)) (partner a) (partner (a + 1)) in
    let rest = stand-turns near within asked partner (a + 1) (suc n) in
    omega (arith, here, rest)

none-turns : (a n : ℕ) → turns follows (values (λ k. none) a n) ≡ 0
unfolding follows
none-turns a zero = refl
none-turns a (suc zero) = refl
none-turns a (suc (suc n)) = let rest = none-turns (a + 1) (suc n) in omega (arith, rest)

-- lines that have partners turn so often beside the turns of their partners, and lines that have none
pub all-turns : (window request : Run) (partner : ℕ → Option (ℕ × Bool)) (n : ℕ) →
    turns goes_on (values (λ k. stand_by (is_near window k) (is_within window k) (is_within request k) (partner k)) 0 n)
    ≤ 6 + turns follows (values partner 0 n)
all-turns window request partner n =
    omega (
      arith,
      stand-turns (is_near window) (is_within window) (is_within request) partner 0 n,
      near-turns window 0 n,
      within-turns window 0 n,
      within-turns request 0 n,
    )

pub lone-turns : (window request : Run) (n : ℕ) →
    turns goes_on (values (λ k. stand_by false (is_within window k) (is_within request k) none) 0 n) ≤ 4
lone-turns window request n =
    omega (
      arith,
      stand-turns (λ k. false) (is_within window) (is_within request) (λ k. none) 0 n,
      never-turns 0 n,
      none-turns 0 n,
      within-turns window 0 n,
      within-turns request 0 n,
    )
