-- Lemmas on how many steps a plan has.
use Rattle.std.proofs.Common.{◌≡◌, ℕ, zero, suc, ◌+◌, ◌-◌, ◌*◌, ◌<◌, ◌≤◌, ◌==◌, ◌&&◌, Bool, true, false, cond, List, [], ◌∷◌, ◌++◌, length, map, take, drop, replicate, Some, None, refl, sym, ap, ap₂, ◌∙◌, arith}
use Rattle.std.specs.Prelude.{Option}
use Rattle.std.specs.List.{range_with_len}
use Rattle.std.proofs.lemmas.Bool.{eq-eqb}
use Rattle.std.proofs.lemmas.List.{drop-drop, drop_more, map-append}
use Rattle.std.proofs.lemmas.List.Concat.{flat_map-cons}
use Rattle.plain_text.specs.declared.run.Run.{Run}
use Rattle.plain_screen.specs.Plan.{Standing, stays, is_restyled, is_sent, is_left, is_near, is_within, standing}
use Rattle.subset_runs.specs.Subset.{contains}
use Rattle.line_cache.specs.Runs.{runs_after, run_count}
use Rattle.line_cache.specs.Stays.{AreStays, AreStaysFrom, if_true, partner_by}
use Rattle.line_cache.specs.Steps.{AreLongest, ArePlacedFrom, if_next, is_shown, joined_steps, lines_of, shown_by, standings_in, standings_of}
use Rattle.line_cache.specs.declared.stay.Stay.{Stay}
use Rattle.line_cache.specs.declared.step.Step.{Step}
use Rattle.line_cache.specs.declared.step.Step.TheVariants.{Keep, Restyle, Send, Drop}
use Rattle.line_cache.proofs.PlanLemmas.{stand_by, stand-is}
use Rattle.line_cache.proofs.RangeLemmas.{map-range, range-parts}
use Rattle.line_cache.proofs.StayLemmas.{AreStaysFrom-within, partner-before, partner-in, partner-none, partner-past}
use Rattle.line_cache.proofs.TurnLemmas.{all-turns, equal-same, follows, goes_on, last_of, lone-turns, none, turns, turns-append, unless, values}

-- ---- a plan has as many steps as its standings turn

first_in : Step → Standing
first_in (Keep old n) = stays old
first_in (Restyle old n) = is_restyled old
first_in (Send first n) = is_sent
first_in (Drop n) = is_left

rest_in : Step → List Standing
rest_in (Keep old n) = map stays (range_with_len (old + 1) (n - 1))
rest_in (Restyle old n) = map is_restyled (range_with_len (old + 1) (n - 1))
rest_in (Send first n) = replicate (n - 1) is_sent
rest_in (Drop n) = replicate (n - 1) is_left

last_in : Step → Standing
last_in (Keep old n) = stays (old + (n - 1))
last_in (Restyle old n) = is_restyled (old + (n - 1))
last_in (Send first n) = is_sent
last_in (Drop n) = is_left

last-olds : (kind : ℕ → Standing) (old n : ℕ) → last_of (kind old) (map kind (range_with_len (old + 1) n)) ≡ kind (old + n)
last-olds kind old zero = let same : old ≡ old + 0 = omega arith in ap kind same
last-olds kind old (suc n) = let same : old + 1 + n ≡ old + suc n = omega arith in last-olds kind (old + 1) n ∙ ap kind same

last-same : (how : Standing) (n : ℕ) → last_of how (replicate n how) ≡ how
last-same how zero = refl
last-same how (suc n) = last-same how n

olds-said : (kind : ℕ → Standing) (old n : ℕ) → 0 < n → map kind (range_with_len old n) ≡ kind old ∷ map kind (range_with_len (old + 1) (n - 1))
olds-said kind old zero some = absurd (omega (arith, some))
olds-said kind old (suc n) some = let same : n ≡ suc n - 1 = omega arith in ap (λ m. kind old ∷ map kind (range_with_len (old + 1) m)) same

same-said : (how : Standing) (n : ℕ) → 0 < n → replicate n how ≡ how ∷ replicate (n - 1) how
same-said how zero some = absurd (omega (arith, some))
same-said how (suc n) some = let same : n ≡ suc n - 1 = omega arith in ap (λ m. how ∷ replicate m how) same

said : (step : Step) → 0 < lines_of step → standings_in step ≡ first_in step ∷ rest_in step
unfolding first_in rest_in
said (Keep old n) some = olds-said stays old n some
said (Restyle old n) some = olds-said is_restyled old n some
said (Send first n) some = same-said is_sent n some
said (Drop n) some = same-said is_left n some

last-said : (step : Step) → last_of (first_in step) (rest_in step) ≡ last_in step
unfolding first_in rest_in last_in
last-said (Keep old n) = last-olds stays old (n - 1)
last-said (Restyle old n) = last-olds is_restyled old (n - 1)
last-said (Send first n) = last-same is_sent (n - 1)
last-said (Drop n) = last-same is_left (n - 1)

-- steps that could not be one turn
next-turns : (old n next : ℕ) (both : Step) → 0 < n → if_next (old + n == next) both ≡ None → (old + (n - 1) + 1 == next) ≡ false
next-turns old n next both some none =
    let same : old + (n - 1) + 1 ≡ old + n = omega (arith, some) in ap (λ m. m == next) same ∙ by (old + n == next) none
  where
    by : (b : Bool) → if_next b both ≡ None → b ≡ false
    by true is = let broken = is in cc
    by false is = refl

joined-turns : (step next : Step) (at : ℕ) (plan : List Step) → 0 < lines_of step → joined_steps step next ≡ None → ArePlacedFrom at (step ∷ next ∷ plan) →
    goes_on (last_in step) (first_in next) ≡ false
unfolding first_in last_in goes_on
joined-turns (Keep old n) (Keep next m) at plan some none placed = next-turns old n next _ some none
joined-turns (Restyle old n) (Restyle next m) at plan some none placed = next-turns old n next _ some none
joined-turns (Send first n) (Send next m) at plan some none placed =
    let here : first + n ≡ next = omega (arith, placed.0, placed.1.0) in
    let broken = sym (ap (λ b. if_next b (Send first (n + m))) (eq-eqb (first + n) next here)) ∙ none in cc
joined-turns (Drop n) (Drop m) at plan some none placed = let broken = none in cc
joined-turns (Keep old n) (Restyle next m) at plan some none placed = refl
joined-turns (Keep old n) (Send next m) at plan some none placed = refl
joined-turns (Keep old n) (Drop m) at plan some none placed = refl
joined-turns (Restyle old n) (Keep next m) at plan some none placed = refl
joined-turns (Restyle old n) (Send next m) at plan some none placed = refl
joined-turns (Restyle old n) (Drop m) at plan some none placed = refl
joined-turns (Send first n) (Keep next m) at plan some none placed = refl
joined-turns (Send first n) (Restyle next m) at plan some none placed = refl
joined-turns (Send first n) (Drop m) at plan some none placed = refl
joined-turns (Drop n) (Keep next m) at plan some none placed = refl
joined-turns (Drop n) (Restyle next m) at plan some none placed = refl
joined-turns (Drop n) (Send next m) at plan some none placed = refl

steps-turn : (at : ℕ) (step : Step) (plan : List Step) → AreLongest (step ∷ plan) → ArePlacedFrom at (step ∷ plan) →
    length (step ∷ plan) ≤ 1 + turns goes_on (standings_of (step ∷ plan))
steps-turn at step [] longest placed = omega arith
steps-turn at step (next ∷ plan) longest placed =
    let rest = steps-turn (at + lines_of step) next plan longest.2 placed.1 in
    let later = first_in next ∷ (rest_in next ++ standings_of plan) in
    let more : 0 < lines_of next = some-lines next plan longest.2 in
    let behind : standings_of (next ∷ plan) ≡ later = flat_map-cons standings_in next plan ∙ ap (λ xs. xs ++ standings_of plan) (said next more) in
    let all : standings_of (step ∷ next ∷ plan) ≡ (first_in step ∷ rest_in step) ++ later =
    flat_map-cons standings_in step (next ∷ plan) ∙ ap₂ (λ xs ys. xs ++ ys) (said step longest.0) behind in
    let apart = ap (λ how. goes_on how (first_in next)) (last-said step) ∙ joined-turns step next at plan longest.0 longest.1 placed in
    let seam = turns-append goes_on (first_in step) (rest_in step) (first_in next) (rest_in next ++ standings_of plan) in
    omega (arith, rest, seam, ap unless apart, ap (turns goes_on) all, ap (turns goes_on) behind)
  where
    some-lines : (step : Step) (plan : List Step) → AreLongest (step ∷ plan) → 0 < lines_of step
    some-lines step [] longest = longest
    some-lines step (next ∷ plan) longest = longest.0

steps-few : (plan : List Step) → AreLongest plan → ArePlacedFrom 0 plan → length plan ≤ 1 + turns goes_on (standings_of plan)
steps-few [] longest placed = omega arith
steps-few (step ∷ plan) longest placed = steps-turn 0 step plan longest placed

-- ---- how many runs of partners there are

has : Option (ℕ × Bool) → ℕ
has None = 0
has (Some partner) = 1

abbrev begins_after : Option (ℕ × Bool) → List (Option (ℕ × Bool)) → ℕ
begins_after before [] = 0
begins_after before (None ∷ xs) = begins_after None xs
begins_after before (Some p ∷ xs) = unless (follows before (Some p)) + begins_after (Some p) xs

-- each run begins once and ends once
begins-turn : (x : Option (ℕ × Bool)) (xs : List (Option (ℕ × Bool))) → turns follows (x ∷ xs) ≤ has x + 2 * begins_after x xs
unfolding has follows
begins-turn x [] = omega arith
begins-turn None (None ∷ xs) = let rest = begins-turn None xs in omega (arith, rest)
begins-turn (Some p) (None ∷ xs) = let rest = begins-turn None xs in omega (arith, rest)
begins-turn None (Some q ∷ xs) = let rest = begins-turn (Some q) xs in omega (arith, rest)
begins-turn (Some p) (Some q ∷ xs) = let rest = begins-turn (Some q) xs in omega (arith, rest)

begins-all : (xs : List (Option (ℕ × Bool))) → turns follows xs ≤ 2 * begins_after none xs
unfolding has follows
begins-all [] = omega arith
begins-all (None ∷ xs) = let rest = begins-turn None xs in omega (arith, rest)
begins-all (Some p ∷ xs) = let rest = begins-turn (Some p) xs in omega (arith, rest)

one_at_most : (b : Bool) → unless b ≤ 1
one_at_most true = omega arith
one_at_most false = omega arith

begins-most : (x : Option (ℕ × Bool)) (xs : List (Option (ℕ × Bool))) → begins_after x xs ≤ begins_after none xs
unfolding follows
begins-most x [] = omega arith
begins-most x (None ∷ xs) = omega arith
begins-most x (Some p ∷ xs) = let one = one_at_most (follows x (Some p)) in omega (arith, one)

begins-append : (x : Option (ℕ × Bool)) (xs ys : List (Option (ℕ × Bool))) → begins_after x (xs ++ ys) ≤ begins_after x xs + begins_after none ys
begins-append x [] ys = let most = begins-most x ys in omega (arith, most)
begins-append x (None ∷ xs) ys = begins-append None xs ys
begins-append x (Some p ∷ xs) ys = let rest = begins-append (Some p) xs ys in omega (arith, rest)

begins-none : (f : ℕ → Option (ℕ × Bool)) (a n : ℕ) → ((k : ℕ) → k < n → f (a + k) ≡ None) → begins_after none (values f a n) ≡ 0
begins-none f a zero none_of = refl
begins-none f a (suc n) none_of =
    let here : a ≡ a + 0 = omega arith in
    ap (λ x. begins_after none (x ∷ values f (a + 1) n)) (ap f here ∙ none_of 0 (omega arith)) ∙
    begins-none f (a + 1) n (λ k lt. let on : a + 1 + k ≡ a + (k + 1) = omega arith in ap f on ∙ none_of (k + 1) (omega (arith, lt)))

-- ---- of valid lines

runs-less : (truths : List Bool) → (runs_after true truths ≤ runs_after false truths) × (runs_after false truths ≤ 1 + runs_after true truths)
runs-less [] = (omega arith, omega arith)
runs-less (true ∷ truths) = (omega arith, omega arith)
runs-less (false ∷ truths) = (omega arith, omega arith)

runs-parts : (before : Bool) (n : ℕ) (truths : List Bool) → runs_after before (take n truths) + run_count (drop n truths) ≤ 1 + runs_after before truths
runs-parts true zero truths = let less = runs-less truths in omega (arith, less.1)
runs-parts false zero truths = omega arith
runs-parts before (suc n) [] = omega arith
runs-parts before (suc n) (true ∷ truths) = let rest = runs-parts true n truths in omega (arith, rest)
runs-parts before (suc n) (false ∷ truths) = let rest = runs-parts false n truths in omega (arith, rest)

runs-front : (before : Bool) (n : ℕ) (truths : List Bool) → runs_after before (take n truths) ≤ runs_after before truths
runs-front before zero truths = omega arith
runs-front before (suc n) [] = omega arith
runs-front before (suc n) (true ∷ truths) = let rest = runs-front true n truths in omega (arith, rest)
runs-front before (suc n) (false ∷ truths) = let rest = runs-front false n truths in omega (arith, rest)

runs-back : (n : ℕ) (truths : List Bool) → run_count (drop n truths) ≤ run_count truths
runs-back zero truths = omega arith
runs-back (suc n) [] = omega arith
runs-back (suc n) (true ∷ truths) = let rest = runs-back n truths in let less = runs-less truths in omega (arith, rest, less.1)
runs-back (suc n) (false ∷ truths) = runs-back n truths

-- the partners in one run begin as often as runs of valid lines do
abbrev Behind : Bool → ℕ → Bool → Option (ℕ × Bool) → Type 0
Behind before old same x = before ≡ true → follows x (Some (old, same)) ≡ true

follows-next : (old : ℕ) (same : Bool) → follows (Some (old, same)) (Some (old + 1, same)) ≡ true
unfolding follows
follows-next old same = ap₂ (λ a b. a && b) (eq-eqb (old + 1) (old + 1) refl) (equal-same same)

begins-part : (truths : List Bool) (same : Bool) (before : Bool) (x : Option (ℕ × Bool)) (old n : ℕ) → old + n ≤ length truths → Behind before old same x →
    begins_after x (values (λ k. if_true truths (Some (k, same))) old n) ≤ runs_after before (take n (drop old truths))
begins-part truths same before x old zero within behind = omega arith
begins-part truths same before x old (suc n) within behind =
    let cut = ap (λ rest. runs_after before (take (suc n) rest)) (drop_more truths old false (omega (arith, within))) in
    let rest : (b : Bool) (y : Option (ℕ × Bool)) → Behind b (old + 1) same y →
    begins_after y (values (λ k. if_true truths (Some (k, same))) (old + 1) n) ≤ runs_after b (take n (drop (old + 1) truths)) =
    λ b y on. begins-part truths same b y (old + 1) n (omega (arith, within)) on in
    by (contains truths old) before behind rest cut
  where
    by : (b before : Bool) → Behind before old same x →
        ((b : Bool) (y : Option (ℕ × Bool)) → Behind b (old + 1) same y →
        begins_after y (values (λ k. if_true truths (Some (k, same))) (old + 1) n) ≤ runs_after b (take n (drop (old + 1) truths))) →
        runs_after before (take (suc n) (drop old truths)) ≡ runs_after before (b ∷ take n (drop (old + 1) truths)) →
        begins_after x (cond b (Some (old, same)) None ∷ values (λ k. if_true truths (Some (k, same))) (old + 1) n)
        ≤ runs_after before (take (suc n) (drop old truths))
    by true true on rest cut = let later = rest true (Some (old, same)) (λ is. follows-next old same) in omega (arith, later, cut, ap unless (on refl))
    by true false on rest cut =
        let later = rest true (Some (old, same)) (λ is. follows-next old same) in
        let one = one_at_most (follows x (Some (old, same))) in omega (arith, later, cut, one)
    by false before on rest cut = let later = rest false None (λ is. absurd cc) in omega (arith, later, cut)

-- ---- of all lines that stay

abbrev partner_of : List Bool → List Stay → ℕ → Option (ℕ × Bool)
partner_of truths runs k = if_true truths (partner_by runs k)

values-parts : (f : ℕ → Option (ℕ × Bool)) (a n m : ℕ) → values f a (n + m) ≡ values f a n ++ values f (a + n) m
values-parts f a n m = ap (map f) (range-parts a n m) ∙ map-append f (range_with_len a n) (range_with_len (a + n) m)

none-stay : (truths : List Bool) (a n : ℕ) → begins_after none (values (partner_of truths []) a n) ≡ 0
none-stay truths a n = begins-none (partner_of truths []) a n (λ k lt. refl)

begins-stay : (truths : List Bool) (stay : Stay) (runs : List Stay) (old new total : ℕ) → AreStaysFrom old new (length truths) total (stay ∷ runs) →
    begins_after none (values (partner_of truths (stay ∷ runs)) new (total - new))
    ≤ run_count (take stay.n (drop stay.old truths))
    + begins_after none (values (partner_of truths runs) (stay.new + stay.n) (total - (stay.new + stay.n)))
begins-stay truths stay runs old new total are =
    let end = AreStaysFrom-within (stay.old + stay.n) (stay.new + stay.n) (length truths) total runs are.2 in
    let f = partner_of truths (stay ∷ runs) in
    let gap = stay.new - new in
    let left = total - (stay.new + stay.n) in
    let sum : total - new ≡ gap + (stay.n + left) = omega (arith, end.1, are.1) in
    let start : new + gap ≡ stay.new = omega (arith, are.1) in
    let parts : values f new (total - new) ≡ values f new gap ++ (values f stay.new stay.n ++ values f (stay.new + stay.n) left) =
    ap (values f new) sum ∙ values-parts f new gap (stay.n + left) ∙
    ap (λ a. values f new gap ++ values f a (stay.n + left)) start ∙ ap (λ xs. values f new gap ++ xs) (values-parts f stay.new stay.n left) in
    let first : begins_after none (values f new gap) ≡ 0 =
    begins-none f new gap (λ k lt. ap (if_true truths) (partner-before stay runs (new + k) (omega (arith, lt)) ∙
    partner-none (stay.old + stay.n) (stay.new + stay.n) (length truths) total runs (new + k) are.2 (omega (arith, lt)))) in
    let own : values f stay.new stay.n ≡ values (λ k. if_true truths (Some (k, stay.same))) stay.old stay.n =
    map-range f (λ k. if_true truths (Some (k, stay.same))) stay.new stay.old stay.n (λ k lt.
    let here : stay.old + (stay.new + k - stay.new) ≡ stay.old + k = omega arith in
    ap (if_true truths) (partner-in stay runs (stay.new + k) (omega arith) (omega (arith, lt)) ∙ ap (λ m. Some (m, stay.same)) here)) in
    let mine = begins-part truths stay.same false none stay.old stay.n end.0 (λ is. absurd cc) in
    let later : values f (stay.new + stay.n) left ≡ values (partner_of truths runs) (stay.new + stay.n) left =
    map-range f (partner_of truths runs) (stay.new + stay.n) (stay.new + stay.n) left
    (λ k lt. ap (if_true truths) (partner-past stay runs (stay.new + stay.n + k) (omega arith))) in
    let one = begins-append none (values f new gap) (values f stay.new stay.n ++ values f (stay.new + stay.n) left) in
    let two = begins-append none (values f stay.new stay.n) (values f (stay.new + stay.n) left) in
    omega (arith, ap (begins_after none) parts, first, ap (begins_after none) own, mine, ap (begins_after none) later, one, two)

further-runs : (truths : List Bool) (old next : ℕ) → old ≤ next → run_count (drop next truths) ≤ run_count (drop old truths)
further-runs truths old next le =
    let sum : next ≡ old + (next - old) = omega (arith, le) in
    let further : drop next truths ≡ drop (next - old) (drop old truths) = ap (λ n. drop n truths) sum ∙ sym (drop-drop (next - old) old truths) in
    omega (arith, ap run_count further, runs-back (next - old) (drop old truths))

begins-stays : (truths : List Bool) (stay : Stay) (runs : List Stay) (old new total : ℕ) → AreStaysFrom old new (length truths) total (stay ∷ runs) →
    begins_after none (values (partner_of truths (stay ∷ runs)) new (total - new)) ≤ length runs + run_count (drop old truths)
begins-stays truths stay [] old new total are =
    omega (
      arith,
      begins-stay truths stay [] old new total are,
      further-runs truths old stay.old are.0,
      runs-front false stay.n (drop stay.old truths),
      none-stay truths (stay.new + stay.n) (total - (stay.new + stay.n)),
    )
begins-stays truths stay (next ∷ runs) old new total are =
    let later = begins-stays truths next runs (stay.old + stay.n) (stay.new + stay.n) total are.2 in
    let cut = ap run_count (drop-drop stay.n stay.old truths) in
    omega (
      arith,
      begins-stay truths stay (next ∷ runs) old new total are,
      further-runs truths old stay.old are.0,
      later,
      cut,
      runs-parts false stay.n (drop stay.old truths),
    )

-- ---- of a plan

module _ (window request : Run) (truths : List Bool) (total : ℕ) where
  abbrev stands : List Stay → ℕ → Standing
  stands runs index = standing window request index (if_true truths (partner_by runs index))

  stands-by : (runs : List Stay) (n : ℕ) →
      values (stands runs) 0 n ≡ values (λ k. stand_by (is_near window k) (is_within window k) (is_within request k) (partner_of truths runs k)) 0 n
  stands-by runs n = map-range _ _ 0 0 n (λ k lt. stand-is window request (0 + k) (partner_of truths runs (0 + k)))

  stands-alone : (n : ℕ) → values (stands []) 0 n ≡ values (λ k. stand_by false (is_within window k) (is_within request k) none) 0 n
  unfolding stand_by
  stands-alone n = map-range _ _ 0 0 n (λ k lt. refl)

  pub plan-few : (runs : List Stay) (plan : List Step) → AreStays (length truths) total runs → AreLongest plan → ArePlacedFrom 0 plan →
      standings_of plan ≡ values (stands runs) 0 total → length plan ≤ 2 * (run_count truths + length runs) + 5
  plan-few [] plan are longest placed says =
      omega (arith, steps-few plan longest placed, ap (turns goes_on) (says ∙ stands-alone total), lone-turns window request total)
  plan-few (stay ∷ runs) plan are longest placed says =
      let some = begins-stays truths stay runs 0 0 total are in
      let whole : total ≡ total - 0 = omega arith in
      let same = ap (λ n. begins_after none (values (partner_of truths (stay ∷ runs)) 0 n)) whole in
      omega (
        arith,
        steps-few plan longest placed,
        ap (turns goes_on) (says ∙ stands-by (stay ∷ runs) total),
        all-turns window request (partner_of truths (stay ∷ runs)) total,
        begins-all (values (partner_of truths (stay ∷ runs)) 0 total),
        some,
        same,
      )

-- ---- of the lines after a plan

same-runs : (b : Bool) (n : ℕ) (truths : List Bool) → runs_after b (replicate n b ++ truths) ≡ runs_after b truths
same-runs b zero truths = refl
same-runs true (suc n) truths = let rest = same-runs true n truths in omega (arith, rest)
same-runs false (suc n) truths = same-runs false n truths

runs-step : (before b : Bool) (n : ℕ) (truths : List Bool) (most : ℕ) → ((c : Bool) → runs_after c truths ≤ most) →
    runs_after before (replicate n b ++ truths) ≤ 1 + most
runs-step before b zero truths most few = let own = few before in omega (arith, own)
runs-step true true (suc n) truths most few = let own = few true in omega (arith, own, same-runs true n truths)
runs-step false true (suc n) truths most few = let own = few true in omega (arith, own, same-runs true n truths)
runs-step before false (suc n) truths most few = let own = few false in omega (arith, own, same-runs false n truths)

pub shown-few : (before : Bool) (plan : List Step) → runs_after before (shown_by plan) ≤ length plan
shown-few before [] = omega arith
shown-few before (step ∷ plan) =
    let whole = ap (runs_after before) (flat_map-cons (λ s. replicate (lines_of s) (is_shown s)) step plan) in
    let own = runs-step before (is_shown step) (lines_of step) (shown_by plan) (length plan) (λ c. shown-few c plan) in
    omega (arith, whole, own)
