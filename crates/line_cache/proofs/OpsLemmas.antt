-- Lemmas on the operations of a plan: neighbours of one kind are joined within each step, and no two steps join.
use Rattle.std.proofs.Common.{◌≡◌, ⊎_elim, ℕ, zero, suc, ◌+◌, ◌-◌, ◌<◌, ◌≤◌, nat_lt, ◌==◌, Bool, true, false, cond, List, [], ◌∷◌, ◌++◌, length, map, take, drop, replicate, Some, None, refl, sym, ap, ap₂, subst, ◌∙◌, arith, length-append, length-take-le, take-append-drop, take_at, drop_at}
use Rattle.std.specs.Prelude.{Option}
use Rattle.std.specs.List.{range_with_len, zip}
use Rattle.std.proofs.lemmas.Bool.{cases_lt, lt-ltb, le-ltb, eq-eqb}
use Rattle.std.proofs.lemmas.List.Concat.{flat_map-cons}
use Rattle.plain_screen.specs.declared.screen.Line.{Line}
use Rattle.plain_screen.specs.declared.screen.Op.{Op}
use Rattle.plain_screen.specs.declared.screen.Op.TheVariants.{Copy, Skip, Invalidate, Ins, Update}
use Rattle.plain_screen.specs.Plan.{Standing, stays, is_restyled, is_sent, is_left, joined_ops, onto_ops, ops_for, or_number, restyle_of, skip_for}
use Rattle.line_cache.specs.Ops.{first_number, first_of, lines_at, numbers_at, ops_by}
use Rattle.line_cache.specs.Steps.{AreLongest, ArePlacedFrom, TakesFrom, if_next, lines_in, lines_of, standings_in, standings_of}
use Rattle.line_cache.specs.declared.step.Step.{Step}
use Rattle.line_cache.specs.declared.step.Step.TheVariants.{Keep, Restyle, Send, Drop}
use Rattle.line_cache.proofs.StepLemmas.{lines_in-append, lines_in-one}
use Rattle.line_cache.proofs.TakenLemmas.{longest-first, longest-rest}

-- ---- operations that do not join

-- the first operation is of this kind
abbrev kind_of : Op → ℕ
kind_of (Copy n ln) = 0
kind_of (Skip n) = 1
kind_of (Invalidate n) = 2
kind_of (Ins lines) = 3
kind_of (Update ln lines) = 4

abbrev Begins : ℕ → List Op → Type 0
Begins kind [] = ⊥
Begins kind (op ∷ ops) = kind_of op ≡ kind

copy-apart : (n : ℕ) (ln : Option ℕ) (ops : List Op) → (Begins 0 ops → ⊥) → onto_ops (Copy n ln) ops ≡ Copy n ln ∷ ops
copy-apart n ln [] other = refl
copy-apart n ln (Copy m number ∷ ops) other = absurd (other refl)
copy-apart n ln (Skip m ∷ ops) other = refl
copy-apart n ln (Invalidate m ∷ ops) other = refl
copy-apart n ln (Ins lines ∷ ops) other = refl
copy-apart n ln (Update number lines ∷ ops) other = refl

update-apart : (ln : Option ℕ) (restyles : List _) (ops : List Op) → (Begins 4 ops → ⊥) → onto_ops (Update ln restyles) ops ≡ Update ln restyles ∷ ops
update-apart ln restyles [] other = refl
update-apart ln restyles (Copy m number ∷ ops) other = refl
update-apart ln restyles (Skip m ∷ ops) other = refl
update-apart ln restyles (Invalidate m ∷ ops) other = refl
update-apart ln restyles (Ins lines ∷ ops) other = refl
update-apart ln restyles (Update number lines ∷ ops) other = absurd (other refl)

ins-apart : (lines : List Line) (ops : List Op) → (Begins 3 ops → ⊥) → onto_ops (Ins lines) ops ≡ Ins lines ∷ ops
ins-apart lines [] other = refl
ins-apart lines (Copy m number ∷ ops) other = refl
ins-apart lines (Skip m ∷ ops) other = refl
ins-apart lines (Invalidate m ∷ ops) other = refl
ins-apart lines (Ins more ∷ ops) other = absurd (other refl)
ins-apart lines (Update number more ∷ ops) other = refl

invalidate-apart : (n : ℕ) (ops : List Op) → (Begins 2 ops → ⊥) → onto_ops (Invalidate n) ops ≡ Invalidate n ∷ ops
invalidate-apart n [] other = refl
invalidate-apart n (Copy m number ∷ ops) other = refl
invalidate-apart n (Skip m ∷ ops) other = refl
invalidate-apart n (Invalidate m ∷ ops) other = absurd (other refl)
invalidate-apart n (Ins more ∷ ops) other = refl
invalidate-apart n (Update number more ∷ ops) other = refl

-- a skip before an operation that is none
skip-apart : (used old : ℕ) (ops rest : List Op) (op : Op) → joined_ops ops ≡ op ∷ rest → (kind_of op ≡ 1 → ⊥) →
    joined_ops (skip_for used (Some old) ++ ops) ≡ skip_for used (Some old) ++ (op ∷ rest)
skip-apart used old ops rest op is other = by (nat_lt used old)
  where
    onto : (n : ℕ) (first : Op) → (kind_of first ≡ 1 → ⊥) → onto_ops (Skip n) (first ∷ rest) ≡ Skip n ∷ first ∷ rest
    onto n (Copy m number) no_skip = refl
    onto n (Skip m) no_skip = absurd (no_skip refl)
    onto n (Invalidate m) no_skip = refl
    onto n (Ins more) no_skip = refl
    onto n (Update number more) no_skip = refl

    by : (b : Bool) → joined_ops (cond b (Skip (old - used) ∷ []) [] ++ ops) ≡ cond b (Skip (old - used) ∷ []) [] ++ (op ∷ rest)
    by true = ap (onto_ops (Skip (old - used))) is ∙ onto (old - used) op other
    by false = is

-- ---- the operations of the lines of one step

or_none : (number : Option ℕ) → or_number number None ≡ number
or_none None = refl
or_none (Some n) = refl

no_skip : (old : ℕ) → skip_for old (Some old) ≡ []
no_skip old = ap (λ b. cond b (Skip (old - old) ∷ []) []) (le-ltb old old (omega arith))

joined-copies : (line : Line) (lines : List Line) (ops : List Op) → (Begins 0 (joined_ops ops) → ⊥) →
    joined_ops (map (λ l. Copy 1 l.ln) (line ∷ lines) ++ ops) ≡ Copy (length (line ∷ lines)) (first_number (line ∷ lines)) ∷ joined_ops ops
joined-copies line [] ops other =
    copy-apart 1 line.ln (joined_ops ops) other ∙ ap (λ number. Copy 1 number ∷ joined_ops ops) (sym (or_none line.ln))
joined-copies line (next ∷ lines) ops other =
    ap (onto_ops (Copy 1 line.ln)) (joined-copies next lines ops other) ∙
    (let same : 1 + length (next ∷ lines) ≡ length (line ∷ next ∷ lines) = omega arith in
    ap (λ n. Copy n (or_number line.ln (first_number (next ∷ lines))) ∷ joined_ops ops) same)

joined-updates : (line : Line) (lines : List Line) (ops : List Op) → (Begins 4 (joined_ops ops) → ⊥) →
    joined_ops (map (λ l. Update l.ln (restyle_of l ∷ [])) (line ∷ lines) ++ ops)
    ≡ Update (first_number (line ∷ lines)) (map restyle_of (line ∷ lines)) ∷ joined_ops ops
joined-updates line [] ops other =
    update-apart line.ln (restyle_of line ∷ []) (joined_ops ops) other ∙
    ap (λ number. Update number (restyle_of line ∷ []) ∷ joined_ops ops) (sym (or_none line.ln))
joined-updates line (next ∷ lines) ops other = ap (onto_ops (Update line.ln (restyle_of line ∷ []))) (joined-updates next lines ops other)

joined-inserts : (line : Line) (lines : List Line) (ops : List Op) → (Begins 3 (joined_ops ops) → ⊥) →
    joined_ops (map (λ l. Ins (l ∷ [])) (line ∷ lines) ++ ops) ≡ Ins (line ∷ lines) ∷ joined_ops ops
joined-inserts line [] ops other = ins-apart (line ∷ []) (joined_ops ops) other
joined-inserts line (next ∷ lines) ops other = ap (onto_ops (Ins (line ∷ []))) (joined-inserts next lines ops other)

joined-invalid : (line : Line) (lines : List Line) (ops : List Op) → (Begins 2 (joined_ops ops) → ⊥) →
    joined_ops (map (λ l. Invalidate 1) (line ∷ lines) ++ ops) ≡ Invalidate (length (line ∷ lines)) ∷ joined_ops ops
joined-invalid line [] ops other = invalidate-apart 1 (joined_ops ops) other
joined-invalid line (next ∷ lines) ops other =
    ap (onto_ops (Invalidate 1)) (joined-invalid next lines ops other) ∙
    (let same : 1 + length (next ∷ lines) ≡ length (line ∷ next ∷ lines) = omega arith in
    ap (λ n. Invalidate n ∷ joined_ops ops) same)

-- the operations of lines that all take old lines over, one after the other
ops-kept : (old : ℕ) (lines : List Line) (rest : List (Standing × Line)) →
    ops_for old (zip (map stays (range_with_len old (length lines))) lines ++ rest) ≡ map (λ l. Copy 1 l.ln) lines ++ ops_for (old + length lines) rest
ops-kept old [] rest = let same : old ≡ old + 0 = omega arith in ap (λ n. ops_for n rest) same
ops-kept old (line ∷ lines) rest =
    let same : old + 1 + length lines ≡ old + length (line ∷ lines) = omega arith in
    ap (λ skips. skips ++ (Copy 1 line.ln ∷ ops_for (old + 1) (zip (map stays (range_with_len (old + 1) (length lines))) lines ++ rest))) (no_skip old) ∙
    ap (λ ops. Copy 1 line.ln ∷ ops) (ops-kept (old + 1) lines rest ∙ ap (λ n. map (λ l. Copy 1 l.ln) lines ++ ops_for n rest) same)

ops-restyled : (old : ℕ) (lines : List Line) (rest : List (Standing × Line)) →
    ops_for old (zip (map is_restyled (range_with_len old (length lines))) lines ++ rest)
    ≡ map (λ l. Update l.ln (restyle_of l ∷ [])) lines ++ ops_for (old + length lines) rest
ops-restyled old [] rest = let same : old ≡ old + 0 = omega arith in ap (λ n. ops_for n rest) same
ops-restyled old (line ∷ lines) rest =
    let same : old + 1 + length lines ≡ old + length (line ∷ lines) = omega arith in
    ap (λ skips. skips ++ (Update line.ln (restyle_of line ∷ []) ∷ ops_for (old + 1) (zip (map is_restyled (range_with_len (old + 1) (length lines))) lines ++ rest)))
    (no_skip old) ∙
    ap (λ ops. Update line.ln (restyle_of line ∷ []) ∷ ops)
    (ops-restyled (old + 1) lines rest ∙ ap (λ n. map (λ l. Update l.ln (restyle_of l ∷ [])) lines ++ ops_for n rest) same)

ops-sent : (used : ℕ) (lines : List Line) (rest : List (Standing × Line)) →
    ops_for used (zip (replicate (length lines) is_sent) lines ++ rest) ≡ map (λ l. Ins (l ∷ [])) lines ++ ops_for used rest
ops-sent used [] rest = refl
ops-sent used (line ∷ lines) rest = ap (λ ops. Ins (line ∷ []) ∷ ops) (ops-sent used lines rest)

ops-left : (used : ℕ) (lines : List Line) (rest : List (Standing × Line)) →
    ops_for used (zip (replicate (length lines) is_left) lines ++ rest) ≡ map (λ l. Invalidate 1) lines ++ ops_for used rest
ops-left used [] rest = refl
ops-left used (line ∷ lines) rest = ap (λ ops. Invalidate 1 ∷ ops) (ops-left used lines rest)

-- the first of them takes over an old line past some that are passed over
ops-kept_past : (used old : ℕ) (line : Line) (lines : List Line) (rest : List (Standing × Line)) →
    ops_for used (zip (map stays (range_with_len old (length (line ∷ lines)))) (line ∷ lines) ++ rest)
    ≡ skip_for used (Some old) ++ (map (λ l. Copy 1 l.ln) (line ∷ lines) ++ ops_for (old + length (line ∷ lines)) rest)
ops-kept_past used old line lines rest =
    let same : old + 1 + length lines ≡ old + length (line ∷ lines) = omega arith in
    ap (λ ops. skip_for used (Some old) ++ (Copy 1 line.ln ∷ ops))
    (ops-kept (old + 1) lines rest ∙ ap (λ n. map (λ l. Copy 1 l.ln) lines ++ ops_for n rest) same)

ops-restyled_past : (used old : ℕ) (line : Line) (lines : List Line) (rest : List (Standing × Line)) →
    ops_for used (zip (map is_restyled (range_with_len old (length (line ∷ lines)))) (line ∷ lines) ++ rest)
    ≡ skip_for used (Some old) ++ (map (λ l. Update l.ln (restyle_of l ∷ [])) (line ∷ lines) ++ ops_for (old + length (line ∷ lines)) rest)
ops-restyled_past used old line lines rest =
    let same : old + 1 + length lines ≡ old + length (line ∷ lines) = omega arith in
    ap (λ ops. skip_for used (Some old) ++ (Update line.ln (restyle_of line ∷ []) ∷ ops))
    (ops-restyled (old + 1) lines rest ∙ ap (λ n. map (λ l. Update l.ln (restyle_of l ∷ [])) lines ++ ops_for n rest) same)

-- ---- the whole plan

zip-append : (front back : List Standing) (lines more : List Line) → length front ≡ length lines →
    zip (front ++ back) (lines ++ more) ≡ zip front lines ++ zip back more
zip-append [] back [] more same = refl
zip-append [] back (line ∷ lines) more same = absurd (omega arith)
zip-append (how ∷ front) back [] more same = absurd (omega arith)
zip-append (how ∷ front) back (line ∷ lines) more same = ap (λ those. (how, line) ∷ those) (zip-append front back lines more (omega arith))

length-olds : (kind : ℕ → Standing) (old n : ℕ) → length (map kind (range_with_len old n)) ≡ n
length-olds kind old zero = refl
length-olds kind old (suc n) = ap suc (length-olds kind (old + 1) n)

length-same : (how : Standing) (n : ℕ) → length (replicate n how) ≡ n
length-same how zero = refl
length-same how (suc n) = ap suc (length-same how n)

-- the lines of the first step, and those of the others
zip-step : (step : Step) (plan : List Step) (n : ℕ) (first later : List Line) → length (standings_in step) ≡ n → length first ≡ n →
    zip (standings_of (step ∷ plan)) (first ++ later) ≡ zip (standings_in step) first ++ zip (standings_of plan) later
zip-step step plan n first later count same =
    ap (λ those. zip those (first ++ later)) (flat_map-cons standings_in step plan) ∙
    zip-append (standings_in step) (standings_of plan) first later (count ∙ sym same)

-- what is passed over stands first, else the operation does
begins-past : (used old kind : ℕ) (op : Op) (ops : List Op) → (kind ≡ 1 → ⊥) → (nat_lt used old ≡ false → kind_of op ≡ kind → ⊥) →
    Begins kind (skip_for used (Some old) ++ (op ∷ ops)) → ⊥
begins-past used old kind op ops no_skips other begins = by (nat_lt used old) refl begins
  where
    by : (b : Bool) → nat_lt used old ≡ b → Begins kind (cond b (Skip (old - used) ∷ []) [] ++ (op ∷ ops)) → ⊥
    by true is begun = no_skips (sym begun)
    by false is begun = other is begun

-- next to each other, where nothing is passed over
next_to : (used old : ℕ) → used ≤ old → nat_lt used old ≡ false → (used == old) ≡ true
next_to used old le is = ⊎_elim
    (λ lt. let broken : true ≡ false = sym (lt-ltb used old lt) ∙ is in cc)
    (λ ge. let same : used ≡ old = omega arith in eq-eqb used old same)
    (cases_lt used old)

joined-some : (b : Bool) (step : Step) → b ≡ true → if_next b step ≡ None → ⊥
joined-some true step is none = let broken = none in cc
joined-some false step is none = let broken = is in cc

-- the operations of the steps behind one begin as no operation of its kind
kept-apart : (old n count at : ℕ) (plan : List Step) (numbers : List (Option ℕ)) (lines : List Line) → AreLongest (Keep old n ∷ plan) →
    TakesFrom (old + n) count plan → Begins 0 (ops_by (old + n) plan numbers lines) → ⊥
kept-apart old n count at [] numbers lines longest takes begins = begins
kept-apart old n count at (Keep next m ∷ plan) numbers lines longest takes begins =
    begins-past (old + n) next 0 (Copy m (first_of numbers)) _ (λ is. let broken = is in omega arith)
    (λ is same. joined-some (old + n == next) _ (next_to (old + n) next takes.0 is) longest.1) begins
kept-apart old n count at (Restyle next m ∷ plan) numbers lines longest takes begins =
    begins-past (old + n) next 0 (Update (first_of numbers) (map restyle_of (take m lines))) _ (λ is. omega arith) (λ is same. omega arith) begins
kept-apart old n count at (Send first m ∷ plan) numbers lines longest takes begins = omega arith
kept-apart old n count at (Drop m ∷ plan) numbers lines longest takes begins = omega arith

restyled-apart : (old n count at : ℕ) (plan : List Step) (numbers : List (Option ℕ)) (lines : List Line) → AreLongest (Restyle old n ∷ plan) →
    TakesFrom (old + n) count plan → Begins 4 (ops_by (old + n) plan numbers lines) → ⊥
restyled-apart old n count at [] numbers lines longest takes begins = begins
restyled-apart old n count at (Keep next m ∷ plan) numbers lines longest takes begins =
    begins-past (old + n) next 4 (Copy m (first_of numbers)) _ (λ is. omega arith) (λ is same. omega arith) begins
restyled-apart old n count at (Restyle next m ∷ plan) numbers lines longest takes begins =
    begins-past (old + n) next 4 (Update (first_of numbers) (map restyle_of (take m lines))) _ (λ is. omega arith)
    (λ is same. joined-some (old + n == next) _ (next_to (old + n) next takes.0 is) longest.1) begins
restyled-apart old n count at (Send first m ∷ plan) numbers lines longest takes begins = omega arith
restyled-apart old n count at (Drop m ∷ plan) numbers lines longest takes begins = omega arith

sent-apart : (used first n : ℕ) (plan : List Step) (numbers : List (Option ℕ)) (lines : List Line) → AreLongest (Send first n ∷ plan) →
    ArePlacedFrom (first + n) plan → Begins 3 (ops_by used plan numbers lines) → ⊥
sent-apart used first n [] numbers lines longest placed begins = begins
sent-apart used first n (Keep next m ∷ plan) numbers lines longest placed begins =
    begins-past used next 3 (Copy m (first_of numbers)) _ (λ is. omega arith) (λ is same. omega arith) begins
sent-apart used first n (Restyle next m ∷ plan) numbers lines longest placed begins =
    begins-past used next 3 (Update (first_of numbers) (map restyle_of (take m lines))) _ (λ is. omega arith) (λ is same. omega arith) begins
sent-apart used first n (Send next m ∷ plan) numbers lines longest placed begins =
    joined-some (first + n == next) _ (eq-eqb (first + n) next (sym placed.0)) longest.1
sent-apart used first n (Drop m ∷ plan) numbers lines longest placed begins = omega arith

left-apart : (used n : ℕ) (plan : List Step) (numbers : List (Option ℕ)) (lines : List Line) → AreLongest (Drop n ∷ plan) →
    Begins 2 (ops_by used plan numbers lines) → ⊥
left-apart used n [] numbers lines longest begins = begins
left-apart used n (Keep next m ∷ plan) numbers lines longest begins =
    begins-past used next 2 (Copy m (first_of numbers)) _ (λ is. omega arith) (λ is same. omega arith) begins
left-apart used n (Restyle next m ∷ plan) numbers lines longest begins =
    begins-past used next 2 (Update (first_of numbers) (map restyle_of (take m lines))) _ (λ is. omega arith) (λ is same. omega arith) begins
left-apart used n (Send next m ∷ plan) numbers lines longest begins = omega arith
left-apart used n (Drop m ∷ plan) numbers lines longest begins = let broken = longest.1 in cc

-- some lines at the front of others
record Cut (n : ℕ) (all : List Line) : Type 0 where
  line : Line
  lines : List Line
  later : List Line
  count : n ≡ length (line ∷ lines)
  parts : all ≡ (line ∷ lines) ++ later

cut-lines : (n : ℕ) (all : List Line) → 0 < n → n ≤ length all → Cut n all
cut-lines n all some le = by (take n all) refl
  where
    by : (first : List Line) → take n all ≡ first → Cut n all
    by [] is = let long = ap length is in absurd (omega (arith, length-take-le n all le))
    by (line ∷ lines) is = record {
      line = line;
      lines = lines;
      later = drop n all;
      count = sym (length-take-le n all le) ∙ ap length is;
      parts = sym (take-append-drop n all) ∙ ap (λ first. first ++ drop n all) is;
    }

abbrev pub Says : ℕ → List Step → List Line → Type 0
Says used plan all = ops_by used plan (numbers_at plan all) (lines_at plan all) ≡ joined_ops (ops_for used (zip (standings_of plan) all))

module _ (plan : List Step) (line : Line) (lines later : List Line) where
  abbrev first : List Line
  first = line ∷ lines

  abbrev count : ℕ
  count = length first

  front : take count (first ++ later) ≡ first
  front = take_at first later count refl

  back : drop count (first ++ later) ≡ later
  back = drop_at first later count refl

  says-kept : (used old : ℕ) → (Begins 0 (ops_by (old + count) plan (numbers_at plan later) (lines_at plan later)) → ⊥) → Says (old + count) plan later →
      Says used (Keep old count ∷ plan) (first ++ later)
  says-kept used old apart says =
      ap₂ (λ f l. skip_for used (Some old) ++ (Copy count (first_number f) ∷ ops_by (old + count) plan (numbers_at plan l) (lines_at plan l))) front back ∙
      ap (λ ops. skip_for used (Some old) ++ (Copy count (first_number first) ∷ ops)) says ∙
      sym (skip-apart used old _ _ (Copy count (first_number first))
      (joined-copies line lines (ops_for (old + count) (zip (standings_of plan) later)) (λ begins. apart (subst (Begins 0) (sym says) begins))) (λ is. omega arith)) ∙
      ap joined_ops (sym (ops-kept_past used old line lines (zip (standings_of plan) later))) ∙
      ap (λ those. joined_ops (ops_for used those)) (sym (zip-step (Keep old count) plan count first later (length-olds stays old count) refl))

  says-restyled : (used old : ℕ) → (Begins 4 (ops_by (old + count) plan (numbers_at plan later) (lines_at plan later)) → ⊥) → Says (old + count) plan later →
      Says used (Restyle old count ∷ plan) (first ++ later)
  says-restyled used old apart says =
      ap₂ (λ f l. skip_for used (Some old) ++
      (Update (first_number f) (map restyle_of (take count (f ++ lines_at plan l))) ∷ ops_by (old + count) plan (numbers_at plan l) (drop count (f ++ lines_at plan l)))) front back ∙
      ap₂ (λ f l. skip_for used (Some old) ++ (Update (first_number first) (map restyle_of f) ∷ ops_by (old + count) plan (numbers_at plan later) l))
      (take_at first (lines_at plan later) count refl) (drop_at first (lines_at plan later) count refl) ∙
      ap (λ ops. skip_for used (Some old) ++ (Update (first_number first) (map restyle_of first) ∷ ops)) says ∙
      sym (skip-apart used old _ _ (Update (first_number first) (map restyle_of first))
      (joined-updates line lines (ops_for (old + count) (zip (standings_of plan) later)) (λ begins. apart (subst (Begins 4) (sym says) begins))) (λ is. omega arith)) ∙
      ap joined_ops (sym (ops-restyled_past used old line lines (zip (standings_of plan) later))) ∙
      ap (λ those. joined_ops (ops_for used those)) (sym (zip-step (Restyle old count) plan count first later (length-olds is_restyled old count) refl))

  says-sent : (used from : ℕ) → (Begins 3 (ops_by used plan (numbers_at plan later) (lines_at plan later)) → ⊥) → Says used plan later →
      Says used (Send from count ∷ plan) (first ++ later)
  says-sent used from apart says =
      ap₂ (λ f l. Ins (take count (f ++ lines_at plan l)) ∷ ops_by used plan (numbers_at plan l) (drop count (f ++ lines_at plan l))) front back ∙
      ap₂ (λ f l. Ins f ∷ ops_by used plan (numbers_at plan later) l) (take_at first (lines_at plan later) count refl) (drop_at first (lines_at plan later) count refl) ∙
      ap (λ ops. Ins first ∷ ops) says ∙
      sym (joined-inserts line lines (ops_for used (zip (standings_of plan) later)) (λ begins. apart (subst (Begins 3) (sym says) begins))) ∙
      ap joined_ops (sym (ops-sent used first (zip (standings_of plan) later))) ∙
      ap (λ those. joined_ops (ops_for used those)) (sym (zip-step (Send from count) plan count first later (length-same is_sent count) refl))

  says-left : (used : ℕ) → (Begins 2 (ops_by used plan (numbers_at plan later) (lines_at plan later)) → ⊥) → Says used plan later →
      Says used (Drop count ∷ plan) (first ++ later)
  says-left used apart says =
      ap (λ l. Invalidate count ∷ ops_by used plan (numbers_at plan l) (lines_at plan l)) back ∙
      ap (λ ops. Invalidate count ∷ ops) says ∙
      sym (joined-invalid line lines (ops_for used (zip (standings_of plan) later)) (λ begins. apart (subst (Begins 2) (sym says) begins))) ∙
      ap joined_ops (sym (ops-left used first (zip (standings_of plan) later))) ∙
      ap (λ those. joined_ops (ops_for used those)) (sym (zip-step (Drop count) plan count first later (length-same is_left count) refl))

lines_in-step : (step : Step) (plan : List Step) → lines_in (step ∷ plan) ≡ lines_of step + lines_in plan
lines_in-step step plan = omega (arith, lines_in-append (step ∷ []) plan, lines_in-one step)

-- what is known of a plan's end where some lines at the front of a layout are those of its first step
later-count : (step : Step) (plan : List Step) (n : ℕ) (all : List Line) (c : Cut n all) → lines_of step ≡ n → length all ≡ lines_in (step ∷ plan) →
    length c.later ≡ lines_in plan
later-count step plan n all c own same =
    omega (arith, lines_in-step step plan, own, same, c.count, ap length c.parts, length-append (c.line ∷ c.lines) c.later)

first-fits : (step : Step) (plan : List Step) (all : List Line) → length all ≡ lines_in (step ∷ plan) → lines_of step ≤ length all
first-fits step plan all same = omega (arith, lines_in-step step plan, same)

pub ops_by-says : (used limit at : ℕ) (plan : List Step) (all : List Line) → AreLongest plan → ArePlacedFrom at plan → TakesFrom used limit plan →
    length all ≡ lines_in plan → Says used plan all
ops_by-says used limit at [] all longest placed takes same = refl
ops_by-says used limit at (Keep old n ∷ plan) all longest placed takes same =
    let c = cut-lines n all (longest-first (Keep old n) plan longest) (first-fits (Keep old n) plan all same) in
    let says = ops_by-says (old + n) limit (at + n) plan c.later (longest-rest (Keep old n) plan longest) placed.1 takes.1
    (later-count (Keep old n) plan n all c refl same) in
    let apart = kept-apart old n limit at plan (numbers_at plan c.later) (lines_at plan c.later) longest takes.1 in
    subst (λ m. Says used (Keep old m ∷ plan) all) (sym c.count)
    (subst (Says used (Keep old (length (c.line ∷ c.lines)) ∷ plan)) (sym c.parts)
    (says-kept plan c.line c.lines c.later used old
    (subst (λ m. Begins 0 (ops_by (old + m) plan (numbers_at plan c.later) (lines_at plan c.later)) → ⊥) c.count apart)
    (subst (λ m. Says (old + m) plan c.later) c.count says)))
ops_by-says used limit at (Restyle old n ∷ plan) all longest placed takes same =
    let c = cut-lines n all (longest-first (Restyle old n) plan longest) (first-fits (Restyle old n) plan all same) in
    let says = ops_by-says (old + n) limit (at + n) plan c.later (longest-rest (Restyle old n) plan longest) placed.1 takes.1
    (later-count (Restyle old n) plan n all c refl same) in
    let apart = restyled-apart old n limit at plan (numbers_at plan c.later) (lines_at plan c.later) longest takes.1 in
    subst (λ m. Says used (Restyle old m ∷ plan) all) (sym c.count)
    (subst (Says used (Restyle old (length (c.line ∷ c.lines)) ∷ plan)) (sym c.parts)
    (says-restyled plan c.line c.lines c.later used old
    (subst (λ m. Begins 4 (ops_by (old + m) plan (numbers_at plan c.later) (lines_at plan c.later)) → ⊥) c.count apart)
    (subst (λ m. Says (old + m) plan c.later) c.count says)))
ops_by-says used limit at (Send first n ∷ plan) all longest placed takes same =
    let c = cut-lines n all (longest-first (Send first n) plan longest) (first-fits (Send first n) plan all same) in
    let says = ops_by-says used limit (at + n) plan c.later (longest-rest (Send first n) plan longest) placed.1 takes
    (later-count (Send first n) plan n all c refl same) in
    let apart = sent-apart used first n plan (numbers_at plan c.later) (lines_at plan c.later) longest
    (subst (λ m. ArePlacedFrom (m + n) plan) (sym placed.0) placed.1) in
    subst (λ m. Says used (Send first m ∷ plan) all) (sym c.count)
    (subst (Says used (Send first (length (c.line ∷ c.lines)) ∷ plan)) (sym c.parts)
    (says-sent plan c.line c.lines c.later used first apart says))
ops_by-says used limit at (Drop n ∷ plan) all longest placed takes same =
    let c = cut-lines n all (longest-first (Drop n) plan longest) (first-fits (Drop n) plan all same) in
    let says = ops_by-says used limit (at + n) plan c.later (longest-rest (Drop n) plan longest) placed.1 takes
    (later-count (Drop n) plan n all c refl same) in
    let apart = left-apart used n plan (numbers_at plan c.later) (lines_at plan c.later) longest in
    subst (λ m. Says used (Drop m ∷ plan) all) (sym c.count)
    (subst (Says used (Drop (length (c.line ∷ c.lines)) ∷ plan)) (sym c.parts)
    (says-left plan c.line c.lines c.later used apart says))
