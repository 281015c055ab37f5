-- Lemmas on plans: what the screen is after one, and what it sends.
use Rattle.std.proofs.Common.{◌≡◌, ℕ, zero, suc, ◌+◌, ◌-◌, ◌<◌, ◌≤◌, Bool, true, false, nat_le, ◌||◌, ◌&&◌, List, [], ◌∷◌, ◌++◌, length, map, take, drop, replicate, Option, Some, None, refl, ap, ap₂, sym, subst, ◌∙◌, inl, inr, arith, add-one}
use Rattle.std.specs.Prelude.{if◌then◌else◌, slice_get, nat_lt, unwrap_or}
use Rattle.std.specs.Option.{option_map}
use Rattle.std.specs.List.{enumerate_from, AllByRecursion}
use Rattle.std.proofs.lemmas.Bool.Decides.{nat_tests}
use Rattle.std.proofs.lemmas.List.{drop-drop, length-drop}
use Rattle.std.proofs.lemmas.Bool.{le-leb, lt-ltb, le-ltb, leb-true, ltb-true, cases_lt, and_from, and_parts, true≢false}
use Rattle.std.proofs.lemmas.Option.{slice_get_within}
use Rattle.plain_text.specs.declared.run.Run.{Run}
use Rattle.plain_screen.specs.declared.screen.Line.{Line}
use Rattle.plain_screen.specs.declared.screen.Restyle.{Restyle}
use Rattle.plain_screen.specs.declared.screen.Op.{Op}
use Rattle.plain_screen.specs.declared.screen.Op.TheVariants.{Copy, Skip, Invalidate, Ins, Update}
use Rattle.plain_screen.specs.Screen.{Screen, numbered, number_after, numbered_from, copied, restyled, restyled_lines, screen_after}
use Rattle.plain_screen.specs.Plan.{Standing, stays, is_restyled, is_sent, is_left, sent_or_left, standing, with_standings, restyle_of, ops_for, or_number, onto_ops, joined_ops, update_plan, shown_as, planned_screen, IsSameButNumber, CanBeTaken, IsPartner, ArePartners, AreNumberedFrom, Told, whole, styling, told_by, to_tell, partner_at, is_due, is_within, is_near, margin}
use Rattle.plain_screen.proofs.callers.ScreenLemmas.{option_map-option_map}

one-add : (n : ℕ) → 1 + n ≡ suc n
one-add n = omega arith

enough-one : (n : ℕ) → nat_le 1 (suc n) ≡ true
enough-one n = grind (arith, nat_tests)

enough-more : (n m : ℕ) → nat_le (suc n) (suc m) ≡ nat_le n m
enough-more n m = grind (arith, nat_tests)

-- one more line in front of the operations is one more line of the screen
pub screen_after-left : (old : Screen) (ops : List Op) →
    screen_after old (onto_ops (Invalidate 1) ops) ≡ option_map (λ lines. None ∷ lines) (screen_after old ops)
screen_after-left old [] = refl
screen_after-left old (Copy n ln ∷ ops) = refl
screen_after-left old (Skip n ∷ ops) = refl
screen_after-left old (Ins new ∷ ops) = refl
screen_after-left old (Update ln restyles ∷ ops) = refl
screen_after-left old (Invalidate n ∷ ops) =
    ap (λ m. option_map (λ lines. replicate m None ++ lines) (screen_after old ops)) (one-add n) ∙
    sym (option_map-option_map (λ lines. None ∷ lines) (λ lines. replicate n None ++ lines) (screen_after old ops))

pub screen_after-sent : (old : Screen) (line : Line) (ops : List Op) →
    screen_after old (onto_ops (Ins (line ∷ [])) ops) ≡ option_map (λ lines. Some line ∷ lines) (screen_after old ops)
screen_after-sent old line [] = refl
screen_after-sent old line (Copy n ln ∷ ops) = refl
screen_after-sent old line (Skip n ∷ ops) = refl
screen_after-sent old line (Invalidate n ∷ ops) = refl
screen_after-sent old line (Update ln restyles ∷ ops) = refl
screen_after-sent old line (Ins new ∷ ops) =
    sym (option_map-option_map (λ lines. Some line ∷ lines) (λ lines. map Some new ++ lines) (screen_after old ops))

-- ---- an old line that is taken over, joined with those that follow

-- where the operations begin with lines that are taken over, these are numbered as if they began with this number
abbrev NumbersFrom : ℕ → Screen → List Op → Type 0
NumbersFrom number old [] = Unit {0}
NumbersFrom number old (Copy n ln ∷ ops) = copied ln (take n old) ≡ numbered_from number (take n old)
NumbersFrom number old (Skip n ∷ ops) = Unit {0}
NumbersFrom number old (Invalidate n ∷ ops) = Unit {0}
NumbersFrom number old (Ins lines ∷ ops) = Unit {0}
NumbersFrom number old (Update ln restyles ∷ ops) = copied ln (restyled_lines restyles old) ≡ numbered_from number (restyled_lines restyles old)

-- what becomes of an old line that is taken over for a line, and the operation for it: it is copied or restyled
abbrev taken_as : Bool → Line → Line → Line
taken_as true line old = old
taken_as false line old = restyled (restyle_of line) old

abbrev taking : Bool → Line → Op
taking true line = Copy 1 line.ln
taking false line = Update line.ln (restyle_of line ∷ [])

-- it is the same as the line but for its number
taken_as-same : (same : Bool) (line old : Line) → CanBeTaken same old line → IsSameButNumber (taken_as same line old) line
taken_as-same true line old can = can
taken_as-same false line old can = can

or_number-none : (ln : Option ℕ) → or_number ln None ≡ ln
or_number-none None = refl
or_number-none (Some n) = refl

abbrev value_of : Option ℕ → ℕ
value_of None = 0
value_of (Some n) = n

-- lines that are the same but for their numbers have both a number, or both none
number_after-same : (shown line : Line) (number : ℕ) → IsSameButNumber shown line → number_after shown.ln number ≡ number_after line.ln number
number_after-same shown line number same = by shown.ln line.ln refl refl (same number)
  where
    by : (a b : Option ℕ) → shown.ln ≡ a → line.ln ≡ b → numbered a number shown ≡ numbered b number line → number_after a number ≡ number_after b number
    by None None at is one = refl
    by (Some m) (Some n) at is one = refl
    by None (Some n) at is one = let e : None ≡ Some number = sym at ∙ ap (λ (l : Line). l.ln) one in absurd cc
    by (Some m) None at is one = let e : Some number ≡ None = ap (λ (l : Line). l.ln) one ∙ is in absurd cc

-- the old line of a line without a number
unnumbered : (shown line : Line) → IsSameButNumber shown line → line.ln ≡ None → (shown.ln ≡ None) × (shown ≡ line)
unnumbered shown line same is = by shown.ln refl (number_after-same shown line 0 same ∙ ap (λ ln. number_after ln 0) is)
  where
    by : (a : Option ℕ) → shown.ln ≡ a → number_after a 0 ≡ 0 → (shown.ln ≡ None) × (shown ≡ line)
    by None at one =
        (at, sym (ap (λ ln. numbered ln 0 shown) at) ∙ same 0 ∙ ap (λ ln. numbered ln 0 line) is)
    by (Some m) at one = absurd (omega arith)

module _ (shown line : Line) (number : ℕ) (same : IsSameButNumber shown line) (own : numbered line.ln number line ≡ line) where
  -- numbered on, the old line is the new one
  numbered-first : (lines : Screen) → numbered_from number (Some shown ∷ lines) ≡ Some line ∷ numbered_from (number_after line.ln number) lines
  numbered-first lines =
      ap₂ (λ (first : Line) (n : ℕ). Some first ∷ numbered_from n lines) (same number ∙ own) (number_after-same shown line number same)

  copied-first : (later : Option ℕ) (lines : Screen) → copied later lines ≡ numbered_from (number_after line.ln number) lines →
      copied (or_number line.ln later) (Some shown ∷ lines) ≡ Some line ∷ copied later lines
  copied-first later lines counts = by line.ln refl later counts
    where
      unchanged : (later : Option ℕ) → line.ln ≡ None → copied later (Some shown ∷ lines) ≡ Some line ∷ copied later lines
      unchanged None is = ap (λ (first : Line). Some first ∷ lines) (unnumbered shown line same is).1
      unchanged (Some l) is =
          let old = unnumbered shown line same is in
          ap (λ ln. Some (numbered ln l shown) ∷ numbered_from (number_after ln l) lines) old.0 ∙
          ap (λ (first : Line). Some first ∷ numbered_from l lines) old.1

      by : (ln : Option ℕ) → line.ln ≡ ln → (later : Option ℕ) → copied later lines ≡ numbered_from (number_after line.ln number) lines →
          copied (or_number ln later) (Some shown ∷ lines) ≡ Some line ∷ copied later lines
      by None is later counts = unchanged later is
      by (Some m) is later counts =
          let e : Some number ≡ Some m = ap (λ (l : Line). l.ln) (sym (ap (λ ln. numbered ln number line) is) ∙ own) ∙ is in
          ap (λ n. numbered_from n (Some shown ∷ lines)) (sym (ap value_of e)) ∙ numbered-first lines ∙
          ap (λ ls. Some line ∷ ls) (sym counts)

  copied-alone : copied line.ln (Some shown ∷ []) ≡ Some line ∷ []
  copied-alone = ap (λ ln. copied ln (Some shown ∷ [])) (sym (or_number-none line.ln)) ∙ copied-first None [] refl

  -- one line more in front of those that an operation takes over
  screen_after-first : (n m : ℕ) (later : Option ℕ) (front : Screen) (after : Option Screen) →
      copied later front ≡ numbered_from (number_after line.ln number) front →
      (if nat_le (suc n) (suc m) then option_map (λ lines. copied (or_number line.ln later) (Some shown ∷ front) ++ lines) after else None) ≡
      option_map (λ lines. Some line ∷ lines) (if nat_le n m then option_map (λ lines. copied later front ++ lines) after else None)
  screen_after-first n m later front after counts =
      ap (λ b. if b then option_map (λ lines. copied (or_number line.ln later) (Some shown ∷ front) ++ lines) after else None) (enough-more n m) ∙
      ap (λ taken. if nat_le n m then option_map (λ lines. taken ++ lines) after else None) (copied-first later front counts) ∙ by (nat_le n m)
    where
      by : (b : Bool) → (if b then option_map (λ lines. Some line ∷ (copied later front ++ lines)) after else None) ≡
          option_map (λ lines. Some line ∷ lines) (if b then option_map (λ lines. copied later front ++ lines) after else None)
      by true = sym (option_map-option_map (λ lines. Some line ∷ lines) (λ lines. copied later front ++ lines) after)
      by false = refl

  numbered-more : (later : Option ℕ) (front : Screen) → copied later front ≡ numbered_from (number_after line.ln number) front →
      copied (or_number line.ln later) (Some shown ∷ front) ≡ numbered_from number (Some shown ∷ front)
  numbered-more later front counts =
      copied-first later front counts ∙ ap (λ lines. Some line ∷ lines) counts ∙ sym (numbered-first front)

  numbered-alone : copied line.ln (Some shown ∷ []) ≡ numbered_from number (Some shown ∷ [])
  numbered-alone = copied-alone ∙ sym (numbered-first [])

-- the screen after it, and its number
record TakesFirst (line was : Line) (number : ℕ) (op : Op) (old : Screen) (ops : List Op) : Type 0 where
  pub after : screen_after (Some was ∷ old) (onto_ops op ops) ≡ option_map (λ lines. Some line ∷ lines) (screen_after old ops)
  pub numbers : NumbersFrom number (Some was ∷ old) (onto_ops op ops)

module _ (line was : Line) (number : ℕ) (own : numbered line.ln number line ≡ line) where
  TakesFirst-copied : IsSameButNumber was line → (old : Screen) (ops : List Op) → NumbersFrom (number_after line.ln number) old ops →
      TakesFirst line was number (Copy 1 line.ln) old ops
  TakesFirst-copied same old ops counts = by ops counts
    where
      alone : (ops : List Op) → screen_after (Some was ∷ old) (Copy 1 line.ln ∷ ops) ≡ option_map (λ lines. Some line ∷ lines) (screen_after old ops)
      alone ops =
          ap (λ b. if b then option_map (λ lines. copied line.ln (Some was ∷ []) ++ lines) (screen_after old ops) else None) (enough-one (length old)) ∙
          ap (λ front. option_map (λ lines. front ++ lines) (screen_after old ops)) (copied-alone was line number same own)

      by : (ops : List Op) → NumbersFrom (number_after line.ln number) old ops → TakesFirst line was number (Copy 1 line.ln) old ops
      by [] counts = record { after = alone []; numbers = numbered-alone was line number same own }
      by (Copy n later ∷ ops) counts =
          let At : ℕ → Type 0 = λ m. copied (or_number line.ln later) (take m (Some was ∷ old)) ≡ numbered_from number (take m (Some was ∷ old)) in record {
            after =
                ap (λ m. screen_after (Some was ∷ old) (Copy m (or_number line.ln later) ∷ ops)) (one-add n) ∙
                screen_after-first was line number same own n (length old) later (take n old) (screen_after (drop n old) ops) counts;
            numbers = subst At (sym (one-add n)) (numbered-more was line number same own later (take n old) counts);
          }
      by (Skip n ∷ ops) counts = record { after = alone (Skip n ∷ ops); numbers = numbered-alone was line number same own }
      by (Invalidate n ∷ ops) counts = record { after = alone (Invalidate n ∷ ops); numbers = numbered-alone was line number same own }
      by (Ins lines ∷ ops) counts = record { after = alone (Ins lines ∷ ops); numbers = numbered-alone was line number same own }
      by (Update ln restyles ∷ ops) counts =
          record { after = alone (Update ln restyles ∷ ops); numbers = numbered-alone was line number same own }

  TakesFirst-restyled : IsSameButNumber (restyled (restyle_of line) was) line → (old : Screen) (ops : List Op) →
      NumbersFrom (number_after line.ln number) old ops → TakesFirst line was number (Update line.ln (restyle_of line ∷ [])) old ops
  TakesFirst-restyled same old ops counts = by ops counts
    where
      shown : Line
      shown = restyled (restyle_of line) was

      alone : (ops : List Op) →
          screen_after (Some was ∷ old) (Update line.ln (restyle_of line ∷ []) ∷ ops) ≡ option_map (λ lines. Some line ∷ lines) (screen_after old ops)
      alone ops =
          ap (λ b. if b then option_map (λ lines. copied line.ln (Some shown ∷ []) ++ lines) (screen_after old ops) else None) (enough-one (length old)) ∙
          ap (λ front. option_map (λ lines. front ++ lines) (screen_after old ops)) (copied-alone shown line number same own)

      by : (ops : List Op) → NumbersFrom (number_after line.ln number) old ops →
          TakesFirst line was number (Update line.ln (restyle_of line ∷ [])) old ops
      by [] counts = record { after = alone []; numbers = numbered-alone shown line number same own }
      by (Copy n ln ∷ ops) counts = record { after = alone (Copy n ln ∷ ops); numbers = numbered-alone shown line number same own }
      by (Skip n ∷ ops) counts = record { after = alone (Skip n ∷ ops); numbers = numbered-alone shown line number same own }
      by (Invalidate n ∷ ops) counts = record { after = alone (Invalidate n ∷ ops); numbers = numbered-alone shown line number same own }
      by (Ins lines ∷ ops) counts = record { after = alone (Ins lines ∷ ops); numbers = numbered-alone shown line number same own }
      by (Update later restyles ∷ ops) counts = record {
        after =
            screen_after-first shown line number same own (length restyles) (length old) later (restyled_lines restyles old)
            (screen_after (drop (length restyles) old) ops) counts;
        numbers = numbered-more shown line number same own later (restyled_lines restyles old) counts;
      }

  TakesFirst-taking : (same : Bool) → CanBeTaken same was line → (old : Screen) (ops : List Op) → NumbersFrom (number_after line.ln number) old ops →
      TakesFirst line was number (taking same line) old ops
  TakesFirst-taking true can = TakesFirst-copied can
  TakesFirst-taking false can = TakesFirst-restyled can

-- ---- the whole plan

-- each line that stays or is restyled has its partner, and these rise from `from` on
abbrev AreStanding : Screen → ℕ → List (Standing × Line) → Type 0
AreStanding screen from [] = Unit {0}
AreStanding screen from ((stays old, line) ∷ lines) = (from ≤ old) × IsPartner screen old true line × AreStanding screen (old + 1) lines
AreStanding screen from ((is_restyled old, line) ∷ lines) = (from ≤ old) × IsPartner screen old false line × AreStanding screen (old + 1) lines
AreStanding screen from ((is_sent, line) ∷ lines) = AreStanding screen from lines
AreStanding screen from ((is_left, line) ∷ lines) = AreStanding screen from lines

abbrev lines_of : List (Standing × Line) → List Line
lines_of lines = map (λ (how, line). line) lines

drop-at : {X : Type 0} (xs : List X) (i : ℕ) (x : X) → slice_get xs i ≡ Some x → drop i xs ≡ x ∷ drop (suc i) xs
drop-at [] i x is = absurd cc
drop-at (y ∷ xs) zero x is = ap (λ o. unwrap_or o y ∷ xs) is
drop-at (y ∷ xs) (suc i) x is = drop-at xs i x is

-- operations that begin with lines that are taken over; in front of those, a skip is not joined
abbrev StartsTaking : List Op → Type 0
StartsTaking [] = ⊥
StartsTaking (Copy n ln ∷ ops) = Unit {0}
StartsTaking (Skip n ∷ ops) = ⊥
StartsTaking (Invalidate n ∷ ops) = ⊥
StartsTaking (Ins lines ∷ ops) = ⊥
StartsTaking (Update ln restyles ∷ ops) = Unit {0}

StartsTaking-taking : (same : Bool) (line : Line) (ops : List Op) → StartsTaking (onto_ops (taking same line) ops)
StartsTaking-taking true line [] = tt
StartsTaking-taking true line (Copy n ln ∷ ops) = tt
StartsTaking-taking true line (Skip n ∷ ops) = tt
StartsTaking-taking true line (Invalidate n ∷ ops) = tt
StartsTaking-taking true line (Ins lines ∷ ops) = tt
StartsTaking-taking true line (Update ln restyles ∷ ops) = tt
StartsTaking-taking false line [] = tt
StartsTaking-taking false line (Copy n ln ∷ ops) = tt
StartsTaking-taking false line (Skip n ∷ ops) = tt
StartsTaking-taking false line (Invalidate n ∷ ops) = tt
StartsTaking-taking false line (Ins lines ∷ ops) = tt
StartsTaking-taking false line (Update ln restyles ∷ ops) = tt

onto_ops-skip : (k : ℕ) (ops : List Op) → StartsTaking ops → onto_ops (Skip k) ops ≡ Skip k ∷ ops
onto_ops-skip k [] starts = absurd starts
onto_ops-skip k (Copy n ln ∷ ops) starts = refl
onto_ops-skip k (Skip n ∷ ops) starts = absurd starts
onto_ops-skip k (Invalidate n ∷ ops) starts = absurd starts
onto_ops-skip k (Ins lines ∷ ops) starts = absurd starts
onto_ops-skip k (Update ln restyles ∷ ops) starts = refl

NumbersFrom-sent : (number : ℕ) (old : Screen) (line : Line) (ops : List Op) → NumbersFrom number old (onto_ops (Ins (line ∷ [])) ops)
NumbersFrom-sent number old line [] = tt
NumbersFrom-sent number old line (Copy n later ∷ ops) = tt
NumbersFrom-sent number old line (Skip n ∷ ops) = tt
NumbersFrom-sent number old line (Invalidate n ∷ ops) = tt
NumbersFrom-sent number old line (Ins lines ∷ ops) = tt
NumbersFrom-sent number old line (Update ln restyles ∷ ops) = tt

NumbersFrom-left : (number : ℕ) (old : Screen) (ops : List Op) → NumbersFrom number old (onto_ops (Invalidate 1) ops)
NumbersFrom-left number old [] = tt
NumbersFrom-left number old (Copy n later ∷ ops) = tt
NumbersFrom-left number old (Skip n ∷ ops) = tt
NumbersFrom-left number old (Invalidate n ∷ ops) = tt
NumbersFrom-left number old (Ins lines ∷ ops) = tt
NumbersFrom-left number old (Update ln restyles ∷ ops) = tt

-- operations make of the old lines from here on this screen, and number on
record MakesOf (screen : Screen) (used number : ℕ) (ops : List Op) (shown : Screen) : Type 0 where
  pub after : screen_after (drop used screen) ops ≡ Some shown
  pub numbers : NumbersFrom number (drop used screen) ops

-- those for lines make what the lines are to be
abbrev Makes : Screen → ℕ → ℕ → List (Standing × Line) → Type 0
Makes screen used number lines = MakesOf screen used number (joined_ops (ops_for used lines)) (map shown_as lines)

-- the operations from a line that is taken over on, by the test whether old lines are passed over before it
abbrev taking_ops : ℕ → ℕ → Bool → Line → List (Standing × Line) → Bool → List Op
taking_ops used old same line lines b = joined_ops ((if b then Skip (old - used) ∷ [] else []) ++ (taking same line ∷ ops_for (old + 1) lines))

Makes-taken : (screen : Screen) (used number old : ℕ) (same : Bool) (line : Line) (lines : List (Standing × Line)) → used ≤ old →
    IsPartner screen old same line → numbered line.ln number line ≡ line → Makes screen (old + 1) (number_after line.ln number) lines →
    MakesOf screen used number (taking_ops used old same line lines (nat_lt used old)) (Some line ∷ map shown_as lines)
Makes-taken screen used number old same line lines before partner own rest =
    elim (cases_lt used old) [ inl below ↦ passing below | inr here ↦ staying here ]
  where
    shown : Screen
    shown = Some line ∷ map shown_as lines

    inside : old < length screen
    inside = slice_get_within screen old (Some partner.shown) partner.is

    at : drop old screen ≡ Some partner.shown ∷ drop (old + 1) screen
    at = drop-at screen old (Some partner.shown) partner.is ∙ ap (λ n. Some partner.shown ∷ drop n screen) (sym (add-one old))

    ops : List Op
    ops = onto_ops (taking same line) (joined_ops (ops_for (old + 1) lines))

    takes : TakesFirst line partner.shown number (taking same line) (drop (old + 1) screen) (joined_ops (ops_for (old + 1) lines))
    takes = TakesFirst-taking line partner.shown number own same partner.can (drop (old + 1) screen) (joined_ops (ops_for (old + 1) lines)) rest.numbers

    taken : MakesOf screen old number ops shown
    taken =
        let At : Screen → Type 0 = λ s. NumbersFrom number s ops in record {
          after = ap (λ s. screen_after s ops) at ∙ takes.after ∙ ap (option_map (λ made. Some line ∷ made)) rest.after;
          numbers = subst At (sym at) takes.numbers;
        }

    by_test : (b : Bool) → nat_lt used old ≡ b → MakesOf screen used number (taking_ops used old same line lines b) shown →
        MakesOf screen used number (taking_ops used old same line lines (nat_lt used old)) shown
    by_test b is made =
        let At : Bool → Type 0 = λ c. MakesOf screen used number (taking_ops used old same line lines c) shown in subst At (sym is) made

    passing : used < old → MakesOf screen used number (taking_ops used old same line lines (nat_lt used old)) shown
    passing below =
        let few : old - used ≤ length (drop used screen) = omega (arith, length-drop used screen, inside) in
        let sum : used + (old - used) ≡ old = omega arith in
        let At : List Op → Type 0 = λ all. MakesOf screen used number all shown in
        by_test true (lt-ltb used old below)
        (subst At (sym (onto_ops-skip (old - used) ops (StartsTaking-taking same line (joined_ops (ops_for (old + 1) lines)))))
        (record {
          after =
              ap (λ b. if b then screen_after (drop (old - used) (drop used screen)) ops else None) (le-leb (old - used) (length (drop used screen)) few) ∙
              ap (λ s. screen_after s ops) (drop-drop (old - used) used screen ∙ ap (λ n. drop n screen) sum) ∙ taken.after;
          numbers = tt;
        }))

    staying : old ≤ used → MakesOf screen used number (taking_ops used old same line lines (nat_lt used old)) shown
    staying here =
        let is : used ≡ old = omega arith in
        let At : ℕ → Type 0 = λ n. MakesOf screen n number ops shown in
        by_test false (le-ltb used old here) (subst At (sym is) taken)

Makes-plan : (screen : Screen) (used from number : ℕ) (lines : List (Standing × Line)) → used ≤ from → AreStanding screen from lines →
    AreNumberedFrom number (lines_of lines) → Makes screen used number lines
Makes-plan screen used from number [] before partners numbers = record { after = refl; numbers = tt }
Makes-plan screen used from number ((stays old, line) ∷ lines) before partners numbers =
    Makes-taken screen used number old true line lines (let le = partners.0 in omega arith) partners.1 numbers.0
    (Makes-plan screen (old + 1) (old + 1) (number_after line.ln number) lines (omega arith) partners.2 numbers.1)
Makes-plan screen used from number ((is_restyled old, line) ∷ lines) before partners numbers =
    Makes-taken screen used number old false line lines (let le = partners.0 in omega arith) partners.1 numbers.0
    (Makes-plan screen (old + 1) (old + 1) (number_after line.ln number) lines (omega arith) partners.2 numbers.1)
Makes-plan screen used from number ((is_sent, line) ∷ lines) before partners numbers =
    let rest = Makes-plan screen used from (number_after line.ln number) lines before partners numbers.1 in record {
      after = screen_after-sent (drop used screen) line (joined_ops (ops_for used lines)) ∙ ap (option_map (λ shown. Some line ∷ shown)) rest.after;
      numbers = NumbersFrom-sent number (drop used screen) line (joined_ops (ops_for used lines));
    }
Makes-plan screen used from number ((is_left, line) ∷ lines) before partners numbers =
    let rest = Makes-plan screen used from (number_after line.ln number) lines before partners numbers.1 in record {
      after = screen_after-left (drop used screen) (joined_ops (ops_for used lines)) ∙ ap (option_map (λ shown. None ∷ shown)) rest.after;
      numbers = NumbersFrom-left number (drop used screen) (joined_ops (ops_for used lines));
    }

unpartnered : (screen : Screen) (from : ℕ) (line : Line) (lines : List (Standing × Line)) (b : Bool) → AreStanding screen from lines →
    AreStanding screen from ((if b then is_sent else is_left, line) ∷ lines)
unpartnered screen from line lines true are = are
unpartnered screen from line lines false are = are

AreStanding-lower : (screen : Screen) (low from : ℕ) (lines : List (Standing × Line)) → low ≤ from → AreStanding screen from lines → AreStanding screen low lines
AreStanding-lower screen low from [] lower are = tt
AreStanding-lower screen low from ((stays old, line) ∷ lines) lower are = (let le = are.0 in omega arith, are.1, are.2)
AreStanding-lower screen low from ((is_restyled old, line) ∷ lines) lower are = (let le = are.0 in omega arith, are.1, are.2)
AreStanding-lower screen low from ((is_sent, line) ∷ lines) lower are = AreStanding-lower screen low from lines lower are
AreStanding-lower screen low from ((is_left, line) ∷ lines) lower are = AreStanding-lower screen low from lines lower are

-- the standings of lines that have partners have them too
AreStanding-partners : (screen : Screen) (window request : Run) (index from : ℕ) (partners : List (Option (ℕ × Bool))) (lines : List Line) →
    ArePartners screen from partners lines → AreStanding screen from (with_standings window request index partners lines)
AreStanding-partners screen window request index from partners [] are = tt
AreStanding-partners screen window request index from [] (line ∷ lines) are =
    unpartnered screen from line (with_standings window request (index + 1) [] lines) (is_within window index || is_within request index)
    (AreStanding-partners screen window request (index + 1) from [] lines (none lines))
  where
    none : (lines : List Line) → ArePartners screen from [] lines
    none [] = tt
    none (line ∷ lines) = tt
AreStanding-partners screen window request index from (None ∷ partners) (line ∷ lines) are =
    unpartnered screen from line (with_standings window request (index + 1) partners lines) (is_within window index || is_within request index)
    (AreStanding-partners screen window request (index + 1) from partners lines are)
AreStanding-partners screen window request index from (Some (old, same) ∷ partners) (line ∷ lines) are =
    partnered same are.1 (AreStanding-partners screen window request (index + 1) (old + 1) partners lines are.2)
  where
    rest : List (Standing × Line)
    rest = with_standings window request (index + 1) partners lines

    other : AreStanding screen (old + 1) rest → AreStanding screen from ((sent_or_left window request index, line) ∷ rest)
    other are_later =
        unpartnered screen from line rest (is_within window index || is_within request index)
        (let le = are.0 in AreStanding-lower screen from (old + 1) rest (omega arith) are_later)

    copied_by : (b : Bool) → IsPartner screen old true line → AreStanding screen (old + 1) rest →
        AreStanding screen from ((if b then stays old else sent_or_left window request index, line) ∷ rest)
    copied_by true partner are_later = (are.0, partner, are_later)
    copied_by false partner are_later = other are_later

    restyled_by : (b : Bool) → IsPartner screen old false line → AreStanding screen (old + 1) rest →
        AreStanding screen from ((if b then is_restyled old else sent_or_left window request index, line) ∷ rest)
    restyled_by true partner are_later = (are.0, partner, are_later)
    restyled_by false partner are_later = other are_later

    partnered : (same : Bool) → IsPartner screen old same line → AreStanding screen (old + 1) rest →
        AreStanding screen from ((standing window request index (Some (old, same)), line) ∷ rest)
    partnered true partner are_later = copied_by (is_near window index || is_within request index) partner are_later
    partnered false partner are_later = restyled_by (is_within window index || is_within request index) partner are_later

lines_of-with_standings : (window request : Run) (index : ℕ) (partners : List (Option (ℕ × Bool))) (lines : List Line) →
    lines_of (with_standings window request index partners lines) ≡ lines
lines_of-with_standings window request index partners [] = refl
lines_of-with_standings window request index [] (line ∷ lines) = ap (λ ls. line ∷ ls) (lines_of-with_standings window request (index + 1) [] lines)
lines_of-with_standings window request index (partner ∷ partners) (line ∷ lines) =
    ap (λ ls. line ∷ ls) (lines_of-with_standings window request (index + 1) partners lines)

-- THE LAW OF THE PLAN: where partners rise, and each is a valid old line that may be taken over for its line, the operations make the
-- lines that stay, are restyled or are sent, and the number of the others
pub screen_after-update_plan : (screen : Screen) (window request : Run) (number : ℕ) (lines : List Line) (partners : List (Option (ℕ × Bool))) →
    ArePartners screen 0 partners lines → AreNumberedFrom number lines →
    screen_after screen (update_plan window request lines partners) ≡ Some (planned_screen window request lines partners)
screen_after-update_plan screen window request number lines partners are numbers =
    let numbered = subst (AreNumberedFrom number) (sym (lines_of-with_standings window request 0 partners lines)) numbers in
    (Makes-plan screen 0 0 number (with_standings window request 0 partners lines) (omega arith)
    (AreStanding-partners screen window request 0 0 partners lines are) numbered).after

-- ---- what a plan tells

told_by-sent : (index : ℕ) (line : Line) (ops : List Op) → told_by index (onto_ops (Ins (line ∷ [])) ops) ≡ (index, whole line) ∷ told_by (index + 1) ops
told_by-sent index line [] = refl
told_by-sent index line (Copy n ln ∷ ops) = refl
told_by-sent index line (Skip n ∷ ops) = refl
told_by-sent index line (Invalidate n ∷ ops) = refl
told_by-sent index line (Ins lines ∷ ops) =
    let next : index + 1 + length lines ≡ index + suc (length lines) = omega arith in
    ap (λ at. (index, whole line) ∷ (enumerate_from (index + 1) (map whole lines) ++ told_by at ops)) (sym next)
told_by-sent index line (Update ln restyles ∷ ops) = refl

told_by-restyled : (index : ℕ) (ln : Option ℕ) (restyle : Restyle) (ops : List Op) →
    told_by index (onto_ops (Update ln (restyle ∷ [])) ops) ≡ (index, styling restyle) ∷ told_by (index + 1) ops
told_by-restyled index ln restyle [] = refl
told_by-restyled index ln restyle (Copy n later ∷ ops) = refl
told_by-restyled index ln restyle (Skip n ∷ ops) = refl
told_by-restyled index ln restyle (Invalidate n ∷ ops) = refl
told_by-restyled index ln restyle (Ins lines ∷ ops) = refl
told_by-restyled index ln restyle (Update later restyles ∷ ops) =
    let next : index + 1 + length restyles ≡ index + suc (length restyles) = omega arith in
    ap (λ at. (index, styling restyle) ∷ (enumerate_from (index + 1) (map styling restyles) ++ told_by at ops)) (sym next)

told_by-left : (index : ℕ) (ops : List Op) → told_by index (onto_ops (Invalidate 1) ops) ≡ told_by (index + 1) ops
told_by-left index [] = refl
told_by-left index (Copy n ln ∷ ops) = refl
told_by-left index (Skip n ∷ ops) = refl
told_by-left index (Invalidate n ∷ ops) = let same : index + (1 + n) ≡ index + 1 + n = omega arith in ap (λ at. told_by at ops) same
told_by-left index (Ins lines ∷ ops) = refl
told_by-left index (Update ln restyles ∷ ops) = refl

told_by-copied : (index : ℕ) (ln : Option ℕ) (ops : List Op) → told_by index (onto_ops (Copy 1 ln) ops) ≡ told_by (index + 1) ops
told_by-copied index ln [] = refl
told_by-copied index ln (Copy n later ∷ ops) = let same : index + (1 + n) ≡ index + 1 + n = omega arith in ap (λ at. told_by at ops) same
told_by-copied index ln (Skip n ∷ ops) = refl
told_by-copied index ln (Invalidate n ∷ ops) = refl
told_by-copied index ln (Ins lines ∷ ops) = refl
told_by-copied index ln (Update later restyles ∷ ops) = refl

told_by-skipped : (index n : ℕ) (ops : List Op) → told_by index (onto_ops (Skip n) ops) ≡ told_by index ops
told_by-skipped index n [] = refl
told_by-skipped index n (Copy m ln ∷ ops) = refl
told_by-skipped index n (Skip m ∷ ops) = refl
told_by-skipped index n (Invalidate m ∷ ops) = refl
told_by-skipped index n (Ins lines ∷ ops) = refl
told_by-skipped index n (Update ln restyles ∷ ops) = refl

told_by-taking : (index used old : ℕ) (same : Bool) (line : Line) (lines : List (Standing × Line)) (b : Bool) →
    told_by index (taking_ops used old same line lines b) ≡ told_by index (onto_ops (taking same line) (joined_ops (ops_for (old + 1) lines)))
told_by-taking index used old same line lines true =
    told_by-skipped index (old - used) (onto_ops (taking same line) (joined_ops (ops_for (old + 1) lines)))
told_by-taking index used old same line lines false = refl

-- a plan tells what is to be told by the standings of its lines, and no more
pub told_by-plan : (index used : ℕ) (lines : List (Standing × Line)) → told_by index (joined_ops (ops_for used lines)) ≡ to_tell index lines
told_by-plan index used [] = refl
told_by-plan index used ((stays old, line) ∷ lines) =
    told_by-taking index used old true line lines (nat_lt used old) ∙ told_by-copied index line.ln (joined_ops (ops_for (old + 1) lines)) ∙
    told_by-plan (index + 1) (old + 1) lines
told_by-plan index used ((is_restyled old, line) ∷ lines) =
    told_by-taking index used old false line lines (nat_lt used old) ∙
    told_by-restyled index line.ln (restyle_of line) (joined_ops (ops_for (old + 1) lines)) ∙
    ap (λ rest. (index, styling (restyle_of line)) ∷ rest) (told_by-plan (index + 1) (old + 1) lines)
told_by-plan index used ((is_sent, line) ∷ lines) =
    told_by-sent index line (joined_ops (ops_for used lines)) ∙ ap (λ rest. (index, whole line) ∷ rest) (told_by-plan (index + 1) used lines)
told_by-plan index used ((is_left, line) ∷ lines) =
    told_by-left index (joined_ops (ops_for used lines)) ∙ told_by-plan (index + 1) used lines

-- a line that is not even near the window, nor requested, is not in the window either
far-outside : (window request : Run) (index : ℕ) → (is_near window index || is_within request index) ≡ false →
    (is_within window index || is_within request index) ≡ false
far-outside window request index = by (is_within window index) (is_near window index) (is_within request index) near
  where
    by : (a b c : Bool) → (a ≡ true → b ≡ true) → (b || c) ≡ false → (a || c) ≡ false
    by true b c into none = absurd (true≢false (sym (ap (λ d. d || c) (into refl)) ∙ none))
    by false true c into none = absurd (true≢false none)
    by false false c into none = none

    near : is_within window index ≡ true → is_near window index ≡ true
    near within =
        let both = and_parts (nat_le window.start index) (nat_lt index window.end) within in
        let low = leb-true window.start index both.0 in
        let high = ltb-true index window.end both.1 in
        and_from (nat_le window.start (index + margin)) (nat_lt index (window.end + margin)) (le-leb window.start (index + margin) (omega (arith, low)))
        (lt-ltb index (window.end + margin) (omega (arith, high)))

-- what is to be told of lines is of the window or requested, and due by their partners
module _ (window request : Run) (all : List (Option (ℕ × Bool))) where
  abbrev AreDue : List (ℕ × Told) → Type 0
  AreDue told = AllByRecursion (λ (at, what). ((is_within window at || is_within request at) && is_due (partner_at all at) what) ≡ true) told

  -- these are all partners from an index on
  abbrev AreFrom : ℕ → List (Option (ℕ × Bool)) → Type 0
  AreFrom index partners = (k : ℕ) → partner_at all (index + k) ≡ partner_at partners k

  first-from : (index : ℕ) (partners : List (Option (ℕ × Bool))) → AreFrom index partners → partner_at all index ≡ partner_at partners 0
  first-from index partners from = let start : index ≡ index + 0 = omega arith in ap (partner_at all) start ∙ from 0

  rest-from : (index : ℕ) (partner : Option (ℕ × Bool)) (partners : List (Option (ℕ × Bool))) → AreFrom index (partner ∷ partners) → AreFrom (index + 1) partners
  rest-from index partner partners from = λ k. let next : index + 1 + k ≡ index + suc k = omega arith in ap (partner_at all) next ∙ from (suc k)

  none-from : (index : ℕ) → AreFrom index [] → AreFrom (index + 1) []
  none-from index from = λ k. let next : index + 1 + k ≡ index + suc k = omega arith in ap (partner_at all) next ∙ from (suc k)

  sent-due : (index : ℕ) (line : Line) (lines : List (Standing × Line)) (b : Bool) → (is_within window index || is_within request index) ≡ b →
      (b ≡ true → partner_at all index ≡ None) → AreDue (to_tell (index + 1) lines) → AreDue (to_tell index ((if b then is_sent else is_left, line) ∷ lines))
  sent-due index line lines true is none rest =
      (and_from (is_within window index || is_within request index) _ is (ap (λ partner. is_due partner (whole line)) (none refl)), rest)
  sent-due index line lines false is none rest = rest

  -- a line outside of both is left
  left-due : (index : ℕ) (line : Line) (lines : List (Standing × Line)) → (is_within window index || is_within request index) ≡ false →
      AreDue (to_tell (index + 1) lines) → AreDue (to_tell index ((sent_or_left window request index, line) ∷ lines))
  left-due index line lines outside rest =
      sent-due index line lines (is_within window index || is_within request index) refl (λ within. absurd (true≢false (sym within ∙ outside))) rest

  partnered-due : (index old : ℕ) (same : Bool) (line : Line) (lines : List (Standing × Line)) → partner_at all index ≡ Some (old, same) →
      AreDue (to_tell (index + 1) lines) → AreDue (to_tell index ((standing window request index (Some (old, same)), line) ∷ lines))
  partnered-due index old true line lines is rest = by (is_near window index || is_within request index) refl
    where
      by : (b : Bool) → (is_near window index || is_within request index) ≡ b →
          AreDue (to_tell index ((if b then stays old else sent_or_left window request index, line) ∷ lines))
      by true near = rest
      by false far = left-due index line lines (far-outside window request index far) rest
  partnered-due index old false line lines is rest = by (is_within window index || is_within request index) refl
    where
      by : (b : Bool) → (is_within window index || is_within request index) ≡ b →
          AreDue (to_tell index ((if b then is_restyled old else sent_or_left window request index, line) ∷ lines))
      by true within =
          (and_from (is_within window index || is_within request index) _ within (ap (λ partner. is_due partner (styling (restyle_of line))) is), rest)
      by false outside = left-due index line lines outside rest

  to_tell-from : (index : ℕ) (partners : List (Option (ℕ × Bool))) (lines : List Line) → AreFrom index partners →
      AreDue (to_tell index (with_standings window request index partners lines))
  to_tell-from index partners [] from = tt
  to_tell-from index [] (line ∷ lines) from =
      sent-due index line (with_standings window request (index + 1) [] lines) (is_within window index || is_within request index) refl
      (λ within. first-from index [] from) (to_tell-from (index + 1) [] lines (none-from index from))
  to_tell-from index (None ∷ partners) (line ∷ lines) from =
      sent-due index line (with_standings window request (index + 1) partners lines) (is_within window index || is_within request index) refl
      (λ within. first-from index (None ∷ partners) from) (to_tell-from (index + 1) partners lines (rest-from index None partners from))
  to_tell-from index (Some (old, same) ∷ partners) (line ∷ lines) from =
      partnered-due index old same line (with_standings window request (index + 1) partners lines) (first-from index (Some (old, same) ∷ partners) from)
      (to_tell-from (index + 1) partners lines (rest-from index (Some (old, same)) partners from))

-- what is to be told is of the window or requested, and due: all of a line that has no partner, and the carets and styles of one that has
-- one and is of a touched logical line
pub to_tell-due : (window request : Run) (partners : List (Option (ℕ × Bool))) (lines : List Line) →
    AllByRecursion (λ (at, what). ((is_within window at || is_within request at) && is_due (partner_at partners at) what) ≡ true)
    (to_tell 0 (with_standings window request 0 partners lines))
to_tell-due window request partners lines =
    to_tell-from window request partners 0 partners lines (λ k. let start : 0 + k ≡ k = omega arith in ap (partner_at partners) start)

-- ---- plans of lines without partners

-- the plan of lines from this index on
abbrev pub plan_from : Run → Run → ℕ → ℕ → List Line → List Op
plan_from window request index used lines = joined_ops (ops_for used (with_standings window request index [] lines))

-- by its first line, which is sent or left by a test
pub plan_from-line : (window request : Run) (index used : ℕ) (line : Line) (lines : List Line) (b : Bool) →
    (is_within window index || is_within request index) ≡ b →
    plan_from window request index used (line ∷ lines) ≡
    onto_ops (if b then Ins (line ∷ []) else Invalidate 1) (plan_from window request (index + 1) used lines)
plan_from-line window request index used line lines b is =
    ap (λ c. joined_ops (ops_for used ((if c then is_sent else is_left, line) ∷ with_standings window request (index + 1) [] lines))) is ∙ by b
  where
    by : (b : Bool) → joined_ops (ops_for used ((if b then is_sent else is_left, line) ∷ with_standings window request (index + 1) [] lines)) ≡
        onto_ops (if b then Ins (line ∷ []) else Invalidate 1) (plan_from window request (index + 1) used lines)
    by true = refl
    by false = refl

-- it shows the lines of the window and the request, on whatever screen there was
screen_after-line : (old : Screen) (b : Bool) (line : Line) (ops : List Op) →
    screen_after old (onto_ops (if b then Ins (line ∷ []) else Invalidate 1) ops) ≡
    option_map (λ lines. (if b then Some line else None) ∷ lines) (screen_after old ops)
screen_after-line old true line ops = screen_after-sent old line ops
screen_after-line old false line ops = screen_after-left old ops

pub screen_after-plan_from : (window request : Run) (lines : List Line) (index used : ℕ) (old : Screen) →
    screen_after old (plan_from window request index used lines) ≡
    Some (map (λ (index, line). if is_within window index || is_within request index then Some line else None) (enumerate_from index lines))
screen_after-plan_from window request [] index used old = refl
screen_after-plan_from window request (line ∷ lines) index used old =
    ap (screen_after old) (plan_from-line window request index used line lines (is_within window index || is_within request index) refl) ∙
    screen_after-line old (is_within window index || is_within request index) line (plan_from window request (index + 1) used lines) ∙
    ap (option_map (λ lines. (if is_within window index || is_within request index then Some line else None) ∷ lines))
    (screen_after-plan_from window request lines (index + 1) used old)
