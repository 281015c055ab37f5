-- One step of a walk over groups or edits.
use Rattle.std.proofs.Common.{◌≡◌, ℕ, zero, suc, ◌+◌, ◌<◌, Bool, true, false, ◌||◌, if◌then◌else◌, ◌==◌, List, [], ◌∷◌, ◌++◌, length, map, filter, cond, drop, get_or, slice_set, refl, ap, ap₂, sym, ◌∙◌, arith}
use Rattle.std.specs.List.{fold, AllByRecursion}
use Rattle.std.proofs.lemmas.Bool.{eq-eqb, ne_eqb}
use Rattle.std.proofs.lemmas.List.{drop_more}
use Rattle.subset_runs.specs.Subset.{union}
use Rattle.subset_runs.proofs.ForCallers.{length-at_each}
use Rattle.plain_text.specs.Numbers.{has, IsRising}
use Rattle.rev_list.specs.declared.settled.SettledGroup.{SettledGroup}
use Rattle.rev_list.specs.Settled.{HasLengths, hidden_of}
use Rattle.rev_collect.specs.Joined.{joined, with_edit}

-- what holds of all holds of one that is read
pub all_at : (P : SettledGroup → Type 0) (groups : List SettledGroup) (i : ℕ) (d : SettledGroup) → AllByRecursion P groups → i < length groups → P (get_or groups i d)
all_at P [] i d all lt = absurd (omega arith)
all_at P (g ∷ groups) zero d all lt = all.0
all_at P (g ∷ groups) (suc i) d all lt = all_at P groups i d all.1 (omega arith)

-- the next one is of the kind, or it is not
pub filter_in : (p : SettledGroup → Bool) (groups : List SettledGroup) (i : ℕ) (d : SettledGroup) → i < length groups → p (get_or groups i d) ≡ true →
    filter p (drop i groups) ≡ get_or groups i d ∷ filter p (drop (i + 1) groups)
filter_in p groups i d lt is =
    ap (filter p) (drop_more groups i d lt) ∙
    ap (λ b. cond b (get_or groups i d ∷ filter p (drop (i + 1) groups)) (filter p (drop (i + 1) groups))) is

pub filter_out : (p : SettledGroup → Bool) (groups : List SettledGroup) (i : ℕ) (d : SettledGroup) → i < length groups → p (get_or groups i d) ≡ false →
    filter p (drop i groups) ≡ filter p (drop (i + 1) groups)
filter_out p groups i d lt is =
    ap (filter p) (drop_more groups i d lt) ∙
    ap (λ b. cond b (get_or groups i d ∷ filter p (drop (i + 1) groups)) (filter p (drop (i + 1) groups))) is

append-one : (xs rest : List SettledGroup) (x : SettledGroup) → (xs ++ x ∷ []) ++ rest ≡ xs ++ x ∷ rest
append-one [] rest x = refl
append-one (y ∷ xs) rest x = ap (λ more. y ∷ more) (append-one xs rest x)

-- one more at the end of what was made
pub push_mapped : (f : SettledGroup → SettledGroup) (made after rest whole : List SettledGroup) (g : SettledGroup) → after ≡ made ++ f g ∷ [] →
    made ++ map f (g ∷ rest) ≡ whole → after ++ map f rest ≡ whole
push_mapped f made after rest whole g is so_far = ap (λ xs. xs ++ map f rest) is ∙ append-one made (map f rest) (f g) ∙ so_far

-- ---- what a group hides

pub length-hidden_of : (set : List ℕ) (len : ℕ) (g : SettledGroup) → HasLengths len g → length (hidden_of set g) ≡ len
length-hidden_of set len g is = by (has set g.group)
  where
    by : (in_it : Bool) → length (if in_it then g.inserted else g.deleted) ≡ len
    by true = is.inserted
    by false = is.deleted

pub length-with : (len : ℕ) (before flags after : List Bool) → length before ≡ len → length flags ≡ len → after ≡ union before flags → length after ≡ len
length-with len before flags after long own is = ap length is ∙ length-at_each (λ x y. x || y) before flags (omega (arith, own, long)) ∙ long

-- the next group, where it is collected, drops what it hides
pub record IsOneMore (keys undone : List ℕ) (groups : List SettledGroup) (i len : ℕ) (before after : List Bool) : Type 0 where
  pub long : length after ≡ len
  pub so_far :
      fold (λ dropped g. union dropped (hidden_of undone g)) after (filter (λ g. has keys g.group) (drop (i + 1) groups)) ≡
      fold (λ dropped g. union dropped (hidden_of undone g)) before (filter (λ g. has keys g.group) (drop i groups))

pub one_more : (keys undone : List ℕ) (groups : List SettledGroup) (i len : ℕ) (d : SettledGroup) (before after : List Bool) → i < length groups →
    AllByRecursion (HasLengths len) groups → length before ≡ len →
    after ≡ (if has keys (get_or groups i d).group then union before (hidden_of undone (get_or groups i d)) else before) →
    IsOneMore keys undone groups i len before after
one_more keys undone groups i len d before after lt lengths long is = by (has keys (get_or groups i d).group) refl is
  where
    by : (own : Bool) → has keys (get_or groups i d).group ≡ own → after ≡ (if own then union before (hidden_of undone (get_or groups i d)) else before) → IsOneMore keys undone groups i len before after
    by true own is = record {
      long = length-with len before (hidden_of undone (get_or groups i d)) after long (length-hidden_of undone len (get_or groups i d) (all_at (HasLengths len) groups i d lengths lt)) is;
      so_far =
          ap (λ all. fold (λ dropped g. union dropped (hidden_of undone g)) all (filter (λ g. has keys g.group) (drop (i + 1) groups))) is ∙
          sym (ap (fold (λ dropped g. union dropped (hidden_of undone g)) before) (filter_in (λ g. has keys g.group) groups i d lt own));
    }
    by false own is = record {
      long = ap length is ∙ long;
      so_far =
          ap (λ all. fold (λ dropped g. union dropped (hidden_of undone g)) all (filter (λ g. has keys g.group) (drop (i + 1) groups))) is ∙
          sym (ap (fold (λ dropped g. union dropped (hidden_of undone g)) before) (filter_out (λ g. has keys g.group) groups i d lt own));
    }

-- ---- one edit more

-- no group is of another number
other_stays : (groups : List SettledGroup) (e : SettledGroup) → AllByRecursion (λ g. (g.group == e.group) ≡ false) groups → with_edit groups e ≡ groups
other_stays [] e others = refl
other_stays (g ∷ groups) e others =
    ap₂ (λ x rest. x ∷ rest) (ap (λ b. if b then joined g e else g) others.0) (other_stays groups e others.1)

above_differ : (n : ℕ) (groups : List SettledGroup) (e : SettledGroup) → e.group ≡ n → AllByRecursion (λ m. n < m) (map (λ g. g.group) groups) →
    AllByRecursion (λ g. (g.group == e.group) ≡ false) groups
above_differ n [] e same above = tt
above_differ n (g ∷ groups) e same above = (ne_eqb g.group e.group (λ is. omega (arith, is, same, above.0)), above_differ n groups e same above.1)

above_at : (n : ℕ) (xs : List ℕ) (j d : ℕ) → AllByRecursion (λ m. n < m) xs → j < length xs → n < get_or xs j d
above_at n [] j d all lt = absurd (omega arith)
above_at n (x ∷ xs) zero d all lt = all.0
above_at n (x ∷ xs) (suc j) d all lt = above_at n xs j d all.1 (omega arith)

pub set_own : (groups : List SettledGroup) (at d : ℕ) (e x : SettledGroup) → IsRising (map (λ g. g.group) groups) → at < length (map (λ g. g.group) groups) →
    get_or (map (λ g. g.group) groups) at d ≡ e.group → slice_set groups at (joined (get_or groups at x) e) ≡ with_edit groups e
set_own [] at d e x up lt same = absurd (omega arith)
set_own (g ∷ groups) zero d e x up lt same =
    ap₂ (λ y rest. y ∷ rest) (sym (ap (λ b. if b then joined g e else g) (eq-eqb g.group e.group same))) (sym (other_stays groups e (above_differ g.group groups e (sym same) up.0)))
set_own (g ∷ groups) (suc at) d e x up lt same =
    ap₂ (λ y rest. y ∷ rest)
    (sym (ap (λ b. if b then joined g e else g)
    (ne_eqb g.group e.group (λ is. omega (arith, is, same, above_at g.group (map (λ g. g.group) groups) at d up.0 (omega (arith, lt)))))))
    (set_own groups at d e x up.1 (omega (arith, lt)) same)

missed : (groups : List SettledGroup) (e : SettledGroup) → has (map (λ g. g.group) groups) e.group ≡ false → AllByRecursion (λ g. (g.group == e.group) ≡ false) groups
missed [] e none = tt
missed (g ∷ groups) e none = by (g.group == e.group) refl none (missed groups e)
  where
    by : (own : Bool) → (g.group == e.group) ≡ own → (own || has (map (λ g. g.group) groups) e.group) ≡ false →
        (has (map (λ g. g.group) groups) e.group ≡ false → AllByRecursion (λ g. (g.group == e.group) ≡ false) groups) →
        AllByRecursion (λ g. (g.group == e.group) ≡ false) (g ∷ groups)
    by true own none rest = absurd cc
    by false own none rest = (own, rest none)

pub nothing_own : (groups : List SettledGroup) (e : SettledGroup) → has (map (λ g. g.group) groups) e.group ≡ false → groups ≡ with_edit groups e
nothing_own groups e none = sym (other_stays groups e (missed groups e none))
