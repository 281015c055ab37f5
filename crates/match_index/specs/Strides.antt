-- The matches of a text as strides: a stride is how many characters stand between the end of a match and the end of the one before. It
-- says nothing of what stands left of that, so that the strides of other matches stay as they are.
use Rattle.std.specs.Prelude.{◌≡◌, ℕ, ◌+◌, ◌-◌, ◌^◌, ◌≤◌, max, true, Bool, List, [], ◌∷◌, ◌++◌, length, refl}
use Rattle.std.proofs.Common.{ap, sym, ◌∙◌, ltb, length-append, zero-add, add-zero, add_assoc}
use Rattle.std.proofs.Math.Nat.{le_trans, le-add_left, le-add_right, le-max_left, le-max_right, lt_of_le_of_lt, max-le}
use Rattle.std.proofs.lemmas.Bool.{lt-ltb, ltb-true}
use Rattle.plain_text.specs.declared.run.Run.{Run}
use Rattle.shared_tree.specs.Laws.{Adds, Sums}
use Rattle.match_index.specs.declared.stride.Reach.{Reach}

-- THE RUNS THAT STRIDES SAY, all of one length: the first ends a stride behind this gap, and each next one a stride behind the one before
abbrev pub runs_behind : ℕ → ℕ → List ℕ → List Run
runs_behind len gap [] = []
runs_behind len gap (stride ∷ strides) =
    record { start = gap + stride - len; end = gap + stride } ∷ runs_behind len (gap + stride) strides

-- how many characters they have in all
abbrev pub span : List ℕ → ℕ
span [] = 0
span (stride ∷ strides) = stride + span strides

-- this many matches, of which the last ends so many characters behind the end of what stands before
abbrev pub reach : ℕ → ℕ → Reach
reach matches chars = record { matches = matches; chars = chars }

abbrev pub no_reach : Reach
no_reach = reach 0 0

-- both
abbrev pub together : Reach → Reach → Reach
together a b = reach (a.matches + b.matches) (a.chars + b.chars)

-- each fits 64 bits
abbrev pub is_countable : Reach → Bool
is_countable a = ltb (max a.matches a.chars) (2 ^ 64)

-- the reach of some strides
abbrev pub reach_of : List ℕ → Reach
reach_of strides = reach (length strides) (span strides)

pub same_reach : (a b a' b' : ℕ) → a ≡ a' → b ≡ b' → reach a b ≡ reach a' b'
same_reach a b a' b' p q = rw (p, q) refl

-- what fits with more beside it fits alone
pub fits-under : (a b : Reach) → a.matches ≤ b.matches → a.chars ≤ b.chars → is_countable b ≡ true → is_countable a ≡ true
fits-under a b matches chars fit =
    lt-ltb _ _ (lt_of_le_of_lt (max-le (le_trans matches (le-max_left b.matches b.chars)) (le_trans chars (le-max_right b.matches b.chars)))
    (ltb-true _ (2 ^ 64) fit))

pub reaches_add : Adds no_reach together is_countable (λ a. a.matches)
reaches_add = record {
  left_zero = λ a. same_reach _ _ a.matches a.chars (zero-add _) (zero-add _);
  right_zero = λ a. same_reach _ _ a.matches a.chars (add-zero _) (add-zero _);
  grouped = λ a b c. same_reach _ _ _ _ (add_assoc a.matches b.matches c.matches) (add_assoc a.chars b.chars c.chars);
  zero_fits = refl;
  left_fits = λ a b. fits-under a (together a b) (le-add_right a.matches b.matches) (le-add_right a.chars b.chars);
  right_fits = λ a b. fits-under b (together a b) (le-add_left b.matches a.matches) (le-add_left b.chars a.chars);
  none = refl;
  counts = λ a b. refl;
  small = λ a fit. lt_of_le_of_lt (le-max_left a.matches a.chars) (ltb-true _ (2 ^ 64) fit);
}

pub span-append : (xs ys : List ℕ) → span (xs ++ ys) ≡ span xs + span ys
span-append [] ys = sym (zero-add (span ys))
span-append (stride ∷ xs) ys = ap (λ n. stride + n) (span-append xs ys) ∙ sym (add_assoc stride (span xs) (span ys))

pub reaches_sum : Sums reach_of no_reach together (λ a. a.matches)
reaches_sum = record {
  empty = refl;
  joined = λ xs ys. same_reach _ _ _ _ (length-append xs ys) (span-append xs ys);
  counts = λ xs. refl;
}
