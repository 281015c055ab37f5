-- What cuts add up to, and how a leaf keeps them: each cut is one number, twice its length and one more where it is the first of its
-- logical line.
use Rattle.std.specs.Prelude.{◌≡◌, ℕ, ◌+◌, ◌^◌, ◌<◌, ◌≤◌, ◌/◌, ◌%◌, ◌==◌, max, true, Bool, List, [], ◌∷◌, ◌++◌, length, map, cond, refl}
use Rattle.std.proofs.Common.{ap, sym, ◌∙◌, ltb, length-append, zero-add, add-zero, add_assoc}
use Rattle.std.proofs.Math.Nat.{le_trans, le-add_left, le-add_right, le-max_left, le-max_right, lt_of_le_of_lt, max-le}
use Rattle.std.proofs.lemmas.Bool.{lt-ltb, ltb-true}
use Rattle.shared_tree.specs.Laws.{Adds, Sums}
use Rattle.line_index.specs.declared.cut.Cut.{Cut}
use Rattle.line_index.specs.declared.cut.Sizes.{Sizes}
use Rattle.line_index.specs.Cuts.{firsts, span}

-- the cut that a number stands for, and those of some numbers
abbrev pub cut_of : ℕ → Cut
cut_of word = record { len = word / 2; first = word % 2 == 1 }

abbrev pub cuts_in : List ℕ → List Cut
cuts_in words = map cut_of words

-- these sizes
abbrev pub sizes : ℕ → ℕ → ℕ → Sizes
sizes pieces lines chars = record { pieces = pieces; lines = lines; chars = chars }

-- no pieces
abbrev pub no_sizes : Sizes
no_sizes = sizes 0 0 0

-- both
abbrev pub together : Sizes → Sizes → Sizes
together a b = sizes (a.pieces + b.pieces) (a.lines + b.lines) (a.chars + b.chars)

-- each fits 64 bits
abbrev pub is_countable : Sizes → Bool
is_countable a = ltb (max a.pieces (max a.lines a.chars)) (2 ^ 64)

-- the sizes of some cuts: how many there are, how many logical lines begin with one of them, and how many characters they have
abbrev pub sizes_of : List Cut → Sizes
sizes_of cuts = sizes (length cuts) (firsts cuts) (span cuts)

pub same_sizes : (a b c a' b' c' : ℕ) → a ≡ a' → b ≡ b' → c ≡ c' → sizes a b c ≡ sizes a' b' c'
same_sizes a b c a' b' c' p q r = rw (p, q, r) refl

-- what fits with more beside it fits alone
pub max-mono : (a b c d : ℕ) → a ≤ c → b ≤ d → max a b ≤ max c d
max-mono a b c d left right = max-le (le_trans left (le-max_left c d)) (le_trans right (le-max_right c d))

pub fits-under : (a b : Sizes) → a.pieces ≤ b.pieces → a.lines ≤ b.lines → a.chars ≤ b.chars → is_countable b ≡ true → is_countable a ≡ true
fits-under a b pieces lines chars fit = lt-ltb _ _ (lt_of_le_of_lt (max-mono _ _ _ _ pieces (max-mono _ _ _ _ lines chars)) (ltb-true _ (2 ^ 64) fit))

pub sizes_add : Adds no_sizes together is_countable (λ a. a.pieces)
sizes_add = record {
  left_zero = λ a. same_sizes _ _ _ a.pieces a.lines a.chars (zero-add _) (zero-add _) (zero-add _);
  right_zero = λ a. same_sizes _ _ _ a.pieces a.lines a.chars (add-zero _) (add-zero _) (add-zero _);
  grouped = λ a b c. same_sizes _ _ _ _ _ _ (add_assoc a.pieces b.pieces c.pieces) (add_assoc a.lines b.lines c.lines) (add_assoc a.chars b.chars c.chars);
  zero_fits = refl;
  left_fits = λ a b. fits-under a (together a b) (le-add_right a.pieces b.pieces) (le-add_right a.lines b.lines) (le-add_right a.chars b.chars);
  right_fits = λ a b. fits-under b (together a b) (le-add_left b.pieces a.pieces) (le-add_left b.lines a.lines) (le-add_left b.chars a.chars);
  none = refl;
  counts = λ a b. refl;
  small = λ a fit. lt_of_le_of_lt (le-max_left a.pieces (max a.lines a.chars)) (ltb-true _ (2 ^ 64) fit);
}

pub firsts-append : (xs ys : List Cut) → firsts (xs ++ ys) ≡ firsts xs + firsts ys
firsts-append [] ys = sym (zero-add (firsts ys))
firsts-append (cut ∷ xs) ys = ap (λ n. cond cut.first 1 0 + n) (firsts-append xs ys) ∙ sym (add_assoc (cond cut.first 1 0) (firsts xs) (firsts ys))

pub span-append : (xs ys : List Cut) → span (xs ++ ys) ≡ span xs + span ys
span-append [] ys = sym (zero-add (span ys))
span-append (cut ∷ xs) ys = ap (λ n. cut.len + n) (span-append xs ys) ∙ sym (add_assoc cut.len (span xs) (span ys))

pub sizes_sum : Sums sizes_of no_sizes together (λ a. a.pieces)
sizes_sum = record {
  empty = refl;
  joined = λ xs ys. same_sizes _ _ _ _ _ _ (length-append xs ys) (firsts-append xs ys) (span-append xs ys);
  counts = λ xs. refl;
}
