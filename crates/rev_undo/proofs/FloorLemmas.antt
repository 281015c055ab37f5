-- What groups hide, one after the other.
use Rattle.std.proofs.Common.{◌≡◌, ℕ, zero, suc, ◌+◌, ◌<◌, Bool, true, false, not, ◌||◌, if◌then◌else◌, List, [], ◌∷◌, length, drop, get_or, refl, ap, sym, ◌∙◌, arith}
use Rattle.std.specs.Prelude.{replicate}
use Rattle.std.specs.List.{fold, AllByRecursion}
use Rattle.std.proofs.lemmas.List.{drop_more, length-map}
use Rattle.subset_runs.specs.Subset.{union}
use Rattle.subset_runs.proofs.ForCallers.{length-at_each}
use Rattle.plain_text.specs.Numbers.{has}
use Rattle.rev_list.specs.declared.settled.SettledGroup.{SettledGroup}
use Rattle.rev_list.specs.Settled.{HasLengths, hidden_of, loaded_of}

all_at : (P : SettledGroup → Type 0) (groups : List SettledGroup) (i : ℕ) (d : SettledGroup) → AllByRecursion P groups → i < length groups → P (get_or groups i d)
all_at P [] i d all lt = absurd (omega arith)
all_at P (g ∷ groups) zero d all lt = all.0
all_at P (g ∷ groups) (suc i) d all lt = all_at P groups i d all.1 (omega arith)

-- one more group
pub record IsOneMore (f : SettledGroup → List Bool) (groups : List SettledGroup) (i len : ℕ) (first before after : List Bool) : Type 0 where
  pub long : length after ≡ len
  pub so_far : fold (λ all g. union all (f g)) after (drop (i + 1) groups) ≡ fold (λ all g. union all (f g)) first groups

pub one_more : (f : SettledGroup → List Bool) (groups : List SettledGroup) (i len : ℕ) (first before after : List Bool) (d : SettledGroup) →
    ((g : SettledGroup) → HasLengths len g → length (f g) ≡ len) → AllByRecursion (HasLengths len) groups → i < length groups → length before ≡ len →
    after ≡ union before (f (get_or groups i d)) →
    fold (λ all g. union all (f g)) before (drop i groups) ≡ fold (λ all g. union all (f g)) first groups → IsOneMore f groups i len first before after
one_more f groups i len first before after d longs lengths lt long is so_far =
    let own : length (f (get_or groups i d)) ≡ len = longs (get_or groups i d) (all_at (HasLengths len) groups i d lengths lt) in
    record {
      long = ap length is ∙ length-at_each (λ x y. x || y) before (f (get_or groups i d)) (omega (arith, own, long)) ∙ long;
      so_far =
          ap (λ all. fold (λ all g. union all (f g)) all (drop (i + 1) groups)) is ∙
          sym (ap (λ gs. fold (λ all g. union all (f g)) before gs) (drop_more groups i d lt)) ∙ so_far;
    }

pub length-hidden_of : (set : List ℕ) (len : ℕ) (g : SettledGroup) → HasLengths len g → length (hidden_of set g) ≡ len
length-hidden_of set len g is = by (has set g.group)
  where
    by : (in_it : Bool) → length (if in_it then g.inserted else g.deleted) ≡ len
    by true = is.inserted
    by false = is.deleted

length-none : (len : ℕ) → length (replicate len false) ≡ len
length-none zero = refl
length-none (suc len) = ap suc (length-none len)

length-fold : (flags : List Bool) (len : ℕ) (groups : List SettledGroup) → length flags ≡ len → AllByRecursion (HasLengths len) groups →
    length (fold (λ all g. union all g.inserted) flags groups) ≡ len
length-fold flags len [] long lengths = long
length-fold flags len (g ∷ groups) long lengths =
    length-fold (union flags g.inserted) len groups
    (length-at_each (λ x y. x || y) flags g.inserted (omega (arith, long, lengths.0.inserted)) ∙ long) lengths.1

pub length-loaded_in : (in_set : Bool) (len : ℕ) (groups : List SettledGroup) → AllByRecursion (HasLengths len) groups →
    length (if in_set then loaded_of len groups else replicate len false) ≡ len
length-loaded_in true len groups lengths =
    length-map (fold (λ all g. union all g.inserted) (replicate len false) groups) not ∙ length-fold (replicate len false) len groups (length-none len) lengths
length-loaded_in false len groups lengths = length-none len
