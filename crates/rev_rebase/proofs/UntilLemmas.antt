-- A history as it was after a revision.
use Rattle.std.proofs.Common.{◌≡◌, ℕ, ◌+◌, ◌≤◌, Bool, true, false, not, inl, inr, length, take, filter, refl, ap, ap₂, sym, ◌∙◌, arith, take_all}
use Rattle.std.specs.List.{AllByRecursion}
use Rattle.std.proofs.lemmas.Bool.{cases_lt, leb-true, le-leb, lt-leb, eq-eqb, ne_eqb, not_from_true, not_from_false}
use Rattle.std.proofs.lemmas.List.Elements.{recursion_from_All, filter_passes}
use Rattle.std.proofs.lemmas.List.Sums.{length-filter, count_by-le-length}
use Rattle.plain_edits.specs.History.{Tagged, History, head, is_visible, visible_at, is_there, IsSound}
use Rattle.plain_edits.specs.Place.{is_by}
use Rattle.plain_text.proofs.callers.ListLemmas.{AllByRecursion-weaker, filter_same}
use Rattle.plain_edits.proofs.callers.BlockLemmas.{filter-weaker}
use Rattle.plain_edits.proofs.callers.PlaceLemmas.{is_visible-inserted}
use Rattle.plain_edits.proofs.callers.FirstLemmas.{is_visible-take}
use Rattle.rev_list.specs.Hidden.{is_hidden, union_at}
use Rattle.rev_list.proofs.ForCallers.{filter-there}
use Rattle.rev_rebase.specs.Until.{until}

-- what is visible at a revision does not depend on the later ones
pub seen_then : (h : History) (base m : ℕ) → base ≤ m → is_visible (take m h.revisions) base ≡ is_visible h.revisions base
seen_then h base m low = λ i tagged. is_visible-take h.revisions m base tagged low i

-- ---- the characters that were there

pub union_at-there : (h : History) (m : ℕ) → AllByRecursion (λ tagged. tagged.inserted ≤ m) (union_at h m)
union_at-there h m =
    AllByRecursion-weaker (λ tagged. is_there m tagged ≡ true) (λ tagged. tagged.inserted ≤ m) (λ tagged is. leb-true tagged.inserted m is) (union_at h m)
    (recursion_from_All (λ tagged. is_there m tagged ≡ true) (union_at h m) (filter_passes (is_there m) h.characters))

-- the union before a revision is the union after it without its own characters
pub union_at-before : (h : History) (rev : ℕ) → filter (λ tagged. not (is_by (rev + 1) tagged)) (union_at h (rev + 1)) ≡ union_at h rev
union_at-before h rev =
    filter_same (λ tagged. tagged.inserted ≤ rev + 1) (λ tagged. not (is_by (rev + 1) tagged)) (is_there rev) agree (union_at h (rev + 1)) (union_at-there h (rev + 1)) ∙
    filter-weaker (is_there rev) (is_there (rev + 1)) (λ t is. le-leb t.inserted (rev + 1) (omega (arith, leb-true t.inserted rev is))) h.characters
  where
    agree : (tagged : Tagged) → tagged.inserted ≤ rev + 1 → not (is_by (rev + 1) tagged) ≡ is_there rev tagged
    agree t within =
        elim (cases_lt t.inserted (rev + 1)) [
          | inl below ↦ not_from_false (is_by (rev + 1) t) (ne_eqb t.inserted (rev + 1) (omega (arith, below))) ∙ sym (le-leb t.inserted rev (omega (arith, below)))
          | inr top ↦ not_from_true (is_by (rev + 1) t) (eq-eqb t.inserted (rev + 1) (omega (arith, top, within))) ∙ sym (lt-leb t.inserted rev (omega (arith, top)))
        ]

pub visible_then : (h : History) (base m : ℕ) → base ≤ m → filter (is_visible h.revisions base) (union_at h m) ≡ visible_at h base
visible_then h base m low =
    filter-weaker (is_visible h.revisions base) (is_there m)
    (λ t seen. le-leb t.inserted m (omega (arith, is_visible-inserted h.revisions base t seen, low))) h.characters

-- what is not hidden of the union of a revision is visible
pub alive_then : (h : History) (base : ℕ) → filter (λ t. not (is_hidden h base t)) (union_at h base) ≡ visible_at h base
alive_then h base =
    ap (λ test. filter test (union_at h base)) (λ i t. not_not (is_visible h.revisions base t) i) ∙ visible_then h base base (omega arith)
  where
    not_not : (b : Bool) → not (not b) ≡ b
    not_not true = refl
    not_not false = refl

-- a union has no more characters than the present one
pub length-union_at : (h : History) (m : ℕ) → length (union_at h m) ≤ length h.characters
length-union_at h m = omega (arith, length-filter (is_there m) h.characters, count_by-le-length (is_there m) h.characters)

pub until-head : (history : History) → IsSound history → until history (head history) ≡ history
until-head history sound =
    ap₂ (λ characters revisions. record history { characters = characters; revisions = revisions })
    (filter-there (head history) history.characters sound) (take_all (head history) history.revisions (omega arith))
