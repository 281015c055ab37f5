-- Which groups are known: they may be undone.
use Rattle.std.proofs.Common.{◌≡◌, ◌↔◌, ℕ, zero, suc, ◌<◌, ◌≤◌, Bool, true, false, not, ◌||◌, ◌==◌, if◌then◌else◌, IsTrue, is_some, Option, Some, None, List, [], take, ◌⊎◌, inl, inr, refl, ap, sym, ◌∙◌, arith}
use Rattle.std.specs.List.{AllByRecursion, list_any}
use Rattle.std.proofs.lemmas.Bool.{both_ways, cases_lt, leb-true, le-leb, lt-leb, ne_eqb}
use Rattle.plain_text.specs.Numbers.{has, IsRising}
use Rattle.plain_edits.specs.History.{History}
use Rattle.plain_edits.specs.Edits.{is_edit_of}
use Rattle.plain_edits.specs.HistorySteps.{IsWellFormed}
use Rattle.plain_edits.specs.Undo.{undone_now}
use Rattle.collection_laws.specs.Left.{left_of}
use Rattle.rev_list.specs.Edit.{undone_by}
use Rattle.rev_list.specs.Groups.{IsFirstEdit}
use Rattle.rev_list.proofs.ForCallers.{any_edit, no_edit}
use Rattle.rev_undo.proofs.ForCallers.{of_all, of_one}
use Rattle.rev_engine.specs.Asked.{BeginsAfter, IsKnown}
use Rattle.rev_engine.proofs.FrozenLemmas.{has-undone_by}
use Rattle.rev_engine.proofs.LeftLemmas.{has_edit-left, has_edit-of_left, has_edit_by-left, none_by-left}

-- a group with a first edit is known, and one without is where it is collected
pub known_some : (h : History) (group : ℕ) (found : Option ℕ) → 0 < group → IsFirstEdit h.revisions group found → is_some found ≡ true → IsKnown h group
known_some h group (Some first) counts is some =
    (counts, ap (λ b. b || has h.collected group) (any_edit h.revisions group first counts is))
known_some h group None counts is some = absurd cc

pub known_none : (h : History) (group : ℕ) (found : Option ℕ) → 0 < group → IsFirstEdit h.revisions group found → is_some found ≡ false →
    IsTrue (has h.collected group) ↔ IsKnown h group
known_none h group (Some first) counts is none = absurd cc
known_none h group None counts is none =
    let same : (list_any (is_edit_of group) h.revisions || has h.collected group) ≡ has h.collected group =
    ap (λ b. b || has h.collected group) (no_edit h.revisions group is) in
    (λ collected. (counts, same ∙ collected), λ known. sym same ∙ known.1)

-- whether a group that is not collected begins after a revision from the floor on is said by its first edit in what is left
pub begins_some : (h : History) (group first rev : ℕ) → IsWellFormed h → has h.collected group ≡ false → h.floor ≤ rev →
    IsFirstEdit (left_of h).revisions group (Some first) → (rev < first) ↔ BeginsAfter h group rev
begins_some h group first rev formed kept low is = (
  λ later.
      let counts : 0 < group = elim (zero_first group refl) [ inl none ↦ absurd (omega (arith, later, none)) | inr counts ↦ counts ] in
      record {
        counts = counts;
        some = has_edit-left h group (any_edit (left_of h).revisions group first counts is);
        none =
            none_by-left h group formed kept rev low
            (second_none (group == 0) (list_any (is_edit_of group) (take rev (left_of h).revisions)) (is rev ∙ lt-leb first rev later));
      },
  λ begins. elim (cases_lt rev first) [
    | inl later ↦ later
    | inr by_then ↦ absurd (both_ways (list_any (is_edit_of group) (take rev h.revisions)) begins.none (early begins.counts by_then))
  ],
)
  where
    second_none : (a b : Bool) → (a || b) ≡ false → b ≡ false
    second_none true b none = absurd cc
    second_none false b none = none

    second : (a b : Bool) → a ≡ false → (a || b) ≡ true → b ≡ true
    second true b none some = absurd cc
    second false b none some = some

    -- the loaded text is of group 0
    zero_first : (g : ℕ) → group ≡ g → (first ≡ 0) ⊎ (0 < group)
    zero_first zero same = inl (omega (arith, leb-true first 0 (sym (is 0) ∙ ap (λ g. g == 0 || list_any (is_edit_of group) []) same)))
    zero_first (suc g) same = inr (omega (arith, same))

    early : 0 < group → first ≤ rev → list_any (is_edit_of group) (take rev h.revisions) ≡ true
    early counts by_then =
        has_edit_by-left h group formed rev
        (second (group == 0) (list_any (is_edit_of group) (take rev (left_of h).revisions)) (ne_eqb group 0 (λ none. omega (arith, none, counts)))
        (is rev ∙ le-leb first rev by_then))

-- one without an edit in what is left begins nowhere
pub begins_none : (h : History) (group rev : ℕ) → IsWellFormed h → has h.collected group ≡ false →
    IsFirstEdit (left_of h).revisions group None → BeginsAfter h group rev → ⊥
begins_none h group rev formed kept is begins =
    both_ways (list_any (is_edit_of group) (left_of h).revisions) (no_edit (left_of h).revisions group is)
    (has_edit-of_left h group formed kept begins.some)

-- where what is undone is known, a set is known exactly where the groups are in which it differs
pub known_by : (h : History) (groups : List ℕ) → IsRising (undone_now h) → IsRising groups → AllByRecursion (IsKnown h) (undone_now h) →
    AllByRecursion (IsKnown h) groups ↔ AllByRecursion (IsKnown h) (undone_by h groups)
known_by h groups up rising undone = (
  λ all. of_all (IsKnown h) (undone_by h groups) (λ group there.
      into group (has groups group) (has (undone_now h) group) refl refl (sym (has-undone_by h groups group up rising) ∙ there) all),
  λ all. of_all (IsKnown h) groups (λ group there.
      back group (has (undone_now h) group) refl
      (has-undone_by h groups group up rising ∙ ap (λ b. if b then not (has (undone_now h) group) else has (undone_now h) group) there) all),
)
  where
    into : (group : ℕ) (own was : Bool) → has groups group ≡ own → has (undone_now h) group ≡ was → (if own then not was else was) ≡ true →
        AllByRecursion (IsKnown h) groups → IsKnown h group
    into group true was own_is was_is there all = of_one (IsKnown h) groups group all own_is
    into group false true own_is was_is there all = of_one (IsKnown h) (undone_now h) group undone was_is
    into group false false own_is was_is there all = absurd cc

    back : (group : ℕ) (was : Bool) → has (undone_now h) group ≡ was → has (undone_by h groups) group ≡ not (has (undone_now h) group) →
        AllByRecursion (IsKnown h) (undone_by h groups) → IsKnown h group
    back group true was_is there all = of_one (IsKnown h) (undone_now h) group undone was_is
    back group false was_is there all = of_one (IsKnown h) (undone_by h groups) group all (there ∙ ap not was_is)
