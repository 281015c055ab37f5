-- Groups that can't be at rest up to a revision, since their first edit is after it.
use Rattle.std.proofs.Common.{◌≡◌, ℕ, ◌<◌, ◌≤◌, Bool, true, false, not, ◌&&◌, ◌||◌, ◌==◌, nat_le, List, [], ◌∷◌, take, drop, cond, Some, None, refl, ap, sym, ◌∙◌, arith}
use Rattle.std.specs.List.{list_any}
use Rattle.std.proofs.lemmas.Bool.{le-leb, lt-leb}
use Rattle.std.proofs.lemmas.Bool.Decides.{nat_tests}
use Rattle.std.proofs.lemmas.List.{take-append-drop}
use Rattle.std.proofs.lemmas.List.Folds.{list_any-append}
use Rattle.plain_text.specs.Numbers.{has}
use Rattle.plain_edits.specs.History.{Revision, History}
use Rattle.plain_edits.specs.Edits.{is_edit_of}
use Rattle.plain_edits.specs.Collection.{clean_floor, collection_at, is_at_rest, resting_groups}
use Rattle.plain_edits.proofs.callers.CollectionLemmas.{greatest_clean_floor}
use Rattle.rev_list.specs.Groups.{IsFirstEdit}

none_first : (a b c : Bool) → a ≡ false → (a || (b || c)) ≡ false → b ≡ false
none_first true b c none any = absurd cc
none_first false true c none any = absurd cc
none_first false false c none any = refl

either_false : (a b : Bool) → (a || b) ≡ false → (a ≡ false) × (b ≡ false)
either_false true b none = absurd cc
either_false false b none = (refl, none)

second : (a b : Bool) → (a || b) ≡ true → a ≡ false → b ≡ true
second true b is none = absurd cc
second false b is none = is

first_of : (a b c : Bool) → a ≡ b || c → b ≡ true → a ≡ true
first_of a true c is one = is
first_of a false c is one = absurd cc

moving : (a b : Bool) → a ≡ true → (not a && b) ≡ false
moving true b is = refl
moving false b is = absurd cc

any_parted : (p : Revision → Bool) (n : ℕ) (revisions : List Revision) →
    list_any p revisions ≡ (list_any p (take n revisions) || list_any p (drop n revisions))
any_parted p n revisions = ap (list_any p) (sym (take-append-drop n revisions)) ∙ list_any-append p (take n revisions) (drop n revisions)

-- a group whose first edit is after the floor is not at rest there
first_later : (h : History) (group first floor : ℕ) → IsFirstEdit h.revisions group (Some first) → floor < first → is_at_rest h floor group ≡ false
first_later h group first floor is later =
    let by_floor = either_false (group == 0) (list_any (is_edit_of group) (take floor h.revisions)) (is floor ∙ lt-leb first floor later) in
    let by_first : list_any (is_edit_of group) (take first h.revisions) ≡ true =
    second (group == 0) (list_any (is_edit_of group) (take first h.revisions)) (is first ∙ le-leb first first (omega arith)) by_floor.0 in
    let any : list_any (is_edit_of group) h.revisions ≡ true =
    first_of (list_any (is_edit_of group) h.revisions) (list_any (is_edit_of group) (take first h.revisions))
    (list_any (is_edit_of group) (drop first h.revisions)) (any_parted (is_edit_of group) first h.revisions) by_first in
    moving (list_any (is_edit_of group) (drop floor h.revisions)) _
    (second (list_any (is_edit_of group) (take floor h.revisions)) (list_any (is_edit_of group) (drop floor h.revisions))
    (sym (any_parted (is_edit_of group) floor h.revisions) ∙ any) by_floor.1)

over : (first most : ℕ) → nat_le first most ≡ false → most < first
over first most is = grind (arith, nat_tests)

fails_then : (a b : Bool) → b ≡ false → (a && b) ≡ false
fails_then true b is = is
fails_then false b is = refl

-- so it does not rest at any floor up to a revision before its first edit
pub never_rests : (h : History) (group first most : ℕ) → IsFirstEdit h.revisions group (Some first) → nat_le first most ≡ false → (floor : ℕ) →
    floor ≤ most → (not (has h.collected group) && is_at_rest h floor group) ≡ false
never_rests h group first most is later floor within =
    fails_then (not (has h.collected group)) (is_at_rest h floor group)
    (first_later h group first floor is (omega (arith, over first most later, within)))

-- a group that does not rest is passed over
pub resting_without : (h : History) (group : ℕ) (groups : List ℕ) (floor : ℕ) → (not (has h.collected group) && is_at_rest h floor group) ≡ false →
    resting_groups h (group ∷ groups) floor ≡ resting_groups h groups floor
resting_without h group groups floor moves =
    ap (λ b. cond b (group ∷ resting_groups h groups floor) (resting_groups h groups floor)) moves

-- where none rests up to a revision, nothing is collected
pub nothing_collected : (h : History) (retired : List ℕ) (most : ℕ) → ((floor : ℕ) → floor ≤ most → resting_groups h retired floor ≡ []) →
    None ≡ collection_at (clean_floor h.revisions most) (resting_groups h retired (clean_floor h.revisions most))
nothing_collected h retired most none =
    sym (ap (collection_at (clean_floor h.revisions most)) (none (clean_floor h.revisions most) ((greatest_clean_floor h.revisions most).is_within)))
