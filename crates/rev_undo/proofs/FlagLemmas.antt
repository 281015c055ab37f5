-- Sets of positions over one revision, flag by flag.
use Rattle.std.proofs.Common.{◌≡◌, ℕ, ◌+◌, Bool, true, false, not, ◌&&◌, ◌||◌, if◌then◌else◌, List, [], ◌∷◌, length, refl, ap, ap₂, sym, ◌∙◌, arith}
use Rattle.subset_runs.specs.Subset.{count, union, expand, expand_as, expand_in}
use Rattle.subset_runs.proofs.ForCallers.{length-at_each, length-expand_as}
use Rattle.plain_text.specs.Numbers.{has, flipped, IsRising}
use Rattle.plain_text.proofs.callers.NumberLemmas.{has-flipped}
use Rattle.rev_list.specs.declared.edit.RevEdit.{RevEdit}
use Rattle.rev_list.specs.declared.step.RevStep.{RevStep}
use Rattle.rev_list.specs.declared.step.RevStep.TheVariants.{Edit, Undo}
use Rattle.rev_list.specs.Kept.{dead_after}
use Rattle.rev_undo.specs.Under.{hidden_after, SpeakFrom}

-- what is dead after insertions and deletions, by whether their group is in the set
abbrev pub dead_over : Bool → List Bool → List Bool → List Bool → List Bool
dead_over true dead inserted deleted = expand_in dead inserted
dead_over false dead inserted deleted = union (expand dead inserted) deleted

pub dead_over-edit : (in_set : Bool) (dead : List Bool) (e : RevEdit) → dead_after in_set dead e ≡ dead_over in_set dead e.inserted e.deleted
dead_over-edit true dead e = refl
dead_over-edit false dead e = refl

pub dead_over-nothing : (in_set : Bool) → [] ≡ dead_over in_set [] [] []
dead_over-nothing true = refl
dead_over-nothing false = refl

-- at a new position
pub dead_over-new : (in_set : Bool) (now new deleted : Bool) (after dead inserted deletions : List Bool) → new ≡ true → now ≡ (in_set || deleted) →
    after ≡ dead_over in_set dead inserted deletions → (now ∷ after) ≡ dead_over in_set dead (new ∷ inserted) (deleted ∷ deletions)
dead_over-new in_set now false deleted after dead inserted deletions is here rest = absurd cc
dead_over-new true now true deleted after dead inserted deletions is here rest = ap₂ (λ b flags. b ∷ flags) here rest
dead_over-new false now true deleted after dead inserted deletions is here rest = ap₂ (λ b flags. b ∷ flags) here rest

or_and_false : (before deleted : Bool) → (before || deleted && false) ≡ before
or_and_false true deleted = refl
or_and_false false true = refl
or_and_false false false = refl

or_and_true : (before deleted : Bool) → (before || deleted && true) ≡ (before || deleted)
or_and_true true deleted = refl
or_and_true false true = refl
or_and_true false false = refl

-- at a position that was there
pub dead_over-old : (in_set : Bool) (now before new deleted : Bool) (after dead inserted deletions : List Bool) → new ≡ false →
    now ≡ (before || deleted && not in_set) → after ≡ dead_over in_set dead inserted deletions →
    (now ∷ after) ≡ dead_over in_set (before ∷ dead) (new ∷ inserted) (deleted ∷ deletions)
dead_over-old in_set now before true deleted after dead inserted deletions is here rest = absurd cc
dead_over-old true now before false deleted after dead inserted deletions is here rest =
    ap₂ (λ b flags. b ∷ flags) (here ∙ or_and_false before deleted) rest
dead_over-old false now before false deleted after dead inserted deletions is here rest =
    ap₂ (λ b flags. b ∷ flags) (here ∙ or_and_true before deleted) rest

-- nothing inserted and nothing deleted
expand_as-none : (inside : Bool) (flags by : List Bool) → length flags ≡ length by → count by ≡ 0 → expand_as inside flags by ≡ flags
expand_as-none inside [] [] same none = refl
expand_as-none inside [] (b ∷ by) same none = absurd (omega arith)
expand_as-none inside (flag ∷ flags) [] same none = absurd (omega arith)
expand_as-none inside (flag ∷ flags) (true ∷ by) same none = absurd (omega arith)
expand_as-none inside (flag ∷ flags) (false ∷ by) same none =
    ap (λ rest. flag ∷ rest) (expand_as-none inside flags by (omega arith) (omega (arith, none)))

or_false : (b : Bool) → (b || false) ≡ b
or_false true = refl
or_false false = refl

union-none : (flags by : List Bool) → length flags ≡ length by → count by ≡ 0 → union flags by ≡ flags
union-none [] [] same none = refl
union-none [] (b ∷ by) same none = refl
union-none (flag ∷ flags) [] same none = absurd (omega arith)
union-none (flag ∷ flags) (true ∷ by) same none = absurd (omega arith)
union-none (flag ∷ flags) (false ∷ by) same none =
    ap₂ (λ b rest. b ∷ rest) (or_false flag) (union-none flags by (omega arith) (omega (arith, none)))

pub dead_over-none : (in_set : Bool) (dead inserted deleted : List Bool) → length dead ≡ length inserted → length deleted ≡ length inserted →
    count inserted ≡ 0 → count deleted ≡ 0 → dead_over in_set dead inserted deleted ≡ dead
dead_over-none true dead inserted deleted same alike none_new none = expand_as-none true dead inserted same none_new
dead_over-none false dead inserted deleted same alike none_new none =
    ap (λ flags. union flags deleted) (expand_as-none false dead inserted same none_new) ∙ union-none dead deleted (omega (arith, same, alike)) none

-- ---- lengths

length-dead_after : (in_set : Bool) (dead : List Bool) (e : RevEdit) → length e.inserted ≡ length dead + count e.inserted →
    length e.deleted ≡ length e.inserted → length (dead_after in_set dead e) ≡ length e.inserted
length-dead_after true dead e grown same = length-expand_as true dead e.inserted
length-dead_after false dead e grown same =
    let longer = length-expand_as false dead e.inserted in
    omega (arith, length-at_each (λ x y. x || y) (expand dead e.inserted) e.deleted (omega (arith, longer, same)), longer)

-- what is left to carry over after one revision
pub speak_next : (groups : List ℕ) (dead : List Bool) (r : RevStep) (revisions : List RevStep) → SpeakFrom (length dead) (r ∷ revisions) →
    SpeakFrom (length (hidden_after groups dead r)) revisions
speak_next groups dead (Edit e) revisions speak = rw (length-dead_after (has groups e.group) dead e speak.0 speak.1) speak.2
speak_next groups dead (Undo differ) revisions speak = speak

-- ---- whether a group is in a set, of which the groups are known in which it differs from another one

pub turned_in : (undone differ : List ℕ) (group : ℕ) → IsRising undone → IsRising differ → has differ group ≡ true →
    not (has undone group) ≡ has (flipped undone differ) group
turned_in undone differ group up others in_it =
    sym (has-flipped undone differ group up others ∙ ap (λ b. if b then not (has undone group) else has undone group) in_it)

pub same_in : (undone differ : List ℕ) (group : ℕ) → IsRising undone → IsRising differ → has differ group ≡ false →
    has undone group ≡ has (flipped undone differ) group
same_in undone differ group up others away =
    sym (has-flipped undone differ group up others ∙ ap (λ b. if b then not (has undone group) else has undone group) away)
