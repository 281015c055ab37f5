-- The places of a unit delta, from its base to the last revision.
use Rattle.std.proofs.Common.{◌≡◌, ℕ, suc, ◌+◌, ◌^◌, ◌<◌, ◌≤◌, Bool, true, not, List, length, replicate, flat_map, add-one, ap, ap₂, sym, ◌∙◌, arith}
use Rattle.std.specs.List.{fold, range_with_len}
use Rattle.std.proofs.lemmas.List.{length-map}
use Rattle.std.proofs.lemmas.List.FromFn.{length-range_with_len}
use Rattle.subset_runs.specs.Subset.{count, expand}
use Rattle.plain_edits.specs.declared.rank.Rank.{Rank}
use Rattle.plain_edits.specs.declared.delta.UnitDelta.{UnitDelta}
use Rattle.plain_edits.specs.UnitDelta.{unit_keeps, unit_adds}
use Rattle.plain_edits.specs.History.{History, head, visible_at, IsSound}
use Rattle.plain_edits.specs.Edits.{PlainEdit, edited, insertion_rank}
use Rattle.plain_edits.specs.Blocks.{block_at}
use Rattle.subset_runs.proofs.ForCallers.{count-replicate_true}
use Rattle.delta_core.proofs.ForCallers.{IsCarried-carried}
use Rattle.delta_core.specs.Carry.{carried}
use Rattle.delta_core.specs.Factor.{dropped_flags, inserted_flags}
use Rattle.rev_list.specs.declared.step.RevStep.{RevStep}
use Rattle.rev_list.specs.Hidden.{is_hidden, union_at, hidden_then, AreRevisionsAfter}
use Rattle.rev_list.specs.WithoutText.{insertion_flags, deletion_flags, without_text}
use Rattle.rev_list.proofs.ForCallers.{grown_flags}
use Rattle.rev_rebase.specs.Until.{until}
use Rattle.rev_rebase.specs.Rebase.{unit_edit, added_text, text_of_edit, characters_of, put_in}
use Rattle.rev_rebase.specs.Inner.{insertions_after, deletions_after, GoTogether, insertions_over_all, deletions_over_all}
use Rattle.rev_rebase.proofs.BlockLemmas.{count-blocks, count-put_between, length-weave}
use Rattle.rev_rebase.proofs.FlagLemmas.{left_part, right_part, put_in_block, insertion_flags-blocks, insertion_flags-base, insertion_flags-textless, visible_at-textless, dropped_then, dropped_then-base, deletion_flags-until, length-dropped_then}
use Rattle.rev_rebase.proofs.UntilLemmas.{alive_then, length-union_at, until-head}
use Rattle.rev_rebase.proofs.TextLemmas.{edited-put_in}
use Rattle.rev_rebase.proofs.LaterLemmas.{insertions_fold, deletions_fold, count-others, Grow-revisions}

-- an edit inserts at its places as many characters as its text has
pub count-insertion_flags : (h : History) (e : PlainEdit) → count (insertion_flags h e) ≡ length (text_of_edit h e)
count-insertion_flags h e =
    ap count (insertion_flags-blocks h e) ∙
    count-blocks (λ g. put_in_block h.revisions e.base (insertion_rank e) (length (e.added g)) (block_at h e.base g)) e.added
    (λ g. count-put_between (length (e.added g)) (left_part h.revisions e.base (insertion_rank e) (block_at h e.base g)) (right_part h.revisions e.base (insertion_rank e) (block_at h e.base g)))
    0 (visible_at h e.base) ∙
    ap (λ n. length (flat_map e.added (range_with_len 0 n))) (sym (add-one (length (visible_at h e.base))))

count-inserted_flags : (units : UnitDelta) → count (inserted_flags units) ≡ length (added_text units)
count-inserted_flags units =
    count-blocks (λ g. replicate (length (unit_adds units g)) true) (unit_adds units) (λ g. count-replicate_true (length (unit_adds units g))) 0 (range_with_len 0 units.base) ∙
    ap (λ n. length (flat_map (unit_adds units) (range_with_len 0 n))) (ap suc (length-range_with_len 0 units.base) ∙ sym (add-one units.base))

length-inserted_flags : (units : UnitDelta) → length (inserted_flags units) ≡ units.base + count (inserted_flags units)
length-inserted_flags units =
    length-weave (λ g. length (unit_adds units g)) 0 (range_with_len 0 units.base) ∙ ap (λ n. n + count (inserted_flags units)) (length-range_with_len 0 units.base)

-- how many characters a revision shows
pub length-visible_at : (h : History) (base : ℕ) → length (visible_at h base) + count (hidden_then h base) ≡ length (hidden_then h base)
length-visible_at h base =
    ap (λ xs. length xs + count (hidden_then h base)) (sym (alive_then h base)) ∙
    (count-others (is_hidden h base) (union_at h base) ∙ sym (length-map (union_at h base) (is_hidden h base)))

-- the sets of a unit delta
pub inserted_flags-bound : (h : History) (base : ℕ) (units : UnitDelta) → units.base ≡ length (visible_at h base) →
    length h.characters + length (added_text units) < 2 ^ 64 → length (inserted_flags units) < 2 ^ 64
inserted_flags-bound h base units alive bound =
    omega (
      arith,
      count-inserted_flags units,
      length-inserted_flags units,
      length-visible_at h base,
      length-map (union_at h base) (is_hidden h base),
      length-union_at h base,
      alive,
      bound,
    )

-- carried over the edits after its base they come to its places
pub record ArePlacesOver (h : History) (base : ℕ) (units : UnitDelta) (rank : Rank) (edits : List RevStep) : Type 0 where
  pub together : GoTogether (inserted_flags units) (dropped_flags units) (hidden_then h base) edits rank
  pub insertions : insertions_over_all (inserted_flags units) (hidden_then h base) edits rank ≡ insertion_flags h (unit_edit base units rank.priority rank.author)
  pub deletions : expand (deletions_over_all (dropped_flags units) (hidden_then h base) edits)
      (insertions_over_all (inserted_flags units) (hidden_then h base) edits rank) ≡ deletion_flags h (unit_edit base units rank.priority rank.author)

pub places_over : (h : History) (base : ℕ) (units : UnitDelta) (rank : Rank) (edits : List RevStep) → base ≤ head h → IsSound h →
    units.base ≡ length (visible_at h base) → length h.characters + length (added_text units) < 2 ^ 64 → AreRevisionsAfter h base edits →
    ArePlacesOver h base units rank edits
places_over h base units rank edits known sound alive bound after = record {
  together = record {
    beside = beside;
    beside_bound = omega (arith, own, all, dead, within, alive, bound);
    dropped_beside =
        omega (arith, length-map (range_with_len 0 units.base) (λ i. not (unit_keeps units i)), length-range_with_len 0 units.base, dead, alive);
    insertions_grow =
        Grow-revisions h (count first) base (length first) edits after
        (omega (arith, own, (IsCarried-carried true (inserted_flags units) (hidden_then h base) beside).members, bound))
        (ap length first_is ∙ grown_flags (until h base) e ∙ ap (λ flags. length (union_at h base) + count flags) (sym first_is));
    deletions_grow =
        Grow-revisions h 0 base (length (expand (dropped_flags units) (hidden_then h base))) edits after (omega (arith, bound))
        (ap length (dropped_then-base h base units alive) ∙ length-dropped_then h base (unit_keeps units) base (omega arith) ∙ omega arith);
    same_length =
        omega (
          arith,
          ap length deletions_is,
          length-dropped_then h base (unit_keeps units) (head h) known,
          ap length insertions_is,
          ap count insertions_is,
          grown_flags (until h (head h)) e,
        );
  };
  insertions = insertions_is ∙ ap (λ g. insertion_flags g e) whole;
  deletions = ap₂ expand deletions_is insertions_is ∙ sym (deletion_flags-until h e (head h) known) ∙ ap (λ g. deletion_flags g e) whole;
}
  where
    e : PlainEdit
    e = unit_edit base units rank.priority rank.author

    own : count (inserted_flags units) ≡ length (added_text units)
    own = count-inserted_flags units

    all : length (inserted_flags units) ≡ units.base + count (inserted_flags units)
    all = length-inserted_flags units

    dead : length (visible_at h base) + count (hidden_then h base) ≡ length (hidden_then h base)
    dead = length-visible_at h base

    within : length (hidden_then h base) ≤ length h.characters
    within = omega (arith, length-map (union_at h base) (is_hidden h base), length-union_at h base)

    beside : length (inserted_flags units) + count (hidden_then h base) ≡ length (hidden_then h base) + count (inserted_flags units)
    beside = omega (arith, all, dead, alive)

    first : List Bool
    first = carried true (inserted_flags units) (hidden_then h base)

    first_is : carried true (inserted_flags units) (hidden_then h base) ≡ insertion_flags (until h base) e
    first_is = insertion_flags-base h e (range_with_len 0 units.base) (length-range_with_len 0 units.base ∙ alive)

    insertions_is : insertions_over_all (inserted_flags units) (hidden_then h base) edits rank ≡ insertion_flags (until h (head h)) e
    insertions_is = ap (λ ins. fold (insertions_after rank) ins edits) first_is ∙ insertions_fold h e base edits (omega arith) after

    deletions_is : deletions_over_all (dropped_flags units) (hidden_then h base) edits ≡ dropped_then h base (unit_keeps units) (head h)
    deletions_is =
        ap (λ del. fold deletions_after del edits) (dropped_then-base h base units alive) ∙ deletions_fold h base (unit_keeps units) base edits (omega arith) after

    whole : until h (head h) ≡ h
    whole = until-head h sound

pub step-text : (h : History) (base : ℕ) (units : UnitDelta) (priority author : ℕ) (inserted : List Bool) (text : List ℕ) →
    units.base ≡ length (visible_at h base) → inserted ≡ insertion_flags h (unit_edit base units priority author) → text ≡ added_text units →
    (history : History) → without_text history ≡ h →
    characters_of (edited history (unit_edit base units priority author)) ≡ put_in inserted text (characters_of history)
step-text h base units priority author inserted text alive inserted_is text_is history same =
    edited-put_in history (unit_edit base units priority author) ∙
    ap₂ (λ at more. put_in at more (characters_of history)) flags texts
  where
    flags : insertion_flags history (unit_edit base units priority author) ≡ inserted
    flags =
        sym (insertion_flags-textless history (unit_edit base units priority author)) ∙
        (ap (λ g. insertion_flags g (unit_edit base units priority author)) same ∙ sym inserted_is)

    texts : text_of_edit history (unit_edit base units priority author) ≡ text
    texts =
        ap (λ n. flat_map (unit_adds units) (range_with_len 0 (n + 1)))
        (sym (visible_at-textless history base) ∙ (ap (λ g. length (visible_at g base)) same ∙ sym alive)) ∙
        sym text_is
