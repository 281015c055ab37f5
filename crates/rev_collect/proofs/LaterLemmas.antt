-- What is left after a collection below the head, from one revision to the next.
use Rattle.std.proofs.Common.{◌≡◌, ℕ, ◌-◌, ◌<◌, ◌≤◌, not, ◌&&◌, ◌||◌, false, Bool, List, [], ◌∷◌, length, map, ap, sym, ◌∙◌, subst, arith}
use Rattle.std.specs.List.{AllByRecursion}
use Rattle.std.proofs.lemmas.List.{length-map}
use Rattle.subset_runs.proofs.ForCallers.{length-at_each, length-expand_as}
use Rattle.plain_edits.specs.History.{History, head}
use Rattle.plain_edits.specs.Collection.{is_dropped, MayCollect}
use Rattle.plain_edits.specs.HistorySteps.{HasRisingSet, IsByEdits}
use Rattle.collection_laws.specs.Left.{left_of}
use Rattle.collection_laws.proofs.ForCallers.{HasFloor}
use Rattle.rev_list.specs.declared.step.RevStep.{RevStep}
use Rattle.rev_list.specs.declared.step.RevStep.TheVariants.{Edit, Undo}
use Rattle.rev_list.specs.declared.records.RevRecord.{RevRecord}
use Rattle.rev_list.specs.Edit.{after_revision}
use Rattle.rev_list.specs.Kept.{dead_now, grown_by, Follows, GrowFrom, IsOpen}
use Rattle.rev_list.specs.Until.{IsRecordAt, MayFollow}
use Rattle.rev_list.proofs.ForCallers.{lengths_after}
use Rattle.rev_collect.specs.Later.{collected_until, record_without, step_without, HasLengthsOf, IsLeftUntil, IsOfLength}
use Rattle.rev_collect.proofs.StepLemmas.{gone-step, left-step, long_before, may_follow-left}
use Rattle.rev_collect.proofs.UntilLemmas.{allows-now, edits-then, floor-then, may-now, now-is, sound-then}

-- with one more record
pub record IsNextLeft (history : History) (floor : ℕ) (groups : List ℕ) (rev : ℕ) (r : RevRecord) (left : History) (dropped : List Bool) : Type 0 where
  pub grows : GrowFrom (length dropped) (r.step ∷ [])
  pub fits : HasLengthsOf (length (grown_by dropped r.step)) r
  pub may : MayFollow left (record_without (grown_by dropped r.step) r)
  pub next : IsLeftUntil history floor groups rev (after_revision left (step_without (grown_by dropped r.step) r.step)) (grown_by dropped r.step)

module _ (history : History) (floor : ℕ) (groups : List ℕ) (may : MayCollect history floor groups)
    (edits : AllByRecursion (IsByEdits history.revisions) history.characters) (sets : AllByRecursion HasRisingSet history.revisions)
    (free : AllByRecursion (IsOpen history.collected) history.revisions) (rev : ℕ) (low : floor < rev) (high : rev ≤ head history)
    (r : RevRecord) (is : IsRecordAt history rev r) where
  abbrev before : ℕ
  before = rev - 1

  abbrev was : History
  was = collected_until history floor groups before

  low_before : floor ≤ before
  low_before = omega (arith, low)

  high_before : before ≤ head history
  high_before = omega (arith, high)

  past : HasFloor was
  past = floor-then history floor groups may edits sets free before low_before high_before

  now_is : collected_until history floor groups rev ≡ after_revision was r.step
  now_is = now-is history floor groups may edits sets free rev low high r is

  may_follow : MayFollow was r
  may_follow = may-now history floor groups may edits sets free rev low high r is

  abbrev flags : List Bool
  flags = map (is_dropped was) was.characters

  grows_by : (step : RevStep) → Follows was step → GrowFrom (length flags) (step ∷ [])
  grows_by (Edit e) follows = (omega (arith, follows.grown, length-map was.characters (is_dropped was)), tt)
  grows_by (Undo others) follows = tt

  of_length : (step : RevStep) → Follows was step → IsOfLength (length (grown_by flags step)) step
  of_length (Edit e) follows = (sym (length-expand_as false flags e.inserted), follows.same_length ∙ sym (length-expand_as false flags e.inserted))
  of_length (Undo others) follows = tt

  canonical : IsNextLeft history floor groups rev r (left_of was) flags
  canonical =
      let sound = sound-then history floor groups may edits sets free before low_before high_before in
      let edits_before = edits-then history floor groups may edits sets free before low_before high_before in
      let allows = allows-now history floor groups may edits sets free rev low high r is in
      let past_now = rw now_is at (floor-then history floor groups may edits sets free rev (omega (arith, low)) high) in
      let edits_now =
      subst (λ (h : History). AllByRecursion (IsByEdits h.revisions) h.characters) now_is (edits-then history floor groups may edits sets free rev (omega (arith, low)) high) in
      let long = long_before was sound past edits_before r may_follow allows past_now edits_now in
      record {
        grows = grows_by r.step may_follow.follows;
        fits = record {
          turned =
              ap length may_follow.turned ∙
              length-at_each (λ x y. x && not y || y && not x) (grown_by (dead_now was) r.step) (dead_now (after_revision was r.step))
              (lengths_after was r.step may_follow.follows) ∙ long;
          step = of_length r.step may_follow.follows;
        };
        may = may_follow-left was sound past edits_before r may_follow allows past_now edits_now;
        next = record {
          left_is = sym (left-step was past.floor sound r.step may_follow.follows allows) ∙ ap left_of (sym now_is);
          dropped_is = sym (gone-step was past.floor sound r.step may_follow.follows allows) ∙ ap (λ (h : History). map (is_dropped h) h.characters) (sym now_is);
        };
      }

  pub next_left : (left : History) (dropped : List Bool) → IsLeftUntil history floor groups before left dropped → IsNextLeft history floor groups rev r left dropped
  next_left left dropped is_left = rw (is_left.left_is, is_left.dropped_is) canonical
