use Rattle.std.proofs.Common.{arith, ◌≡◌, ◌≤◌, map, sym, subst, false}
use Rattle.std.specs.Prelude.{IfOk}
use Rattle.std.specs.List.{AllByRecursion}
use Rattle.selection_core.specs.Mapped.{AreWithin}
use Rattle.movement_core.specs.Motions.{target}
use Rattle.movement_core.proofs.ForCallers.{target-inside}
use Rattle.edit_ops.specs.Replacements.{IsEditOf, carets_with, deletion_of, gap_with}
use Rattle.edit_ops.proofs.MotionLemmas.{deleted_ranges-inside}
use Rattle.edit_ops.proofs.deletions.delete_to.Goals as goal

pub ranges_to-requires-clause-inside : goal.ranges_to-requires-clause-inside
ranges_to-requires-clause-inside g c = rw (sym c.requires.whole) c.requires.inside

pub delete-requires : goal.delete-requires
delete-requires g c = record {
  inside =
      subst (λ ranges. AllByRecursion (λ range. (range.start ≤ range.end) × (range.end ≤ c.args.base)) ranges) (sym c.in_ok-ranges.ensures)
      (deleted_ranges-inside c.args.base
      (λ region. target c.args.tab (g.T.TextView.text_of c.args.view.now) (g.T.TextView.pieces_of c.args.view.now) c.args.motion false region)
      c.args.sel.now.regions
      (λ region le.
      let inside =
      target-inside c.args.tab (g.T.TextView.text_of c.args.view.now) (g.T.TextView.pieces_of c.args.view.now) c.requires.characters c.args.motion false region
      (omega (arith, c.requires.whole, le)) in
      omega (arith, c.requires.whole, inside))
      c.requires.inside);
}

pub returns-clause-edit : goal.returns-clause-edit
returns-clause-edit g c =
    subst (λ ranges. IfOk c.delete.result (λ made. IsEditOf c.args.base (map deletion_of ranges) made.0)) c.in_ok-ranges.ensures c.delete.ensures.edit

pub returns-clause-regions : goal.returns-clause-regions
returns-clause-regions g c =
    subst (λ ranges. IfOk c.delete.result (λ made. made.1.regions ≡ carets_with (map deletion_of ranges))) c.in_ok-ranges.ensures c.delete.ensures.regions

pub returns-clause-inside : goal.returns-clause-inside
returns-clause-inside g c =
    subst (λ ranges. IfOk c.delete.result (λ made. AreWithin (gap_with (map deletion_of ranges) c.args.base) made.1.regions)) c.in_ok-ranges.ensures c.delete.ensures.inside
