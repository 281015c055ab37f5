-- The update of a plan by steps is the one of the layout.
use Rattle.std.proofs.Common.{◌≡◌, ℕ, Bool, List, length, Option, ap, sym, ◌∙◌}
use Rattle.std.specs.List.{zip}
use Rattle.std.proofs.lemmas.List.{length-map}
use Rattle.std.proofs.lemmas.List.FromFn.{length-map-range_with_len}
use Rattle.plain_screen.specs.declared.screen.Line.{Line}
use Rattle.plain_screen.specs.declared.screen.Op.{Op}
use Rattle.plain_screen.specs.Plan.{joined_ops, ops_for}
use Rattle.line_cache.specs.Standings.{standings}
use Rattle.line_cache.specs.Stays.{if_true, partner_by, partners_by, valid_by}
use Rattle.line_cache.specs.Steps.{shown_by, standings_of}
use Rattle.line_cache.specs.declared.stay.Stay.{Stay}
use Rattle.line_cache.specs.declared.step.Step.{Step}
use Rattle.line_cache.proofs.ForCallers.{update_plan-apart, valid-plan}
use Rattle.doc_layout.specs.declared.asked.Asked.{Asked}
use Rattle.line_updates.specs.Told.{had_after, planned}

-- as many partners as lines
length-partners : (had : List Bool) (stays : List Stay) (total : ℕ) → length (valid_by had (partners_by stays total)) ≡ total
length-partners had stays total =
    length-map (partners_by stays total) (if_true had) ∙ length-map-range_with_len (partner_by stays) 0 total

module _ (asked : Asked) (had : List Bool) (stays : List Stay) (lines : List Line) (total : ℕ) (plan : List Step) (long : length lines ≡ total)
    (are : standings_of plan ≡ standings asked.window asked.request 0 (valid_by had (partners_by stays total))) where
  abbrev partners : List (Option (ℕ × Bool))
  partners = valid_by had (partners_by stays total)

  as-many : length partners ≡ length lines
  as-many = length-partners had stays total ∙ sym long

  pub update-told : (ops : List Op) (pristine : Bool) → ops ≡ joined_ops (ops_for 0 (zip (standings_of plan) lines)) →
      record { ops = ops; pristine = pristine } ≡ planned asked lines partners pristine
  update-told ops pristine is =
      ap (λ (made : List Op). record { ops = made; pristine = pristine })
      (is ∙ ap (λ hows. joined_ops (ops_for 0 (zip hows lines))) are ∙ sym (update_plan-apart asked.window asked.request partners lines as-many))

  pub had-told : shown_by plan ≡ had_after asked lines partners
  had-told = sym (valid-plan asked.window asked.request partners lines plan as-many are)
