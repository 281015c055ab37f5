-- Where an edit goes: the lengths of what it puts in, and that its revision may come next.
use Rattle.std.proofs.Common.{◌≡◌, ℕ, ◌+◌, Bool, List, length, flat_map, ap, sym, ◌∙◌, arith}
use Rattle.subset_runs.specs.Subset.{count}
use Rattle.plain_edits.specs.UnitDelta.{unit_adds}
use Rattle.plain_edits.specs.History.{History}
use Rattle.std.specs.List.{range_with_len}
use Rattle.rev_list.specs.Edit.{MayPush}
use Rattle.rev_list.specs.WithoutText.{insertion_flags, deletion_flags, in_positions}
use Rattle.rev_list.proofs.ForCallers.{grown_flags, same_flags}
use Rattle.rev_rebase.specs.Rebase.{added_text}
use Rattle.rev_rebase.proofs.ForCallers.{count-insertion_flags}
use Rattle.rev_engine.specs.declared.edit.UnitEdit.{UnitEdit}
use Rattle.rev_engine.specs.Given.{MayAsk}
use Rattle.rev_engine.specs.Engine.{in_characters}
use Rattle.rev_engine.specs.Inner.{IsBasedOn}

module _ (union : List ℕ) (revisions : History) (rev : ℕ) (edit : UnitEdit) (based : IsBasedOn union revisions rev edit.units) where
  abbrev flags : List Bool
  flags = insertion_flags revisions (in_characters rev edit)

  pub grown-flags : length flags ≡ length revisions.characters + count flags
  grown-flags = grown_flags revisions (in_characters rev edit)

  pub longer-flags : length flags ≡ length union + count flags
  longer-flags = omega (arith, grown-flags, based.positions)

  pub members-flags : count flags ≡ length (added_text edit.units)
  members-flags =
      count-insertion_flags revisions (in_characters rev edit) ∙
      ap (λ n. length (flat_map (unit_adds edit.units) (range_with_len 0 (n + 1)))) (sym based.alive)

  pub longer-placed : (inserted : List Bool) → inserted ≡ flags → length inserted ≡ length union + count inserted
  longer-placed inserted inserted_is = rw inserted_is longer-flags

  pub members-placed : (inserted : List Bool) (text : List ℕ) → inserted ≡ flags → text ≡ added_text edit.units → count inserted ≡ length text
  members-placed inserted text inserted_is text_is = ap count inserted_is ∙ (members-flags ∙ ap length (sym text_is))

  -- the edit in positions
  pub placed_is : (inserted deleted : List Bool) → inserted ≡ flags → deleted ≡ deletion_flags revisions (in_characters rev edit) →
      record { base = rev; priority = edit.priority; group = edit.group; author = edit.author; inserted = inserted; deleted = deleted } ≡
      in_positions revisions (in_characters rev edit)
  placed_is inserted deleted inserted_is deleted_is =
      ap (λ (at : List Bool). record { base = rev; priority = edit.priority; group = edit.group; author = edit.author; inserted = at; deleted = deleted }) inserted_is ∙
      ap (λ (at : List Bool). record { base = rev; priority = edit.priority; group = edit.group; author = edit.author; inserted = flags; deleted = at }) deleted_is

  pub MayPush-placed : MayAsk revisions edit.group → (inserted deleted : List Bool) → inserted ≡ flags →
      deleted ≡ deletion_flags revisions (in_characters rev edit) →
      MayPush revisions (record { base = rev; priority = edit.priority; group = edit.group; author = edit.author; inserted = inserted; deleted = deleted })
  MayPush-placed may inserted deleted inserted_is deleted_is = record {
    grown = rw inserted_is grown-flags;
    same_length = ap length deleted_is ∙ (same_flags revisions (in_characters rev edit) ∙ ap length (sym inserted_is));
    base_kept = based.base_kept;
    base_known = based.base_known;
    group_counts = may.group_counts;
    group_kept = may.group_kept;
    has_number = may.has_number;
  }
