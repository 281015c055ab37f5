-- Edits that do nothing.
use Rattle.std.specs.Prelude.{ℕ, ◌+◌, Bool, ◌&&◌, ◌==◌, List, length}
use Rattle.std.specs.List.{list_all, range_with_len}
use Rattle.edit_ops.specs.declared.replacement.Replacement.{Replacement}
use Rattle.edit_ops.specs.Replacements.{added_by, kept_by}

-- WHETHER REPLACEMENTS DO NOTHING to a text of this length: each character is kept, and no gap gets a text
abbrev pub do_nothing : ℕ → List Replacement → Bool
do_nothing len replacements =
    list_all (kept_by replacements) (range_with_len 0 len) &&
    list_all (λ gap. length (added_by replacements gap) == 0) (range_with_len 0 (len + 1))
