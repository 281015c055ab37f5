-- Lemmas on the names of files, and on the callers of a journal, entry by entry.
use Rattle.std.proofs.Common.{◌≡◌, ℕ, ◌+◌, ◌<◌, List, length, drop, get_or, refl, ap, sym, ◌∙◌}
use Rattle.std.proofs.lemmas.List.{drop_more}
use Rattle.xi_plain.specs.declared.entry.Entry.{Entry}
use Rattle.std.specs.Str.{chars}
use Rattle.run_folder.specs.declared.part.Part.{Part}
use Rattle.run_folder.specs.declared.part.Part.TheVariants.{Tape, Journal}
use Rattle.run_folder.specs.Folder.{count_from, part_name, with_caller}

chars-part_name : (part : Part) → chars (part_name part) ≡ part_name part
unfolding chars
chars-part_name Tape = refl
chars-part_name Journal = refl

pub named : (part : Part) (name : List ℕ) → name ≡ part_name part → chars name ≡ part_name part
named part name is = ap chars is ∙ chars-part_name part

pub count_step : (entries : List Entry) (at count : ℕ) (entry : Entry) → at < length entries → entry ≡ get_or entries at entry →
    count_from (with_caller count entry.caller) (drop (at + 1) entries) ≡ count_from count (drop at entries)
count_step entries at count entry inside is =
    ap (λ e. count_from (with_caller count e.caller) (drop (at + 1) entries)) is ∙ ap (count_from count) (sym (drop_more entries at entry inside))
