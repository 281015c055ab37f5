use Rattle.std.proofs.Common.{refl}
use Rattle.rev_list.proofs.undo_rows.what_each_set_hides.Goals as goal

pub returns : goal.returns
returns c = record { none = refl; first = refl; second = refl; both = refl; earlier = refl; undone = refl }
