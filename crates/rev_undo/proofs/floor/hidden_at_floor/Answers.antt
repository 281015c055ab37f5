use Rattle.std.proofs.Common.{◌≡◌, length, ap, ◌∙◌}
use Rattle.rev_undo.proofs.FloorLemmas.{length-loaded_in}
use Rattle.rev_undo.proofs.floor.hidden_at_floor.Goals as goal

pub hidden_by-requires : goal.hidden_by-requires
hidden_by-requires c =
    let groups = c.settled_groups-groups.result.now in
    let lengths = rw (← c.floor_len-len.ensures) at c.settled_groups-groups.ensures.lengths in
    let long : length c.in_ok-loaded.loaded ≡ c.floor_len-len.result = ap length c.in_ok-loaded.ensures ∙ length-loaded_in c.is_in.result c.floor_len-len.result groups lengths in
    rw long lengths
