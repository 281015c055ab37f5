-- The order of insertions at one gap.
use Rattle.std.specs.Prelude.{Bool, ◌&&◌, ◌||◌, nat_lt, ◌==◌}
use Rattle.plain_edits.specs.declared.rank.Rank.{Rank}

-- whether a rank is lower than another: by priority, and of equal priorities by the author's number
abbrev pub is_lower : Rank → Rank → Bool
is_lower rank other =
    nat_lt rank.priority other.priority || rank.priority == other.priority && nat_lt rank.author other.author
