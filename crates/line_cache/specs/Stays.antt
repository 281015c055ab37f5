-- Lines that stay, as runs: which old line is the partner of which new one.
use Rattle.std.specs.Prelude.{ℕ, ◌+◌, ◌-◌, ◌≤◌, Bool, ◌&&◌, nat_le, nat_lt, if◌then◌else◌, List, [], ◌∷◌, map, Option, None, Some}
use Rattle.std.specs.List.{range_with_len}
use Rattle.subset_runs.specs.Subset.{contains}
use Rattle.line_cache.specs.declared.stay.Stay.{Stay}

-- the partner of the new line with this index, if any, and whether its logical line is not touched
abbrev pub partner_by : List Stay → ℕ → Option (ℕ × Bool)
partner_by [] index = None
partner_by (stay ∷ stays) index =
    if nat_le stay.new index && nat_lt index (stay.new + stay.n) then Some (stay.old + (index - stay.new), stay.same) else partner_by stays index

-- THE PARTNERS of so many lines
abbrev pub partners_by : List Stay → ℕ → List (Option (ℕ × Bool))
partners_by stays total = map (partner_by stays) (range_with_len 0 total)

-- the partner, where it is valid by this list of truths
abbrev pub if_true : List Bool → Option (ℕ × Bool) → Option (ℕ × Bool)
if_true truths None = None
if_true truths (Some (old, same)) = if contains truths old then Some (old, same) else None

-- of partners those that are valid
abbrev pub valid_by : List Bool → List (Option (ℕ × Bool)) → List (Option (ℕ × Bool))
valid_by truths partners = map (if_true truths) partners

-- they rise and are disjoint, among the old lines from `old` up to `count` and among the new ones from `new` up to `total`
abbrev pub AreStaysFrom : ℕ → ℕ → ℕ → ℕ → List Stay → Type 0
AreStaysFrom old new count total [] = (old ≤ count) × (new ≤ total)
AreStaysFrom old new count total (stay ∷ stays) =
    (old ≤ stay.old) × (new ≤ stay.new) × AreStaysFrom (stay.old + stay.n) (stay.new + stay.n) count total stays

-- THE CONDITION of partners: they rise and are disjoint, among `count` old lines and `total` new ones
abbrev pub AreStays : ℕ → ℕ → List Stay → Type 0
AreStays count total stays = AreStaysFrom 0 0 count total stays
