-- The columns of a line, from one gap to another. Here a line and its clusters are their characters.
use Rattle.std.specs.Prelude.{ℕ, ◌+◌, ◌-◌, ◌*◌, ◌/◌, ◌==◌, if◌then◌else◌, false, List, [], ◌∷◌, length, slice_range}
use Rattle.std.specs.List.{fold}
use Rattle.std.specs.Char.{is_control}
use Rattle.unicode_width.specs.Width.{str_width}
use Rattle.cluster_core.specs.Boundaries.{clusters_in}

-- the next multiple of the tab width above a column; a tab width of 0 has none
abbrev pub tab_stop : ℕ → ℕ → ℕ
tab_stop tab column = if tab == 0 then column else (column / tab + 1) * tab

-- the column after characters of this width that begin at `column`: by the first of them, and none where there are none
abbrev pub column_past : ℕ → ℕ → List ℕ → ℕ → ℕ
column_past tab column [] width = column
column_past tab column (c ∷ characters) width =
    if c == 9 then tab_stop tab column else if is_control c then column + 1 else column + width

-- the column after a cluster, or after what is left of one
abbrev pub column_after : ℕ → ℕ → List ℕ → ℕ
column_after tab column cluster = column_past tab column cluster (str_width false cluster)

-- of each cluster what stands between two gaps, where the first cluster begins at gap `at`
abbrev pub clipped : ℕ → ℕ → ℕ → List (List ℕ) → List (List ℕ)
clipped from to at [] = []
clipped from to at (cluster ∷ clusters) =
    slice_range cluster (from - at) (to - at) ∷ clipped from to (at + length cluster) clusters

-- THE COLUMNS BETWEEN TWO GAPS of a logical line: those of its clusters as far as they stand between them, counted from 0 at the first gap
abbrev pub columns_between : ℕ → List ℕ → ℕ → ℕ → ℕ
columns_between tab line from to = fold (column_after tab) 0 (clipped from to 0 (clusters_in line))
