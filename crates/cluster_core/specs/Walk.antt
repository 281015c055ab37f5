-- A walk along a logical line, cluster by cluster.
use Rattle.std.specs.Prelude.{◌≡◌, ℕ, ◌+◌, true, List, [], ◌∷◌, length, Option}
use Rattle.std.specs.Iterator.{YieldsFirstBy}
use Rattle.std.specs.Str.{chars}
use Rattle.cluster_core.specs.Boundaries.{clusters_in}
use Rattle.cluster_core.specs.Columns.{column_after}
use Rattle.cluster_core.specs.Plain.{is_printable_character, BeginsAlone}
use Rattle.cluster_core.specs.declared.walk.Placed.{Placed}
use Rattle.cluster_core.specs.declared.walk.Walk.{Walk}

-- a cluster with the gap where it ends and the column after it
pub record ClusterAt : Type 0 where
  pub cluster : List ℕ
  pub end : ℕ
  pub column : ℕ

-- the clusters from a gap on, where columns are counted on from `column`
abbrev pub placed : ℕ → ℕ → ℕ → List (List ℕ) → List ClusterAt
placed tab gap column [] = []
placed tab gap column (cluster ∷ clusters) =
    record { cluster = cluster; end = gap + length cluster; column = column_after tab column cluster } ∷
    placed tab (gap + length cluster) (column_after tab column cluster) clusters

-- the same clusters, where columns are counted anew from `column`
abbrev pub counted_anew : ℕ → ℕ → List ClusterAt → List ClusterAt
counted_anew tab column [] = []
counted_anew tab column (item ∷ items) =
    record { cluster = item.cluster; end = item.end; column = column_after tab column item.cluster } ∷
    counted_anew tab (column_after tab column item.cluster) items

-- the first of these clusters are these printable characters, each for itself
abbrev pub AreFirst : List ℕ → List ClusterAt → Type 0
AreFirst [] items = Unit {0}
AreFirst (c ∷ run) [] = ⊥
AreFirst (c ∷ run) (item ∷ items) = (item.cluster ≡ c ∷ []) × (is_printable_character c ≡ true) × AreFirst run items

-- what a walk gives, what it has yet to give, and its tab width
abbrev pub placed_view : Placed → ClusterAt
placed_view item = record { cluster = chars item.cluster.now; end = item.end; column = item.column }

unfoldable pub walk_left : Walk → List ClusterAt
walk_left walk = placed walk.tab walk.gap walk.column (clusters_in (chars walk.rest.now))

unfoldable pub walk_tab : Walk → ℕ
walk_tab walk = walk.tab

-- a call gave the first of what was left, or `None` where nothing was left, and the tab width stayed
abbrev pub Walks : Walk → Option Placed → Walk → Type 0
Walks walk item rest = YieldsFirstBy placed_view walk_left walk item rest × (walk_tab rest ≡ walk_tab walk)

-- these printable characters come next, each a cluster
unfoldable pub WalkBegins : Walk → List ℕ → Type 0
WalkBegins walk run = BeginsAlone walk.rest.now run
