-- Lemmas on a walk along a line.
use Rattle.std.proofs.Common.{◌≡◌, ℕ, ◌+◌, List, [], ◌∷◌, ◌++◌, length, map, take, drop, refl, ap, ap₂, sym, ◌∙◌, arith}
use Rattle.std.specs.Str.{chars}
use Rattle.cluster_core.specs.Boundaries.{clusters_in}
use Rattle.cluster_core.specs.Columns.{column_after}
use Rattle.cluster_core.specs.Plain.{BeginsAlone, IsFirstCluster}
use Rattle.cluster_core.specs.Walk.{AreFirst, placed, WalkBegins}
use Rattle.cluster_core.specs.declared.walk.Walk.{Walk}
use Rattle.cluster_core.proofs.FirstLemmas.{BeginsAlone-take, clusters_in-empty}
use Rattle.cluster_core.proofs.PrintableLemmas.{column_after-one}

-- one step of it
pub placed-step : (tab gap column count after : ℕ) (line cluster rest : List ℕ) → IsFirstCluster line cluster rest →
    count ≡ length (chars cluster) → after ≡ column_after tab column (chars cluster) →
    placed tab gap column (clusters_in (chars line)) ≡
    record { cluster = chars cluster; end = gap + count; column = after } ∷ placed tab (gap + count) after (clusters_in (chars rest))
placed-step tab gap column count after line cluster rest parts counts measured =
    ap (placed tab gap column) parts.clusters ∙
    ap₂ (λ (n col : ℕ). record { cluster = chars cluster; end = gap + n; column = col } ∷ placed tab (gap + n) col (clusters_in (chars rest)))
    (sym counts) (sym measured)

pub placed-none : (tab gap column : ℕ) (line : List ℕ) → line ≡ [] → placed tab gap column (clusters_in (chars line)) ≡ []
placed-none tab gap column line is = ap (λ (bs : List ℕ). placed tab gap column (clusters_in (chars bs))) is ∙ ap (placed tab gap column) clusters_in-empty

-- past printable characters that come first
pub placed-first : (tab gap column : ℕ) (line run : List ℕ) (others : List (List ℕ)) → BeginsAlone line run →
    AreFirst run (placed tab gap column (map (λ c. c ∷ []) run ++ others))
placed-first tab gap column line [] others begins = tt
placed-first tab gap column [] (c ∷ run) others begins = absurd begins
placed-first tab gap column (d ∷ line) (c ∷ run) others begins =
    (refl, begins.1, placed-first tab (gap + 1) (column_after tab column (c ∷ [])) line run others begins.3)

pub placed-past : (tab gap column : ℕ) (line run : List ℕ) (others : List (List ℕ)) → BeginsAlone line run →
    placed tab (gap + length run) (column + length run) others ≡ drop (length run) (placed tab gap column (map (λ c. c ∷ []) run ++ others))
placed-past tab gap column line [] others begins =
    let end : gap + 0 ≡ gap = omega arith in
    let after : column + 0 ≡ column = omega arith in
    ap₂ (λ n m. placed tab n m others) end after
placed-past tab gap column [] (c ∷ run) others begins = absurd begins
placed-past tab gap column (d ∷ line) (c ∷ run) others begins =
    let end : gap + length (c ∷ run) ≡ gap + 1 + length run = omega arith in
    let after : column + length (c ∷ run) ≡ column + 1 + length run = omega arith in
    ap₂ (λ n m. placed tab n m others) end after ∙
    placed-past tab (gap + 1) (column + 1) line run others begins.3 ∙
    ap (λ n. drop (length run) (placed tab (gap + 1) n (map (λ c. c ∷ []) run ++ others))) (sym (column_after-one tab column c begins.1))

pub WalkBegins-take : (walk : Walk) (run : List ℕ) (k : ℕ) → WalkBegins walk run → WalkBegins walk (take k run)
unfolding WalkBegins
WalkBegins-take walk run k begins = BeginsAlone-take walk.rest.now run k begins
