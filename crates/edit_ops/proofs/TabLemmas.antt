-- Tabs of spaces.
use Rattle.std.proofs.Common.{◌≡◌, ℕ, ◌+◌, ◌-◌, ◌*◌, ◌/◌, ◌%◌, ◌<◌, Bool, true, List, [], ◌∷◌, ◌++◌, replicate, sym, ap, ◌∙◌, arith, append_assoc, suc}
use Rattle.std.specs.Prelude.{if◌then◌else◌}
use Rattle.plain_screen.specs.declared.piece.Piece.{Piece}
use Rattle.xi_plain.specs.declared.config.Config.{Config}
use Rattle.std.proofs.lemmas.Bool.{ne_eqb}
use native.Mathlib.Nat.{add-mul}
use Rattle.std.proofs.lemmas.Nat.{div-add-mod', mod_below}
use Rattle.cluster_core.specs.Columns.{tab_stop}
use Rattle.movement_core.specs.Lines.{column_of}
use Rattle.edit_ops.specs.Commands.{tab_text}

-- from a column to the next stop it is what the tab width has more than the columns past the last one
pub tab_stop-room : (tab column : ℕ) → 0 < tab → tab - column % tab ≡ tab_stop tab column - column
tab_stop-room tab column some =
    let stop : tab_stop tab column ≡ (column / tab + 1) * tab =
    ap (λ b. if b then column else (column / tab + 1) * tab) (ne_eqb tab 0 (λ none. omega arith)) in
    omega (arith, stop, add-mul (column / tab) 1 tab, div-add-mod' column tab, mod_below column tab some)

pub replicate-next : (count left : ℕ) (text : List ℕ) → 0 < left → text ++ replicate left 32 ≡ replicate count 32 → (text ++ 32 ∷ []) ++ replicate (left - 1) 32 ≡ replicate count 32
replicate-next count left text some is =
    let more : left ≡ suc (left - 1) = omega arith in
    append_assoc text (32 ∷ []) (replicate (left - 1) 32) ∙ sym (ap (λ n. text ++ replicate n 32) more) ∙ is

pub tab_text-spaces : (config : Config) (text : List ℕ) (pieces : List Piece) (gap column count : ℕ) → config.spaces ≡ true → column ≡ column_of config.tab text pieces gap →
    count ≡ tab_stop config.tab column - column → replicate count 32 ≡ tab_text config text pieces gap
tab_text-spaces config text pieces gap column count spaces column_is count_is =
    let at = column_of config.tab text pieces gap in
    let filled : List ℕ = replicate (tab_stop config.tab at - at) 32 in
    ap (λ (n : ℕ). replicate n 32) (count_is ∙ ap (λ (n : ℕ). tab_stop config.tab n - n) column_is) ∙
    sym (ap (λ (b : Bool). if b then filled else 9 ∷ []) spaces)
