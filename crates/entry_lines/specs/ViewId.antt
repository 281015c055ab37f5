-- The ids of views.
use Rattle.std.specs.Prelude.{ℕ, List, ◌++◌, codes}
use Rattle.std.specs.Fmt.{decimal}

-- THE ID of the view with this number, the first of which is 1
abbrev pub view_id_of : ℕ → List ℕ
view_id_of n = codes "view-id-" ++ decimal n
