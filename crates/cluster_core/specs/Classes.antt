-- The classes of characters that word motions tell apart.
use Rattle.std.specs.Prelude.{ℕ, ◌==◌, ◌&&◌, ◌||◌, not, Bool, if◌then◌else◌}
use Rattle.std.specs.Char.{is_ascii_punctuation}
use Rattle.cluster_core.specs.declared.classes.Class.{Class}
use Rattle.cluster_core.specs.declared.classes.Class.TheVariants.{Feed, Blank, Punct, Other}

abbrev pub is_blank : ℕ → Bool
is_blank c = c == 32 || c == 9 || c == 13

-- LF; a space, a tab or CR; ASCII punctuation but `_`; or any other character
abbrev pub class_of : ℕ → Class
class_of c =
    if c == 10 then Feed else if is_blank c then Blank else if is_ascii_punctuation c && not (c == 95) then Punct else Other
