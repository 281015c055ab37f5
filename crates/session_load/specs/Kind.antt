-- The kind of a line, by which lines are counted.
use Rattle.std.specs.Prelude.{ℕ, List, codes, Option, Some, None, unwrap_or, option_and_then, if◌then◌else◌}
use Rattle.std.specs.Str.{bytes_eq}
use Rattle.serde_json.specs.Data.{Data}
use Rattle.serde_json.specs.Find.{get, as_str}
use Rattle.serde_json.specs.Read.{read}

-- the kind of a line that is no JSON, or names no method
abbrev pub unreadable : List ℕ
unreadable = codes "unreadable"

-- the method that a value names
abbrev pub method_of : Data → List ℕ
method_of value = unwrap_or (option_and_then as_str (get (codes "method") value)) unreadable

-- this kind, or where it is an edit the method that its params name
abbrev pub kind_with : List ℕ → Option Data → List ℕ
kind_with kind None = kind
kind_with kind (Some params) = if bytes_eq kind (codes "edit") then method_of params else kind

abbrev pub kind_in : Option Data → List ℕ
kind_in None = unreadable
kind_in (Some value) = kind_with (method_of value) (get (codes "params") value)

-- THE KIND OF A LINE: its method, or where it edits a view the method of that
abbrev pub kind_of : List ℕ → List ℕ
kind_of line = kind_in (read line)
