-- The methods of plugins, by their names.
use Rattle.std.specs.Prelude.{ℕ, ◌==◌, if◌then◌else◌, List, codes, Option, Some, None}
use Rattle.std.specs.Str.{bytes_eq}
use Rattle.case_table.specs.Table.{names_of}
use Rattle.plugin_wire.specs.declared.method.Method.{Method}
use Rattle.plugin_wire.specs.declared.method.Method.TheVariants.{Ack, Alert, Edit, GetData, LineCount, UpdateSpans}

-- the table of the names, in rising order
abbrev pub method_names : List (List ℕ)
method_names = names_of (codes "ack alert edit get_data line_count update_spans ")

-- the method of a row of the table
abbrev pub method_at : ℕ → Method
method_at row =
    if row == 0 then Ack else (if row == 1 then Alert else (if row == 2 then Edit else (
    if row == 3 then GetData else (if row == 4 then LineCount else UpdateSpans))))

-- the method with this name, in bytes
abbrev pub method_named : List ℕ → Option Method
method_named name =
    if bytes_eq name (codes "ack") then Some Ack
    else (if bytes_eq name (codes "alert") then Some Alert
    else (if bytes_eq name (codes "edit") then Some Edit
    else (if bytes_eq name (codes "get_data") then Some GetData
    else (if bytes_eq name (codes "line_count") then Some LineCount
    else (if bytes_eq name (codes "update_spans") then Some UpdateSpans
    else None)))))
