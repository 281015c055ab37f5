-- What a plugin hears in a line of the core. Members stand in any order, and further ones are passed over.
use Rattle.std.specs.Prelude.{ℕ, ◌^◌, ◌==◌, if◌then◌else◌, List, codes, Option, Some, None, option_map, Result, Ok, Err}
use Rattle.std.specs.Str.{bytes_eq}
use Rattle.plain_edits.specs.declared.delta.Delta.{Delta}
use Rattle.xi_plain.specs.declared.command.Id.{Id}
use Rattle.xi_plain.specs.declared.command.Id.TheVariants.{NoId, Num, Word}
use Rattle.xi_plain.specs.declared.config.Notice.{Notice}
use Rattle.serde_json.specs.Data.{Data}
use Rattle.json_rpc.specs.Request.{Request, LineRefusal, line_request}
use Rattle.plugin_wire.specs.Told.{Told, started, opened, changed, closed, stopped}
use Rattle.plugin_wire.specs.Shapes.{whole_shape, text_shape, member_shape, delta_shape}

-- the whole number of at most 64 bits that is the member of this name
abbrev pub heard_number : List ℕ → Data → Option ℕ
heard_number name params = member_shape (whole_shape (2 ^ 64)) name params

-- the view that is named
abbrev pub heard_view : Data → Option (List ℕ)
heard_view params = member_shape text_shape (codes "view_id") params

-- the revision of these members
abbrev pub notice_from : Option ℕ → Option Delta → Option ℕ → Option ℕ → Option (List ℕ) → Option Notice
notice_from (Some author) (Some delta) (Some new_len) (Some rev) (Some view) =
    Some (record { view = view; author = author; rev = rev; new_len = new_len; delta = delta })
notice_from author delta new_len rev view = None

-- the revision that the params of `update` tell
abbrev pub heard_notice : Data → Option Notice
heard_notice params =
    notice_from (heard_number (codes "author") params) (member_shape (delta_shape (2 ^ 64)) (codes "delta") params)
    (heard_number (codes "new_len") params) (heard_number (codes "rev") params) (heard_view params)

-- the opening of these members: the length, the revision, which is 0, and the view
abbrev pub opening_from : Option ℕ → Option ℕ → Option (List ℕ) → Option Told
opening_from (Some len) (Some rev) (Some view) = if rev == 0 then Some (opened view len) else None
opening_from len rev view = None

-- what a notice of this name tells by its params
abbrev pub heard : List ℕ → Data → Option Told
heard name params =
    if bytes_eq name (codes "initialize") then option_map started (heard_number (codes "plugin_id") params)
    else (if bytes_eq name (codes "new_buffer") then opening_from (heard_number (codes "len") params) (heard_number (codes "rev") params) (heard_view params)
    else (if bytes_eq name (codes "update") then option_map changed (heard_notice params)
    else (if bytes_eq name (codes "did_close") then option_map closed (heard_view params)
    else (if bytes_eq name (codes "shutdown") then Some stopped
    else None))))

-- what a message tells, if it was read and names no one to answer
abbrev pub heard_message : Id → List ℕ → Data → Option Told
heard_message NoId name params = heard name params
heard_message (Num z) name params = None
heard_message (Word text) name params = None

-- what a message tells, if it was read
abbrev pub heard_request : Result Request LineRefusal → Option Told
heard_request (Err refusal) = None
heard_request (Ok message) = heard_message message.id message.method message.params

-- WHAT A PLUGIN HEARS in a line, where the line is a notice
unfoldable pub line_told : List ℕ → Option Told
line_told line = heard_request (line_request line)
