-- What a plugin is told, and the value of JSON that tells it.
use Rattle.std.specs.Prelude.{ℕ, List, map, codes}
use Rattle.plain_edits.specs.declared.delta.El.{El}
use Rattle.plain_edits.specs.declared.delta.El.TheVariants.{Copy, Insert}
use Rattle.plain_edits.specs.declared.delta.Delta.{Delta}
use Rattle.xi_plain.specs.declared.config.Notice.{Notice}
use Rattle.serde_json.specs.Data.{Data, number, unsigned, array, object, no_items, item, no_members, member}
use Rattle.serde_json.specs.View.{items_of}
use Rattle.json_rpc.specs.Response.{text_data, pair_data, note_data}

-- what a plugin is told: that its session starts, under this number; that a view was opened, on a text of so many bytes; which
-- revision came; that a view was closed; and that the session is over
pub data Told : Type 0 where
  started : ℕ → Told
  opened : List ℕ → ℕ → Told
  changed : Notice → Told
  closed : List ℕ → Told
  stopped : Told

-- a whole number that is not below 0
abbrev pub whole_data : ℕ → Data
whole_data n = number (unsigned n)

-- an element of a delta: the two offsets of a copy, or the text of an insertion
abbrev pub el_data : El → Data
el_data (Copy a b) = object (member (codes "copy") (array (item (whole_data a) (item (whole_data b) no_items))) no_members)
el_data (Insert text) = object (member (codes "insert") (text_data text) no_members)

-- a delta: the length of its base in bytes, and its elements in order
abbrev pub delta_data : Delta → Data
delta_data delta = pair_data (codes "base_len") (whole_data delta.base_len) (codes "els") (array (items_of (map el_data delta.els)))

-- the params of the notice of a revision
abbrev pub change_params : Notice → Data
change_params notice =
    object (member (codes "author") (whole_data notice.author)
    (member (codes "delta") (delta_data notice.delta)
    (member (codes "new_len") (whole_data notice.new_len)
    (member (codes "rev") (whole_data notice.rev)
    (member (codes "view_id") (text_data notice.view) no_members)))))

-- the params of the notice of a view that was opened, at revision 0
abbrev pub open_params : List ℕ → ℕ → Data
open_params view len =
    object (member (codes "len") (whole_data len) (member (codes "rev") (whole_data 0) (member (codes "view_id") (text_data view) no_members)))

-- the name of the notice
abbrev pub told_name : Told → List ℕ
told_name (started caller) = codes "initialize"
told_name (opened view len) = codes "new_buffer"
told_name (changed notice) = codes "update"
told_name (closed view) = codes "did_close"
told_name stopped = codes "shutdown"

-- its params
abbrev pub told_params : Told → Data
told_params (started caller) = object (member (codes "plugin_id") (whole_data caller) no_members)
told_params (opened view len) = open_params view len
told_params (changed notice) = change_params notice
told_params (closed view) = object (member (codes "view_id") (text_data view) no_members)
told_params stopped = object no_members

-- THE NOTICE to a plugin
abbrev pub told_data : Told → Data
told_data told = note_data (told_name told) (told_params told)
