-- What a plugin hears in a line, by its bytes alone.
use Rattle.std.specs.Prelude.{ℕ, ◌^◌, ℤ, pos, negsuc, nat_lt, if◌then◌else◌, List, codes, Option, Some, None, option_map, option_and_then}
use Rattle.plugin_wire.specs.Told.{Told as WireTold, started, opened, changed, closed, stopped}
use Rattle.plugin_wire.specs.Shapes.{under, whole_shape, text_shape}
use Rattle.plugin_wire.specs.Hearing.{line_told}
use Rattle.serde_json.specs.Data.{Data, null, boolean, number, string, array, object}
use Rattle.serde_json.specs.Find.{get, as_u64}
use Rattle.json_rpc.specs.Response.{Answer, given, failed, Response, line_response}
use Rattle.plugin_side.specs.declared.heard.Told.{Told}
use Rattle.plugin_side.specs.declared.heard.Told.TheVariants.{Started, Opened, Changed, Closed, Stopped}
use Rattle.plugin_side.specs.declared.heard.Answered.{Answered}
use Rattle.plugin_side.specs.declared.heard.Answered.TheVariants.{Chunk, Edited, Lines, Null, Failed, Other}
use Rattle.plugin_side.specs.declared.heard.Heard.{Heard}
use Rattle.plugin_side.specs.declared.heard.Heard.TheVariants as Hears

-- ---- notices

-- what is told, where the number of a caller has room in 32 bits
abbrev pub with_room : WireTold → Option Told
with_room (started caller) = option_map Started (under (2 ^ 32) caller)
with_room (opened view len) = Some (Opened view len)
with_room (changed notice) = if nat_lt notice.author (2 ^ 32) then Some (Changed notice) else None
with_room (closed view) = Some (Closed view)
with_room stopped = Some Stopped

-- ---- results

-- the whole number of at most 64 bits that the member of this name is
abbrev pub count_in : List ℕ → Data → Option ℕ
count_in name d = option_and_then (whole_shape (2 ^ 64)) (get name d)

-- a part of a text, of these members
abbrev pub chunk_from : Option (List ℕ) → Option ℕ → Option Answered
chunk_from (Some text) (Some offset) = Some (Chunk text offset)
chunk_from text offset = None

-- the part of a text that a result is
abbrev pub chunk_in : Data → Option Answered
chunk_in d = chunk_from (option_and_then text_shape (get (codes "chunk") d)) (count_in (codes "offset") d)

-- the revision that an edit made, of these members
abbrev pub edited_from : Option ℕ → Option ℕ → Option Answered
edited_from (Some rev) (Some group) = Some (Edited rev group)
edited_from rev group = None

-- the revision of an edit that a result is
abbrev pub edited_in : Data → Option Answered
edited_in d = edited_from (count_in (codes "rev") d) (count_in (codes "undo_group") d)

-- the first of two that is there, or else the result is another
abbrev pub first_of : Option Answered → Option Answered → Answered
first_of (Some chunk) edited = chunk
first_of None (Some edited) = edited
first_of None None = Other

-- a number of lines, if there is one
abbrev pub lines_from : Option ℕ → Answered
lines_from (Some n) = Lines n
lines_from None = Other

-- what a result says
abbrev pub result_heard : Data → Answered
result_heard null = Null
result_heard (boolean b) = Other
result_heard (number n) = lines_from (as_u64 n)
result_heard (string s) = Other
result_heard (array ds) = Other
result_heard (object ms) = first_of (chunk_in (object ms)) (edited_in (object ms))

-- ---- answers

-- the number of an error, where it has room in 64 bits
abbrev pub code_with_room : ℤ → Option ℤ
code_with_room (pos n) = if nat_lt n (2 ^ 63) then Some (pos n) else None
code_with_room (negsuc n) = if nat_lt n (2 ^ 63) then Some (negsuc n) else None

-- an error with this code and this message
abbrev pub failure : List ℕ → ℤ → Answered
failure message code = Failed code message

-- what an answer says
abbrev pub answer_heard : Answer → Option Answered
answer_heard (given d) = Some (result_heard d)
answer_heard (failed code message) = option_map (failure message) (code_with_room code)

-- what a response says, and whom it answers
abbrev pub response_heard : Response → Option Heard
response_heard response = option_map (Hears.Answer response.id) (answer_heard response.answer)

-- ---- a line

-- the notice that is heard, or the answer, or nothing
abbrev pub heard_of : Option Heard → Option Heard → Heard
heard_of (Some told) answer = told
heard_of None (Some answer) = answer
heard_of None None = Hears.Nothing

-- the notice that a line is, where its numbers have room
abbrev pub notice_heard : List ℕ → Option Heard
notice_heard line = option_map Hears.Told (option_and_then with_room (line_told line))

-- the answer that a line is
abbrev pub line_answer : List ℕ → Option Heard
line_answer line = option_and_then response_heard (line_response line)

-- WHAT A PLUGIN HEARS in a line
unfoldable pub heard_in : List ℕ → Heard
heard_in line = heard_of (notice_heard line) (line_answer line)
