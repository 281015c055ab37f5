-- Laws of lines on data alone. Each is the contract of a function of `laws`.
use Rattle.std.specs.Prelude.{◌≡◌, ◌≤◌, ℕ, ℤ, List, [], ◌∷◌, ◌++◌, map, true, false, Some, Ok}
use Rattle.std.specs.List.{concat}
use Rattle.std.specs.Str.{all_scalars}
use Rattle.xi_plain.specs.declared.command.Id.{Id}
use Rattle.xi_plain.specs.declared.command.Id.TheVariants.{NoId}
use Rattle.plain_text.specs.InputLines.{lines_of}
use Rattle.serde_json.specs.Data.{Data, depth}
use Rattle.serde_json.specs.Read.{max_depth}
use Rattle.serde_json.specs.Written.{has_float}
use Rattle.json_rpc.specs.Line.{line_feed, HasNoLf, reading, line_of, IsLineOf}
use Rattle.json_rpc.specs.Proper.{IsProper}
use Rattle.json_rpc.specs.Request.{Request, IsWireNumber, IsWireId, IsTextId, IsAsked, line_request}
use Rattle.json_rpc.specs.Response.{reply_data, error_data, note_data, given, failed, line_response}

-- the line of a proper value with no float, nested at most 127 deep, is one line of text, and reads as the value
abbrev pub LinesReadBack : Type 0
LinesReadBack = (d : Data) → IsProper d → has_float d ≡ false → depth d ≤ max_depth → IsLineOf d (line_of d)

-- lines that are written one after the other come apart again
abbrev pub LinesComeApart : Type 0
LinesComeApart = (ds : List Data) → lines_of (concat (map line_of ds)) ≡ map line_of ds

-- the LF at the end of a line does not change its reading
abbrev pub EndsDoNotMatter : Type 0
EndsDoNotMatter = (bytes : List ℕ) → HasNoLf bytes → reading (bytes ++ line_feed ∷ []) ≡ reading bytes

-- what a line reads as is proper and nested at most 127 deep
abbrev pub ReadingsAreProper : Type 0
ReadingsAreProper = (line : List ℕ) (d : Data) → reading line ≡ Some d → IsProper d × (depth d ≤ max_depth)

-- the request that a line is can be answered
abbrev pub RequestsAreAsked : Type 0
RequestsAreAsked = (line : List ℕ) (r : Request) → line_request line ≡ Ok r → IsAsked r

-- the line of a reply says whom it answers and with what result
abbrev pub RepliesReadBack : Type 0
RepliesReadBack = (id : Id) (d : Data) → IsWireId id → IsTextId id → IsProper d → has_float d ≡ false → depth d ≤ 126 →
    IsLineOf (reply_data id d) (line_of (reply_data id d)) × (line_response (line_of (reply_data id d)) ≡ Some (record { id = id; answer = given d }))

-- the line of an error says whom it answers, and the error
abbrev pub ErrorsReadBack : Type 0
ErrorsReadBack = (id : Id) (code : ℤ) (message : List ℕ) → IsWireId id → IsTextId id → IsWireNumber code → all_scalars message ≡ true →
    IsLineOf (error_data id code message) (line_of (error_data id code message)) × (line_response (line_of (error_data id code message)) ≡ Some (record { id = id; answer = failed code message }))

-- the line of a notification reads as the request that it is
abbrev pub NotesReadBack : Type 0
NotesReadBack = (method : List ℕ) (d : Data) → all_scalars method ≡ true → IsProper d → has_float d ≡ false → depth d ≤ 126 →
    IsLineOf (note_data method d) (line_of (note_data method d)) × (line_request (line_of (note_data method d)) ≡ Ok (record { id = NoId; method = method; params = d }))
