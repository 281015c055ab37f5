-- What a line of a plugin is answered.
use Rattle.std.specs.Prelude.{◌≡◌, ℕ, ℤ, pos, List, [], ◌∷◌, ◌++◌, codes, Option, Some, None}
use Rattle.std.specs.Fmt.{decimal}
use Rattle.plain_edits.specs.Edits.{Refusal, unknown, collected, misfit, spent}
use Rattle.xi_plain.specs.declared.command.Id.{Id}
use Rattle.xi_plain.specs.declared.command.Id.TheVariants.{NoId, Num, Word}
use Rattle.xi_plain.specs.declared.command.Fault.{Fault}
use Rattle.serde_json.specs.Data.{Data, null}
use Rattle.json_rpc.specs.Line.{line_feed, HasNoLf, IsLineOf}
use Rattle.json_rpc.specs.Refusal.{code_of, message_of}
use Rattle.json_rpc.specs.Response.{reply_data, error_data, pair_data, text_data}
use Rattle.plugin_wire.specs.Told.{whole_data}
use Rattle.entry_lines.specs.declared.reply.PluginReply.{PluginReply}
use Rattle.entry_lines.specs.declared.reply.PluginReply.TheVariants as Replies

-- what a line of a plugin comes to: a result, a fault of the line, of its view or of a place that it names, or a refusal of its document
pub data Verdict : Type 0 where
  gives : (result : Data) → Verdict
  faults : (fault : Fault) → Verdict
  refuses : (refusal : Refusal) → Verdict

-- the result of an edit: its revision, and its undo group
abbrev pub edited_data : ℕ → ℕ → Data
edited_data rev group = pair_data (codes "rev") (whole_data rev) (codes "undo_group") (whole_data group)

-- the result of a reading: a part of a text, and the place in bytes where it starts
abbrev pub chunk_data : List ℕ → ℕ → Data
chunk_data text start = pair_data (codes "chunk") (text_data text) (codes "offset") (whole_data start)

-- what a reply in memory is
abbrev pub verdict_of : PluginReply → Verdict
verdict_of Replies.Null = gives null
verdict_of (Replies.Edited rev group) = gives (edited_data rev group)
verdict_of (Replies.Chunk text offset) = gives (chunk_data text offset)
verdict_of (Replies.Lines n) = gives (whole_data n)
verdict_of (Replies.Refused fault) = faults fault
verdict_of (Replies.Spent total) = refuses (spent total)
verdict_of (Replies.Unknown head) = refuses (unknown head)
verdict_of (Replies.Collected floor) = refuses (collected floor)
verdict_of (Replies.Misfit first) = refuses (misfit first)

-- the number of a refusal
abbrev pub refusal_code : Refusal → ℤ
refusal_code (spent total) = pos 3
refusal_code (unknown head) = pos 4
refusal_code (collected floor) = pos 5
refusal_code (misfit first) = pos 6

-- what it says
abbrev pub refusal_text : Refusal → List ℕ
refusal_text (spent total) = codes "spent"
refusal_text (unknown head) = codes "unknown revision: " ++ decimal head
refusal_text (collected floor) = codes "collected revision: " ++ decimal floor
refusal_text (misfit first) = codes "misfit " ++ (decimal first.kind ++ (codes " at " ++ decimal first.at))

-- the answer that gives a result, where the line has an id
abbrev pub result_answer : Id → Data → Option Data
result_answer NoId result = None
result_answer (Num n) result = Some (reply_data (Num n) result)
result_answer (Word text) result = Some (reply_data (Word text) result)

-- THE ANSWER to a line of a plugin: a refusal has one also where the line has no id, which is null then
abbrev pub plugin_answer : Id → Verdict → Option Data
plugin_answer id (gives result) = result_answer id result
plugin_answer id (faults fault) = Some (error_data id (code_of fault) (message_of fault))
plugin_answer id (refuses refusal) = Some (error_data id (refusal_code refusal) (refusal_text refusal))

-- an LF is the last of the bytes
abbrev pub EndsInLf : List ℕ → Type 0
EndsInLf bytes = (front : List ℕ) × (bytes ≡ front ++ line_feed ∷ [])

-- the bytes are the line of the message without its LF
pub record IsTextOf (message : Data) (bytes : List ℕ) : Type 0 where
  pub line : IsLineOf message (bytes ++ line_feed ∷ [])
  pub one : HasNoLf bytes

-- the bytes are the line of the answer without its LF, and none where there is no answer
abbrev pub IsAnswerText : Option Data → List ℕ → Type 0
IsAnswerText None bytes = bytes ≡ []
IsAnswerText (Some message) bytes = IsTextOf message bytes
