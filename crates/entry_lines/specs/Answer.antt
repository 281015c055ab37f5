-- What an entry is answered by the lines of its piece.
use Rattle.std.specs.Prelude.{ℕ, ℤ, pos, List, [], ◌∷◌, codes}
use Rattle.serde_json.specs.Data.{Data, null}
use Rattle.xi_plain.specs.declared.command.Id.{Id}
use Rattle.xi_plain.specs.declared.command.Id.TheVariants.{NoId, Num, Word}
use Rattle.xi_plain.specs.declared.command.Fault.{Fault}
use Rattle.xi_plain.specs.declared.command.Fault.TheVariants.{Parse, Invalid, NoMethod, BadParams}
use Rattle.json_rpc.specs.Refusal.{code_of, message_of}
use Rattle.json_rpc.specs.Response.{reply_data, error_data, text_data}
use Rattle.view_update.specs.Notes.{alert_data}
use Rattle.entry_lines.specs.declared.reply.FrontReply.{FrontReply}
use Rattle.entry_lines.specs.declared.reply.FrontReply.TheVariants.{Opened, Accepted, Copied, Refused, ShelfFailed, NotText, Spent, Alert, Silent}

-- what is to be answered: a result, a refusal of a line, that the shelf failed, that its bytes are no text, that so many characters may not be
-- inserted, a message for the user, or nothing
pub data Reply : Type 0 where
  accepted : (result : Data) → Reply
  refused : (fault : Fault) → Reply
  shelf_failed : Reply
  not_text : Reply
  spent : Reply
  alerting : (message : List ℕ) → Reply
  silent : Reply

-- what a reply in memory is
abbrev pub reply_of : FrontReply → Reply
reply_of (Opened view) = accepted (text_data view)
reply_of Accepted = accepted null
reply_of (Copied text) = accepted (text_data text)
reply_of (Refused fault) = refused fault
reply_of ShelfFailed = shelf_failed
reply_of NotText = not_text
reply_of Spent = spent
reply_of (Alert message) = alerting message
reply_of Silent = silent

-- a refusal with this number that says this, by the id of the request, or as an alert where it has none
abbrev pub refused_by : Id → ℤ → List ℕ → Data
refused_by NoId code text = alert_data text
refused_by (Num n) code text = error_data (Num n) code text
refused_by (Word word) code text = error_data (Word word) code text

-- the refusal of a request
abbrev pub named_refusal : Id → Fault → Data
named_refusal id fault = refused_by id (code_of fault) (message_of fault)

-- the refusal of a line: what is no request has no id to be named
abbrev pub refusal : Id → Fault → Data
refusal id Parse = error_data NoId (code_of Parse) (message_of Parse)
refusal id Invalid = error_data NoId (code_of Invalid) (message_of Invalid)
refusal id (NoMethod name) = named_refusal id (NoMethod name)
refusal id (BadParams member) = named_refusal id (BadParams member)

-- the refusal of what the shelf could not do
abbrev pub shelf_refusal : Id → Data
shelf_refusal id = refused_by id (pos 1) (codes "shelf")

-- the refusal of a file that is no text
abbrev pub text_refusal : Id → Data
text_refusal id = refused_by id (pos 2) (codes "not text")

-- the refusal of an edit that would insert more characters than may be
abbrev pub spent_refusal : Id → Data
spent_refusal id = refused_by id (pos 3) (codes "spent")

-- the result of a request, where it has an id
abbrev pub result_messages : Id → Data → List Data
result_messages NoId result = []
result_messages (Num n) result = reply_data (Num n) result ∷ []
result_messages (Word text) result = reply_data (Word text) result ∷ []

-- THE ANSWER: the messages that answer an entry
abbrev pub answers : Id → Reply → List Data
answers id (accepted result) = result_messages id result
answers id (refused fault) = refusal id fault ∷ []
answers id shelf_failed = shelf_refusal id ∷ []
answers id not_text = text_refusal id ∷ []
answers id spent = spent_refusal id ∷ []
answers id (alerting message) = alert_data message ∷ []
answers id silent = []
