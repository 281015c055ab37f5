-- What is printed of a call.
use Rattle.std.specs.Prelude.{ℕ, ◌==◌, Bool, true, false, List, [], ◌∷◌, ◌++◌, codes, decimal}
use Rattle.std.specs.Str.{encode_utf8_all}
use Rattle.xi_plain.specs.declared.reply.Reply.{Reply}
use Rattle.xi_plain.specs.declared.reply.Reply.TheVariants.{Closed, NoMemory, Refused, SinkFault, Taken}
use Rattle.xi_plain.specs.declared.reply.Answer.{Answer}
use Rattle.xi_plain.specs.declared.reply.Answer.TheVariants as seen

-- a word, and behind it the answer where there is one
abbrev pub answered : List ℕ → List ℕ → List ℕ
answered word [] = word
answered word (c ∷ answer) = word ++ 32 ∷ encode_utf8_all (c ∷ answer)

-- the line of a reply, without its LF
abbrev pub reply_line : Reply → List ℕ
reply_line (Taken answer) = answered (codes "= taken") answer
reply_line (Refused answer) = answered (codes "= refused") answer
reply_line SinkFault = codes "= sinkfault"
reply_line Closed = codes "= closed"
reply_line NoMemory = codes "= nomemory"

-- bytes with `> ` before each line, where a line starts before them or not; a last line that is not ended is ended
abbrev pub marked_from : Bool → List ℕ → List ℕ
marked_from true [] = []
marked_from false [] = 10 ∷ []
marked_from true (b ∷ bytes) = codes "> " ++ b ∷ marked_from (b == 10) bytes
marked_from false (b ∷ bytes) = b ∷ marked_from (b == 10) bytes

abbrev pub marked : List ℕ → List ℕ
marked bytes = marked_from true bytes

-- WHAT IS PRINTED OF A REPLY to a call that wrote these bytes
abbrev pub reply_said : Reply → List ℕ → List ℕ
reply_said reply written = reply_line reply ++ 10 ∷ marked written

-- lines that tell of entries, each with `< ` before it
abbrev pub told_lines : List (List ℕ) → List ℕ
told_lines [] = []
told_lines (line ∷ lines) = codes "< " ++ encode_utf8_all line ++ 10 ∷ told_lines lines

-- whether more will come
abbrev pub over_word : Bool → List ℕ
over_word true = codes " true\n"
over_word false = codes " false\n"

-- WHAT IS PRINTED OF A LOOK
abbrev pub answer_said : Answer → List ℕ
answer_said (seen.Notices lines next over) = codes "= notices " ++ decimal next ++ over_word over ++ told_lines lines
answer_said (seen.Nothing len) = codes "= nothing " ++ decimal len ++ 10 ∷ []
answer_said seen.NoMemory = codes "= nomemory\n"
