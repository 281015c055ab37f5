-- THE MARKER OF TODO: it reads each text that it is told of, and marks what it read.
use Rattle.std.specs.Prelude.{ℕ, ◌+◌, ◌-◌, ◌^◌, pos, negsuc, ℤ, nat_lt, if◌then◌else◌, List, [], ◌∷◌, Option, Some, None}
use Rattle.std.specs.Ordering.{nat_cmp}
use Rattle.std.specs.Map.{lookup, remove_entry}
use Rattle.std.specs.BTreeMap.{is_at, insert_entry}
use Rattle.plain_text.specs.Text.{byte_len}
use Rattle.xi_plain.specs.declared.command.Id.{Id}
use Rattle.xi_plain.specs.declared.command.Id.TheVariants.{NoId, Num, Word}
use Rattle.xi_plain.specs.declared.command.Act.TheVariants.{GetData, UpdateSpans, Ack}
use Rattle.xi_plain.specs.declared.command.Command.{Command}
use Rattle.plugin_side.specs.declared.heard.Told.{Told}
use Rattle.plugin_side.specs.declared.heard.Told.TheVariants.{Opened, Changed}
use Rattle.plugin_side.specs.declared.heard.Answered.{Answered}
use Rattle.plugin_side.specs.declared.heard.Answered.TheVariants.{Chunk}
use Rattle.plugin_side.specs.declared.heard.Heard.{Heard}
use Rattle.plugin_side.specs.declared.heard.Heard.TheVariants as Hears
use Rattle.shipped_plugins.specs.Turns.{Upshot, passed, heeded}
use Rattle.shipped_plugins.specs.Marks.{spans_of}

-- a revision of a view
pub record Version : Type 0 where
  pub view : List ℕ
  pub rev : ℕ

-- the id of the next read, and the versions that were asked for and not answered yet, by their ids
pub record TodoState : Type 0 where
  pub next : ℕ
  pub asked : List (ℕ × Version)

-- at first
abbrev pub todo_start : TodoState
todo_start = record { next = 0; asked = [] }

-- ---- what it asks

-- so much of a text is read
abbrev pub read_max : ℕ
read_max = 1048576

-- the read of a version
abbrev pub read_ask : ℕ → Version → Command
read_ask id version = record { id = Num (pos id); act = GetData version.view version.rev 0 read_max }

-- the spans of a chunk, which is what the version begins with
abbrev pub spans_ask : Version → List ℕ → Command
spans_ask version chunk = record { id = NoId; act = UpdateSpans version.view version.rev 0 (byte_len chunk) (spans_of chunk) }

-- the acknowledgement of a version
abbrev pub ack_ask : Version → Command
ack_ask version = record { id = NoId; act = Ack version.view version.rev }

-- what an answer to the read of a version makes it ask
abbrev pub answer_asks : Option Version → Answered → List Command
answer_asks (Some version) (Chunk text offset) = spans_ask version text ∷ ack_ask version ∷ []
answer_asks version answer = []

-- ---- what it hears

-- the version of this number, where it is one that the core takes from a line
abbrev pub version_of : List ℕ → ℕ → Option Version
version_of view rev = if nat_lt rev (2 ^ 63) then Some (record { view = view; rev = rev }) else None

-- the version that a notice tells of
abbrev pub told_version : Told → Option Version
told_version (Opened view len) = Some (record { view = view; rev = 0 })
told_version (Changed notice) = version_of notice.view notice.rev
told_version other = None

-- the number of 64 bits that a whole number is
abbrev pub whole_number : ℤ → Option ℕ
whole_number (pos n) = if nat_lt n (2 ^ 64) then Some n else None
whole_number (negsuc n) = None

-- the number that an id is
abbrev pub number_of : Id → Option ℕ
number_of NoId = None
number_of (Num z) = whole_number z
number_of (Word text) = None

-- what was asked for by an id, if anything
abbrev pub asked_at : List (ℕ × Version) → ℕ → Option Version
asked_at asked id = lookup (is_at (nat_cmp id)) asked

-- a version is read, by the next id, while there is one behind that
abbrev pub reads : TodoState → Option Version → Upshot TodoState
reads state None = passed state
reads state (Some version) =
    if nat_lt state.next (2 ^ 64 - 1)
    then record {
      after = record { next = state.next + 1; asked = insert_entry nat_cmp state.asked state.next version };
      asks = read_ask state.next version ∷ [];
    }
    else passed state

-- an answer lets go what was asked for by its id
abbrev pub settles : TodoState → Option ℕ → Answered → Upshot TodoState
settles state None answer = passed state
settles state (Some id) answer = record {
  after = record { next = state.next; asked = remove_entry (is_at (nat_cmp id)) state.asked };
  asks = answer_asks (asked_at state.asked id) answer;
}

-- what it makes of what it hears
abbrev pub todo_step : TodoState → Heard → Upshot TodoState
todo_step state (Hears.Told told) = reads state (told_version told)
todo_step state (Hears.Answer id answer) = settles state (number_of id) answer
todo_step state Hears.Nothing = passed state

-- WHAT THE LINES OF A TURN COME TO
abbrev pub todo_turn : TodoState → List (List ℕ) → Upshot TodoState
todo_turn = heeded todo_step
