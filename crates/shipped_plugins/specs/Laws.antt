-- The laws of the plugins that ship, on data alone.
use Rattle.std.specs.Prelude.{◌≡◌, ◌≤◌, ◌+◌, ℕ, pos, true, ◌&&◌, ◌==◌, Bool, false, List, [], ◌∷◌, ◌++◌, Option, Some, None, IfSome, ⊤}
use Rattle.std.specs.Bool.{MatchBool}
use Rattle.std.specs.List.{AllByRecursion, count_by}
use Rattle.std.specs.Str.{all_scalars, bytes_eq, encode_utf8_all}
use Rattle.plain_text.specs.Text.{byte_len, is_place}
use Rattle.plain_edits.specs.Delta.{Fits}
use Rattle.xi_plain.specs.declared.span.WireSpan.{WireSpan}
use Rattle.xi_plain.specs.declared.command.Id.TheVariants.{NoId, Num}
use Rattle.xi_plain.specs.declared.command.Act.{Act}
use Rattle.xi_plain.specs.declared.command.Act.TheVariants.{PluginEdit, GetData, UpdateSpans, Ack}
use Rattle.xi_plain.specs.declared.command.Command.{Command}
use Rattle.find_core.specs.Laws.{AreMatchesFrom}
use Rattle.plugin_side.specs.declared.heard.Heard.{Heard}
use Rattle.plugin_side.specs.declared.heard.Heard.TheVariants as Hears
use Rattle.plugin_side.specs.Heard.{heard_in}
use Rattle.shipped_plugins.specs.Marks.{mark, marks_of, spans_of}
use Rattle.shipped_plugins.specs.Todo.{Version, TodoState, told_version, todo_turn}
use Rattle.shipped_plugins.specs.Storm.{SizedVersion, StormState, told_change, storm_turn}

-- ---- spans

-- both ends of the span are places of a text that begins with the chunk, and it stands in the chunk
pub record StandsIn (chunk rest : List ℕ) (span : WireSpan) : Type 0 where
  pub ordered : span.start ≤ span.end
  pub within : span.end ≤ byte_len chunk
  pub start : is_place (chunk ++ rest) span.start ≡ true
  pub end : is_place (chunk ++ rest) span.end ≡ true

-- the marks are those from the left, and the chunk's end and the spans stand at places of the text that begins with it
pub record SpansStand (chunk rest : List ℕ) : Type 0 where
  pub marks : AreMatchesFrom mark (encode_utf8_all chunk) 0 (marks_of chunk)
  pub len : is_place (chunk ++ rest) (byte_len chunk) ≡ true
  pub spans : AllByRecursion (StandsIn chunk rest) (spans_of chunk)

-- SPANS STAND AT PLACES of each text that begins with the chunk
abbrev pub SpansStandInTexts : Type 0
SpansStandInTexts = (chunk rest : List ℕ) → all_scalars chunk ≡ true → SpansStand chunk rest

-- ---- ids

-- whether the act is a read
abbrev pub is_read : Act → Bool
is_read (GetData view rev start max) = true
is_read act = false

-- each read has the id behind that of the one before, from one number on and below another; and nothing else has an id
abbrev pub HasIdsFrom : ℕ → ℕ → List Command → Type 0
HasIdsFrom next end [] = next ≡ end
HasIdsFrom next end (command ∷ commands) =
    MatchBool (is_read command.act)
    ((command.id ≡ Num (pos next)) × HasIdsFrom (next + 1) end commands)
    ((command.id ≡ NoId) × HasIdsFrom next end commands)

-- NO ID COMES TWICE: those of a turn begin where those of the turn before ended
abbrev pub IdsComeOnce : Type 0
IdsComeOnce = (state : TodoState) (lines : List (List ℕ)) → HasIdsFrom state.next (todo_turn state lines).after.next (todo_turn state lines).asks

-- ---- acknowledgements

-- whether these are one version
abbrev pub is_version : Version → Version → Bool
is_version version other = bytes_eq version.view other.view && version.rev == other.rev

-- whether the act acknowledges the version
abbrev pub acknowledges : Version → Act → Bool
acknowledges version (Ack view rev) = is_version version (record { view = view; rev = rev })
acknowledges version act = false

-- how often the version is acknowledged
abbrev pub acks_of : Version → List Command → ℕ
acks_of version commands = count_by (λ command. acknowledges version command.act) commands

-- whether this is the version
abbrev pub is_told : Version → Option Version → Bool
is_told version None = false
is_told version (Some other) = is_version version other

-- whether what is heard tells of the version
abbrev pub tells_of : Version → Heard → Bool
tells_of version (Hears.Told told) = is_told version (told_version told)
tells_of version other = false

-- how many of the lines tell of the version
abbrev pub tellings_of : Version → List (List ℕ) → ℕ
tellings_of version lines = count_by (λ line. tells_of version (heard_in line)) lines

-- how often the version was asked for and not answered yet
abbrev pub waiting_for : Version → List (ℕ × Version) → ℕ
waiting_for version asked = count_by (λ entry. is_version version entry.1) asked

-- NO VERSION IS ACKNOWLEDGED MORE OFTEN THAN IT WAS TOLD: what was not acknowledged yet is waited for at most
abbrev pub AcksAreTold : Type 0
AcksAreTold = (state : TodoState) (lines : List (List ℕ)) (version : Version) →
    acks_of version (todo_turn state lines).asks + waiting_for version (todo_turn state lines).after.asked
    ≤ tellings_of version lines + waiting_for version state.asked

-- the version whose spans the act gives
abbrev pub spanned : Act → Option Version
spanned (UpdateSpans view rev start len spans) = Some (record { view = view; rev = rev })
spanned act = None

-- where the act is an acknowledgement, the spans of its version are what was given before it
abbrev pub IsBehind : Option Version → Act → Type 0
IsBehind before (Ack view rev) = before ≡ Some (record { view = view; rev = rev })
IsBehind before act = ⊤

-- so is each, where these spans were given before the first
abbrev pub AreBehind : Option Version → List Command → Type 0
AreBehind before [] = ⊤
AreBehind before (command ∷ commands) = IsBehind before command.act × AreBehind (spanned command.act) commands

-- EACH ACKNOWLEDGEMENT STANDS RIGHT BEHIND THE SPANS of its version
abbrev pub AcksFollowSpans : Type 0
AcksFollowSpans = (state : TodoState) (lines : List (List ℕ)) → AreBehind None (todo_turn state lines).asks

-- ---- edits

-- the length is that of the text of the version
abbrev pub IsLengthIn : (Version → List ℕ) → SizedVersion → Type 0
IsLengthIn texts sized = sized.len ≡ byte_len (texts sized.version)

-- the change that is heard, if it is one
abbrev pub heard_change : Heard → Option SizedVersion
heard_change (Hears.Told told) = told_change told
heard_change other = None

-- each line that tells of a change says the length of the text that it made
abbrev pub TellLengths : (Version → List ℕ) → List (List ℕ) → Type 0
TellLengths texts lines = AllByRecursion (λ line. IfSome (heard_change (heard_in line)) (IsLengthIn texts)) lines

-- where the act is an edit, it fits the text of the version that it names
abbrev pub FitsIn : (Version → List ℕ) → Act → Type 0
FitsIn texts (PluginEdit view rev delta priority after_cursor author named) = Fits (texts (record { view = view; rev = rev })) delta
FitsIn texts act = ⊤

-- EACH EDIT FITS the text of the version that it names, where what was told of lengths is so
abbrev pub EditsFit : Type 0
EditsFit = (texts : Version → List ℕ) (state : StormState) (lines : List (List ℕ)) → IfSome state.first (IsLengthIn texts) → TellLengths texts lines →
    IfSome (storm_turn state lines).after.first (IsLengthIn texts) × AllByRecursion (λ command. FitsIn texts command.act) (storm_turn state lines).asks
