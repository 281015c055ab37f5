-- How lines are pulled, one after the other.
use Rattle.std.specs.Prelude.{◌≡◌, ℕ, ◌<◌, ◌≤◌, ◌^◌, ◌⊎◌, List, [], ◌∷◌, ◌++◌, length, Option, Some, None, IfSome, Result, Ok, Err}
use Rattle.std.specs.List.{AllByRecursion}
use Rattle.std.specs.Str.{encode_utf8_all, IsUtf8}
use Rattle.outside.specs.Faults.{Rose}
use Rattle.plugin_link.specs.Turns.{HasNoLf, IsLine, lined}
use Rattle.plugin_link.specs.Link.{LinkTold, Pulls}
use Rattle.plugin_link.specs.declared.link_end.LinkEnd.{LinkEnd}
use Rattle.plugin_link.specs.declared.link_end.LinkEnd.TheVariants.{Ended, PullFailed, PushFailed, TooLong, TooMany, NotText, NoMemory}

-- a line may not have so many bytes before its LF
abbrev pub line_limit : ℕ
line_limit = 2 ^ 24

-- a turn may not have so many lines
abbrev pub lines_limit : ℕ
lines_limit = 2 ^ 16

-- no LF stands in the bytes, and they may yet become a line
abbrev pub IsUnended : List ℕ → Type 0
IsUnended rest = HasNoLf rest × (length rest < line_limit)

-- the bytes begin with as many without LF as no line may have
pub record IsTooLong (rest : List ℕ) : Type 0 where
  pub front : List ℕ
  pub more : List ℕ
  pub parts : rest ≡ front ++ more
  pub no_lf : HasNoLf front
  pub long : line_limit ≤ length front

-- the bytes begin with a whole line, which is short enough and not UTF-8
pub record IsNotText (rest : List ℕ) : Type 0 where
  pub line : List ℕ
  pub more : List ℕ
  pub parts : rest ≡ line ++ 10 ∷ more
  pub no_lf : HasNoLf line
  pub short : length line < line_limit
  pub not_text : ¬ IsUtf8 line

-- why no line more comes, by what stands after the lines so far: at `Ended` nothing is left, and at `PullFailed` the count of faults rose
abbrev pub StopsBy : LinkEnd → LinkTold → LinkTold → List ℕ → Type 0
StopsBy Ended old new rest = IfSome new.left (λ left. left ≡ []) × IsUnended rest
StopsBy PullFailed old new rest = Rose old.faults new.faults × IsUnended rest
StopsBy TooLong old new rest = IsTooLong rest
StopsBy NotText old new rest = IsNotText rest
StopsBy NoMemory old new rest = Unit {0}
StopsBy PushFailed old new rest = ⊥
StopsBy TooMany old new rest = ⊥

-- a line that is given
abbrev pub IsShortLine : List ℕ → Type 0
IsShortLine line = IsLine line × (length line < line_limit)

-- what one more pull came to
abbrev pub FetchesBy : Result (Unit {0}) LinkEnd → LinkTold → LinkTold → List ℕ → Type 0
FetchesBy (Ok one) old new got = 0 < length got
FetchesBy (Err Ended) old new got = (got ≡ []) × IfSome new.left (λ left. left ≡ [])
FetchesBy (Err PullFailed) old new got = (got ≡ []) × Rose old.faults new.faults
FetchesBy (Err NoMemory) old new got = got ≡ []
FetchesBy (Err PushFailed) old new got = ⊥
FetchesBy (Err TooLong) old new got = ⊥
FetchesBy (Err TooMany) old new got = ⊥
FetchesBy (Err NotText) old new got = ⊥

-- one more pull: what it gave stands behind what was kept
pub record Fetches (old new : LinkTold) (before after : List ℕ) (outcome : Result (Unit {0}) LinkEnd) : Type 0 where
  pub got : List ℕ
  pub pulls : Pulls old new got
  pub kept : after ≡ before ++ got
  pub by : FetchesBy outcome old new got

-- the bytes of a line as a text, or why they are none
abbrev pub TextBy : Result (List ℕ) LinkEnd → List ℕ → Type 0
TextBy (Ok text) line = (encode_utf8_all text ≡ line) × (length line < line_limit)
TextBy (Err TooLong) line = line_limit ≤ length line
TextBy (Err NotText) line = (length line < line_limit) × ¬ IsUtf8 line
TextBy (Err NoMemory) line = Unit {0}
TextBy (Err Ended) line = ⊥
TextBy (Err PullFailed) line = ⊥
TextBy (Err PushFailed) line = ⊥
TextBy (Err TooMany) line = ⊥

-- these bytes are a line and its LF, and others
pub record IsCut (line all after : List ℕ) : Type 0 where
  pub parts : all ≡ line ++ 10 ∷ after
  pub no_lf : HasNoLf line
  pub short : length line < line_limit

-- the next line of bytes in which an LF stands, or why it is none
abbrev pub NextBy : Result (List ℕ) LinkEnd → List ℕ → List ℕ → Type 0
NextBy (Ok text) all after = IsCut (encode_utf8_all text) all after
NextBy (Err TooLong) all after = IsTooLong all
NextBy (Err NotText) all after = IsNotText all
NextBy (Err NoMemory) all after = Unit {0}
NextBy (Err Ended) all after = ⊥
NextBy (Err PullFailed) all after = ⊥
NextBy (Err PushFailed) all after = ⊥
NextBy (Err TooMany) all after = ⊥

-- the next line, or why none comes
abbrev pub ComesBy : Result (List ℕ) LinkEnd → LinkTold → LinkTold → List ℕ → List ℕ → Type 0
ComesBy (Ok text) old new all after = IsCut (encode_utf8_all text) all after
ComesBy (Err end) old new all after = StopsBy end old new all

-- the next line of what was kept and of what more was pulled
pub record Comes (old new : LinkTold) (before after : List ℕ) (outcome : Result (List ℕ) LinkEnd) : Type 0 where
  pub got : List ℕ
  pub pulls : Pulls old new got
  pub by : ComesBy outcome old new (before ++ got) after

-- lines were pulled, and this is kept: none of them, and no LF, was lost or made
pub record HasLines (old new : LinkTold) (before after : List ℕ) (given : List (List ℕ)) : Type 0 where
  pub got : List ℕ
  pub pulls : Pulls old new got
  pub lines : AllByRecursion IsShortLine given
  pub parts : before ++ got ≡ lined given ++ after

-- how the pulling ended, if it did
abbrev pub end_of : Result (Unit {0}) LinkEnd → Option LinkEnd
end_of (Ok one) = None
end_of (Err end) = Some end

-- how the pulling of a turn's lines came out: with the empty line after fewer lines than may be, with an end after fewer, or with as many
-- lines as may not be
abbrev pub ReadsBy : Option LinkEnd → LinkTold → LinkTold → List ℕ → List ℕ → ℕ → Type 0
ReadsBy None old new rest after count = (rest ≡ 10 ∷ after) × (count < lines_limit)
ReadsBy (Some end) old new rest after count =
    (StopsBy end old new rest × (count < lines_limit)) ⊎ ((end ≡ TooMany) × (count ≡ lines_limit))

-- THE LINES OF A TURN, pulled: `rest` is what stands after them, of what was kept and pulled
pub record Reads (old new : LinkTold) (before after : List ℕ) (given : List (List ℕ)) (end : Option LinkEnd) : Type 0 where
  pub rest : List ℕ
  pub has : HasLines old new before rest given
  pub by : ReadsBy end old new rest after (length given)
