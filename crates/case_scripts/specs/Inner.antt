-- What private functions are proved by: what their values mean.
use Rattle.std.specs.Prelude.{◌≡◌, ◌<◌, ◌^◌, Bool, true, false, [], ◌∷◌, ◌++◌, Option, Some, None}
use Rattle.case_scripts.specs.declared.said.Part.{Part}
use Rattle.case_scripts.specs.declared.said.Part.TheVariants.{Line, Rest, Filler, Fails, AtMost}
use Rattle.case_scripts.specs.declared.said.Mark as Rust
use Rattle.case_scripts.specs.declared.said.Mark.TheVariants.{Done, Ends, Given, Gives}
use Rattle.case_scripts.specs.declared.said.Said.{Said}
use Rattle.case_scripts.specs.declared.said.Said.TheVariants.{Remark, Side, Status, ShelfFails, File, Held, Turn}
use Rattle.case_scripts.specs.Said.{Piece, bytes, fails, at_most, Meaning, remark, side, status, shelf_fails, file, held, turn, Mark, given, gives, ends, done, filler}

-- what a value of the program means
abbrev pub part_view : Part → Piece
part_view (Line text) = bytes (text.now ++ 10 ∷ [])
part_view (Rest text) = bytes text.now
part_view (Filler count) = filler count
part_view (Fails call) = fails call
part_view (AtMost count) = at_most count

abbrev pub mark_view : Rust.Mark → Mark
mark_view (Given text) = given text.now
mark_view (Gives text) = gives text.now
mark_view Ends = ends
mark_view Done = done

abbrev pub said_view : Said → Meaning
said_view Remark = remark
said_view (Side way part) = side way (part_view part)
said_view (Status code) = status code
said_view (ShelfFails call) = shelf_fails call
said_view (File when path) = file when path.now
said_view (Held text end) = held (text.now ++ end.now)
said_view (Turn caller mark) = turn caller (mark_view mark)

-- a call moves at least one byte
abbrev pub IsProperPiece : Piece → Type 0
IsProperPiece (bytes text) = Unit {0}
IsProperPiece (fails call) = Unit {0}
IsProperPiece (at_most count) = (0 < count) × (count < 2 ^ 64)

-- what a line says is proper where the piece in it is
abbrev pub IsProper : Meaning → Type 0
IsProper remark = Unit {0}
IsProper (side way piece) = IsProperPiece piece
IsProper (status code) = Unit {0}
IsProper (shelf_fails call) = Unit {0}
IsProper (file when path) = Unit {0}
IsProper (held text) = Unit {0}
IsProper (turn caller mark) = Unit {0}

-- it is taken exactly where this is something, which it then is
abbrev pub IsTakenAs : {A : Type 0} → A → Option A → Bool → Type 0
IsTakenAs after None taken = taken ≡ false
IsTakenAs after (Some wanted) taken = (taken ≡ true) × (after ≡ wanted)
