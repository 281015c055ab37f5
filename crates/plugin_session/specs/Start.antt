-- THE FIRST LINE that a plugin is given.
use Rattle.std.specs.Prelude.{ℕ, List, [], ◌∷◌, ◌++◌}
use Rattle.std.specs.Str.{encode_utf8_all}
use Rattle.json_rpc.specs.Line.{line_feed}
use Rattle.plugin_wire.specs.Told.{started}
use Rattle.plugin_wire.specs.Laws.{IsNoticeOf}

-- with an LF at its end, the line tells a plugin that its session starts, under this number
abbrev pub IsStart : ℕ → List ℕ → Type 0
IsStart caller line = IsNoticeOf (started caller) (encode_utf8_all line ++ line_feed ∷ [])
