-- What plugins are told of an entry.
use Rattle.std.specs.Prelude.{ℕ, List, [], ◌∷◌, ◌++◌, ⊤}
use Rattle.std.specs.Str.{encode_utf8_all}
use Rattle.json_rpc.specs.Line.{line_feed, HasNoLf}
use Rattle.plugin_wire.specs.Told.{Told, opened, changed, closed, stopped}
use Rattle.plugin_wire.specs.Laws.{IsNoticeOf}
use Rattle.entry_lines.specs.declared.notice.PluginNews.{PluginNews}
use Rattle.entry_lines.specs.declared.notice.PluginNews.TheVariants.{Opened, Changed, Closed, Stopped}

-- what plugins are told by it
abbrev pub told_of : PluginNews → Told
told_of (Opened view len) = opened view len
told_of (Changed notice) = changed notice
told_of (Closed view) = closed view
told_of Stopped = stopped

-- the bytes are the line that tells this, without its LF
pub record IsNoticeText (told : Told) (bytes : List ℕ) : Type 0 where
  pub notice : IsNoticeOf told (bytes ++ line_feed ∷ [])
  pub one : HasNoLf bytes

-- THE NOTICES of an entry: each text tells the one that stands where it does
abbrev pub AreNoticeTexts : List Told → List (List ℕ) → Type 0
AreNoticeTexts [] [] = ⊤
AreNoticeTexts [] (text ∷ texts) = ⊥
AreNoticeTexts (told ∷ news) [] = ⊥
AreNoticeTexts (told ∷ news) (text ∷ texts) = IsNoticeText told (encode_utf8_all text) × AreNoticeTexts news texts
