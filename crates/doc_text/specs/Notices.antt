-- What plugins are told of a revision.
use Rattle.std.specs.Prelude.{ℕ, if◌then◌else◌, ◌==◌, [], length, Option, Some, None}
use Rattle.xi_plain.specs.declared.config.Notice.{Notice}
use Rattle.plain_edits.specs.declared.delta.Delta.{Delta}
use Rattle.plain_text.specs.Text.{byte_len}
use Rattle.plain_edits.specs.History.{History, head, text_at}
use Rattle.plain_edits.specs.Change.{change_keeps, change_adds}
use Rattle.delta_core.specs.Wire.{wire_from}
use Rattle.doc_text.specs.Writing.{Writing}

-- THE CHANGE from the text of a revision to that of another one, as the delta of the notices: which characters stay, and what appears at
-- each gap
abbrev pub change_delta : History → ℕ → ℕ → Delta
change_delta history from to = record {
  els = wire_from (change_keeps history from to) (change_adds history from to) 0 0 (text_at history from);
  base_len = byte_len (text_at history from);
}

-- the notice of the change from one head to the next, which this author made
abbrev pub notice_of : History → History → ℕ → Notice
notice_of before after author = record {
  view = [];
  author = author;
  rev = head after;
  new_len = byte_len (text_at after (head after));
  delta = change_delta after (head before) (head after);
}

-- THE NOTICE of a revision by this author: it is made where the text has plugins, and so where somebody reads it
abbrev pub notice_to : Writing → History → ℕ → Option Notice
notice_to before after author = if length before.sessions == 0 then None else Some (notice_of before.history after author)
