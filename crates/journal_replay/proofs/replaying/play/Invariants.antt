use Rattle.std.proofs.Common.{◌≡◌, take}
use Rattle.plain_text.specs.InputLines.{lines_of}
use Rattle.core_session.specs.Core.{journal_of, terms_of}
use Rattle.core_session.specs.Grown.{IsGrown}
use Rattle.core_session.specs.Object.{state_of}
use Rattle.journal_replay.specs.Follow.{first_point}
use Rattle.journal_replay.proofs.PlayLemmas.{SoFar}
use Rattle.journal_replay.proofs.replaying.play.Given as goal

-- the entries up to here follow, and the session has them
abbrev pub invariant-loop-at : goal.invariant-loop-at
invariant-loop-at g l = record {
  so_far : SoFar l.fn.plugins (first_point (terms_of l.fn.core) l.fn.tape) (take l.at l.fn.journal) (journal_of l.core) (lines_of l.lines) l.closed;
  terms : terms_of l.core ≡ terms_of l.fn.core;
  grown :
      IsGrown (state_of g.K.Sink.held g.K.Sink.faults g.K.Sink.failures g.H.Shelf.files g.H.Shelf.faults l.fn.core)
      (state_of g.K.Sink.held g.K.Sink.faults g.K.Sink.failures g.H.Shelf.files g.H.Shelf.faults l.core);
}
