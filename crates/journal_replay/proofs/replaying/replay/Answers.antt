use Rattle.std.proofs.Common.{◌∙◌, subst, None, Some}
use Rattle.session_step.specs.Session.{first_session, written}
use Rattle.session_step.specs.declared.terms.Terms.{Terms}
use Rattle.core_session.specs.Core.{journal_of, sink_of, terms_of}
use Rattle.core_session.specs.Shows.{Shows}
use Rattle.journal_replay.proofs.ReplayLemmas.{played_on, replays_by, replays_told}
use Rattle.journal_replay.proofs.ShowLemmas.{shows_again}
use Rattle.journal_replay.proofs.replaying.replay.Goals as goal

pub returns-in-None-clause-ok : goal.returns-in-None-clause-ok
returns-in-None-clause-ok g c =
    let core = c.in-Ok.core in
    let new = c.play-stopped.new.core in
    let tape = c.args.tape.now in
    let journal = c.args.journal.now in
    replays_told g.K.Sink.held g.K.Sink.faults g.K.Sink.failures c.args.plugins tape journal c.args.sink (sink_of core) (sink_of new)
    c.into_parts-journal.result.1 c.in-Ok.ensures.sink c.into_parts-journal.ensures.sink None
    (replays_by c.args.plugins tape journal _ _ c.in-Ok.ensures.terms c.in-Ok.ensures.empty c.play-stopped.ensures.grown None
    (played_on c.args.plugins (terms_of core) c.as_slice.result.now tape journal (journal_of new) None c.in-Ok.ensures.terms c.as_slice.ensures
    c.in-None.ensures.played))

pub returns-in-None-clause-shows : goal.returns-in-None-clause-shows
returns-in-None-clause-shows g c =
    let At : Terms → Type 0 = λ terms. ∥ Shows terms c.args.journal.now (written (first_session terms) c.args.journal.now) ∥₁ in
    subst At (c.play-stopped.ensures.terms ∙ c.in-Ok.ensures.terms)
    (shows_again (terms_of c.play-stopped.new.core) c.args.journal.now (journal_of c.play-stopped.new.core) c.in-None.ensures.played.1
    c.play-stopped.ensures.lawful)

pub returns-clause-err : goal.returns-clause-err
returns-clause-err g c =
    let core = c.in-Ok.core in
    let new = c.play-stopped.new.core in
    let tape = c.args.tape.now in
    let journal = c.args.journal.now in
    let answer = Some c.in-Some.fault in
    replays_told g.K.Sink.held g.K.Sink.faults g.K.Sink.failures c.args.plugins tape journal c.args.sink (sink_of core) (sink_of new)
    c.into_parts-journal.result.1 c.in-Ok.ensures.sink c.into_parts-journal.ensures.sink answer
    (replays_by c.args.plugins tape journal _ _ c.in-Ok.ensures.terms c.in-Ok.ensures.empty c.play-stopped.ensures.grown answer
    (played_on c.args.plugins (terms_of core) c.as_slice.result.now tape journal (journal_of new) answer c.in-Ok.ensures.terms c.as_slice.ensures
    c.in-Some.ensures.played))
