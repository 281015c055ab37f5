use Rattle.std.proofs.Common.{◌+◌, refl, sym, ◌∙◌, subst, take, Bool, List, ℕ}
use Rattle.plain_text.specs.InputLines.{lines_of}
use Rattle.core_session.specs.Core.{journal_of, terms_of}
use Rattle.core_session.specs.GrownLaws.{IsGrown-onward}
use Rattle.core_session.specs.Object.{legal_now}
use Rattle.journal_replay.specs.declared.entering.Entered.TheVariants as entered
use Rattle.journal_replay.specs.Follow.{first_point, lines_left}
use Rattle.journal_replay.proofs.PlayLemmas.{SoFar, at_terms, over_is, played_closed, played_differs, played_fault, played_lacking, so_far_at}
use Rattle.journal_replay.proofs.replaying.play.Goals as goal

pub returns-then-closed-clause-played : goal.returns-then-closed-clause-played
returns-then-closed-clause-played g c =
    played_closed c.args.plugins (terms_of c.args.core.now) c.args.tape.now c.args.journal.now c.loop-at.at c.index-journal-at.result c.loop-at-test.true
    c.index-journal-at.is (journal_of c.loop-at.core) (lines_of c.loop-at.lines.now) c.loop-at.closed c.loop-at.invariant.so_far (journal_of c.loop-at.core)
    c.if-closed.true refl

pub returns-then-closed-clause-lawful : goal.returns-then-closed-clause-lawful
returns-then-closed-clause-lawful g c = legal_now c.loop-at.core

pub enter-requires-clause-unclosed : goal.enter-requires-clause-unclosed
enter-requires-clause-unclosed g c =
    over_is c.args.plugins (terms_of c.args.core.now) c.args.tape.now (take c.loop-at.at c.args.journal.now) (journal_of c.loop-at.core)
    (lines_of c.loop-at.lines.now) c.loop-at.closed c.loop-at.invariant.so_far ∙
    c.if-closed.false

pub returns-in-Differs-clause-played : goal.returns-in-Differs-clause-played
returns-in-Differs-clause-played g c =
    let log = journal_of c.loop-at.core in
    let lines = lines_of c.loop-at.lines.now in
    let came =
    at_terms (terms_of c.args.core.now) (terms_of c.loop-at.core) entered.Differs c.args.plugins log lines c.index-journal-at.result
    (journal_of c.enter.new.core) c.loop-at.invariant.terms c.in-Differs.ensures.entered in
    played_differs c.args.plugins (terms_of c.args.core.now) c.args.tape.now c.args.journal.now c.loop-at.at c.index-journal-at.result c.loop-at-test.true
    c.index-journal-at.is log lines c.loop-at.closed c.loop-at.invariant.so_far (journal_of c.enter.new.core) c.if-closed.false came.0 came.1

pub returns-in-Differs-clause-lawful : goal.returns-in-Differs-clause-lawful
returns-in-Differs-clause-lawful g c = legal_now c.enter.new.core

pub returns-in-Differs-clause-grown : goal.returns-in-Differs-clause-grown
returns-in-Differs-clause-grown g c = IsGrown-onward _ _ _ c.loop-at.invariant.grown c.enter.ensures.grown

pub returns-in-SinkFault-clause-played : goal.returns-in-SinkFault-clause-played
returns-in-SinkFault-clause-played g c =
    let log = journal_of c.loop-at.core in
    let lines = lines_of c.loop-at.lines.now in
    let came =
    at_terms (terms_of c.args.core.now) (terms_of c.loop-at.core) entered.SinkFault c.args.plugins log lines c.index-journal-at.result
    (journal_of c.enter.new.core) c.loop-at.invariant.terms c.in-SinkFault.ensures.entered in
    played_fault c.args.plugins (terms_of c.args.core.now) c.args.tape.now c.args.journal.now c.loop-at.at c.index-journal-at.result c.loop-at-test.true
    c.index-journal-at.is log lines c.loop-at.closed c.loop-at.invariant.so_far (journal_of c.enter.new.core) c.if-closed.false came.0 came.1

pub returns-in-SinkFault-clause-lawful : goal.returns-in-SinkFault-clause-lawful
returns-in-SinkFault-clause-lawful g c = legal_now c.enter.new.core

pub returns-in-SinkFault-clause-grown : goal.returns-in-SinkFault-clause-grown
returns-in-SinkFault-clause-grown g c = IsGrown-onward _ _ _ c.loop-at.invariant.grown c.enter.ensures.grown

pub returns-in-NoMemory-clause-played : goal.returns-in-NoMemory-clause-played
returns-in-NoMemory-clause-played g c =
    let log = journal_of c.loop-at.core in
    let lines = lines_of c.loop-at.lines.now in
    let (more, put, asks) = c.in-NoMemory.ensures.entered in
    played_lacking c.args.plugins (terms_of c.args.core.now) c.args.tape.now c.args.journal.now c.loop-at.at c.index-journal-at.result c.loop-at-test.true
    c.index-journal-at.is log lines c.loop-at.closed c.loop-at.invariant.so_far (journal_of c.enter.new.core) more put asks

pub returns-in-NoMemory-clause-lawful : goal.returns-in-NoMemory-clause-lawful
returns-in-NoMemory-clause-lawful g c = legal_now c.enter.new.core

pub returns-in-NoMemory-clause-grown : goal.returns-in-NoMemory-clause-grown
returns-in-NoMemory-clause-grown g c = IsGrown-onward _ _ _ c.loop-at.invariant.grown c.enter.ensures.grown

pub loop-at-preserved : goal.loop-at-preserved
loop-at-preserved g c =
    let log = journal_of c.loop-at.core in
    let lines = lines_of c.loop-at.lines.now in
    let entry = c.index-journal-at.result in
    let after = journal_of c.enter.new.core in
    let first = first_point (terms_of c.args.core.now) c.args.tape.now in
    let came =
    at_terms (terms_of c.args.core.now) (terms_of c.loop-at.core) entered.Taken c.args.plugins log lines entry after c.loop-at.invariant.terms
    c.in-Taken.ensures.entered in
    let next =
    so_far_at c.args.plugins (terms_of c.args.core.now) c.args.tape.now c.args.journal.now c.loop-at.at entry c.loop-at-test.true c.index-journal-at.is log
    lines c.loop-at.closed c.loop-at.invariant.so_far after c.if-closed.false came.0 came.1 in
    let Lines : List (List ℕ) → Type 0 =
    λ xs. SoFar c.args.plugins first (take (c.loop-at.at + 1) c.args.journal.now) after xs c.is_closing-closed.result in
    let Closed : Bool → Type 0 =
    λ b. SoFar c.args.plugins first (take (c.loop-at.at + 1) c.args.journal.now) after (lines_left entry lines) b in
    record {
      so_far = subst Lines (sym c.lines_left-lines.ensures) (subst Closed (sym c.is_closing-closed.ensures) next);
      terms = c.enter.ensures.terms ∙ c.loop-at.invariant.terms;
      grown = IsGrown-onward _ _ _ c.loop-at.invariant.grown c.enter.ensures.grown;
    }

pub returns-clause-lawful : goal.returns-clause-lawful
returns-clause-lawful g c = legal_now c.loop-at.core
