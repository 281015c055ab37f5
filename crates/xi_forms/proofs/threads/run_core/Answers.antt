use denote.Param.Send.{sendable}
use Rattle.std.proofs.Common.{◌≡◌, length, refl, ap, sym, ◌∙◌, subst, inl, arith, List}
use Rattle.outside.specs.Source.{source_state}
use Rattle.xi_plain.specs.declared.entry.Entry.{Entry}
use Rattle.core_session.specs.Core.{journal_of, terms_of}
use Rattle.core_session.specs.Grown.{are_sent}
use Rattle.core_session.specs.Object.{legal_now, state_of}
use Rattle.core_session.specs.Serves.{IsSessionJournal}
use Rattle.session_sent.proofs.ForCallers.{Core-send}
use Rattle.xi_top.specs.Alone.{terms_for}
use Rattle.xi_top.specs.Ending.{settled, status_of}
use Rattle.xi_top.proofs.ForCallers.{IsReadByCount-outcome, fails_settled, plugin_fits, reads_lines, tells_faults}
use Rattle.xi_forms.proofs.EndLemmas.{in_time_ended, run_ended, turns_ended}
use Rattle.xi_forms.proofs.threads.run_core.Goals as goal

pub serve_all-outcome-requires-send-O : goal.serve_all-outcome-requires-send-O
serve_all-outcome-requires-send-O g c κs within = search (sendable, Core-send)

pub serve_all-outcome-requires-clause-may : goal.serve_all-outcome-requires-clause-may
serve_all-outcome-requires-clause-may g c κs within =
    let first = c.in-Ok-open_room.room.table.shared.key.first.value in
    let count : (terms_of first).plugins ≡ length c.args.plugins.items =
    ap (λ terms. terms.plugins) c.in-Ok-open_room.ensures.terms ∙ omega (arith, c.len-count.ensures, c.requires.few, c.args.plugins.ok.0) in
    record {
      lines = λ line. refl;
      close = refl;
      plugins = λ caller from to. record {
        plugin = from;
        asks = λ ask asks. plugin_fits (terms_of first).plugins caller ask from (omega (arith, to, count)) asks;
      };
      faults = tells_faults (terms_of first);
    }

pub serve_all-outcome-requires-clause-lawful : goal.serve_all-outcome-requires-clause-lawful
serve_all-outcome-requires-clause-lawful g c κs within =
    let first = c.in-Ok-open_room.room.table.shared.key.first.value in
    subst (λ (log : List Entry). ∥ IsSessionJournal (terms_of first) log ∥₁) c.in-Ok-open_room.ensures.empty (legal_now first)

pub serve_all-outcome-requires-clause-reads : goal.serve_all-outcome-requires-clause-reads
serve_all-outcome-requires-clause-reads g c κs within = reads_lines (terms_of c.in-Ok-open_room.room.table.shared.key.first.value)

pub finish-done-requires : goal.finish-done-requires
finish-done-requires g c = let came = c.serve_all-outcome.ensures in (came.seen, came.givens, came.back)

pub returns-in-Ok-open_room-clause-ran : goal.returns-in-Ok-open_room-clause-ran
returns-in-Ok-open_room-clause-ran g c =
    let tell = source_state g.S.Source.left g.S.Source.faults g.S.Source.failures g.S.Source.reads in
    let state = state_of g.K.Sink.held g.K.Sink.faults g.K.Sink.failures g.H.Shelf.files g.H.Shelf.faults in
    let first = c.in-Ok-open_room.room.table.shared.key.first.value in
    let new = c.in-Ok-open_room.ensures in
    let count : (terms_of first).plugins ≡ length c.args.plugins.items =
    ap (λ terms. terms.plugins) new.terms ∙ omega (arith, c.len-count.ensures, c.requires.few, c.args.plugins.ok.0) in
    let limit = ap (λ terms. terms.limit) new.terms in
    let made : terms_of first ≡ terms_for (length c.args.plugins.items) = λ i. record { plugins = count i; limit = limit i } in
    let came = c.serve_all-outcome.ensures in
    let outcome = c.serve_all-outcome.result.0 in
    let object = c.finish-done.result.object in
    let ended = c.finish-done.ensures came.seen came.givens came.back in
    let status = c.status_for.ensures ∙ ap (λ entries. status_of (settled outcome (are_sent entries))) c.journal.ensures in
    rw (sym new.sink, sym new.shelf) (inl (
      settled outcome (are_sent (journal_of object)),
      status,
      run_ended state g.P.Plugin.told (length c.args.plugins.items) first object made new.empty (tell c.args.source.now)
          (tell c.serve_all-outcome.new.source) outcome came.seen came.givens c.finish-done.result.plugins.items c.finish-done.result.all_served
          came.front ended (legal_now object),
    ))

pub returns-in-Ok-open_room-clause-reads : goal.returns-in-Ok-open_room-clause-reads
returns-in-Ok-open_room-clause-reads g c =
    let outcome = c.serve_all-outcome.result.0 in
    let sent = are_sent c.journal.result.now in
    IsReadByCount-outcome _ _ (settled outcome sent) _ c.status_for.ensures
    (fails_settled outcome sent _ _ c.serve_all-outcome.ensures.front.source_failures)

pub returns-in-Ok-open_room-clause-in_time : goal.returns-in-Ok-open_room-clause-in_time
returns-in-Ok-open_room-clause-in_time g c =
    let tell = source_state g.S.Source.left g.S.Source.faults g.S.Source.failures g.S.Source.reads in
    let state = state_of g.K.Sink.held g.K.Sink.faults g.K.Sink.failures g.H.Shelf.files g.H.Shelf.faults in
    let first = c.in-Ok-open_room.room.table.shared.key.first.value in
    let new = c.in-Ok-open_room.ensures in
    let count : (terms_of first).plugins ≡ length c.args.plugins.items =
    ap (λ terms. terms.plugins) new.terms ∙ omega (arith, c.len-count.ensures, c.requires.few, c.args.plugins.ok.0) in
    let limit = ap (λ terms. terms.limit) new.terms in
    let made : terms_of first ≡ terms_for (length c.args.plugins.items) = λ i. record { plugins = count i; limit = limit i } in
    let came = c.serve_all-outcome.ensures in
    let object = c.finish-done.result.object in
    in_time_ended state g.P.Plugin.told (length c.args.plugins.items) first object made new.empty (tell c.args.source.now)
    (tell c.serve_all-outcome.new.source) c.serve_all-outcome.result.0 came.seen came.givens c.finish-done.result.plugins.items
    c.finish-done.result.all_served came.front (c.finish-done.ensures came.seen came.givens came.back) (legal_now object)

pub returns-in-Ok-open_room-clause-turns : goal.returns-in-Ok-open_room-clause-turns
returns-in-Ok-open_room-clause-turns g c =
    let tell = source_state g.S.Source.left g.S.Source.faults g.S.Source.failures g.S.Source.reads in
    let state = state_of g.K.Sink.held g.K.Sink.faults g.K.Sink.failures g.H.Shelf.files g.H.Shelf.faults in
    let first = c.in-Ok-open_room.room.table.shared.key.first.value in
    let new = c.in-Ok-open_room.ensures in
    let count : (terms_of first).plugins ≡ length c.args.plugins.items =
    ap (λ terms. terms.plugins) new.terms ∙ omega (arith, c.len-count.ensures, c.requires.few, c.args.plugins.ok.0) in
    let limit = ap (λ terms. terms.limit) new.terms in
    let made : terms_of first ≡ terms_for (length c.args.plugins.items) = λ i. record { plugins = count i; limit = limit i } in
    let came = c.serve_all-outcome.ensures in
    let object = c.finish-done.result.object in
    inl (turns_ended state g.P.Plugin.told (length c.args.plugins.items) first object made new.empty (tell c.args.source.now)
    (tell c.serve_all-outcome.new.source) c.serve_all-outcome.result.0 came.seen came.givens c.finish-done.result.plugins.items
    c.finish-done.result.all_served came.front (c.finish-done.ensures came.seen came.givens came.back) (legal_now object) c.args.plugins.items refl
    came.begun)
