use Rattle.std.proofs.Common.{◌≡◌, length, refl, ap, sym, ◌∙◌, inl, arith}
use Rattle.std.proofs.lemmas.List.{length-map}
use Rattle.outside.specs.Source.{source_state}
use Rattle.core_session.specs.Core.{journal_of, terms_of}
use Rattle.core_session.specs.Grown.{are_sent}
use Rattle.core_session.specs.Object.{legal_now, state_of}
use Rattle.core_session.specs.Serves.{FitsCaller}
use Rattle.plugin_crew.specs.Member.{are_served, begun_of, plugins_of}
use Rattle.xi_top.specs.Ending.{settled, status_of}
use Rattle.xi_top.proofs.CoreLemmas.{plugin_fits, reads_lines, tells_faults}
use Rattle.xi_top.proofs.RanLemmas.{fails_settled, in_time_ended, run_ended, turns_ended}
use Rattle.xi_top.proofs.RunLemmas.{IsReadByCount-outcome}
use Rattle.xi_top.proofs.ran.serve_all.Goals as goal

pub start-front-requires : goal.start-front-requires
start-front-requires g c =
    let core = c.args.core in
    let count : (terms_of core).plugins ≡ length c.args.crew.members.items = ap (λ terms. terms.plugins) c.requires.made in
    record {
      may = record {
        lines = λ line. refl;
        close = refl;
        plugins = λ caller from to. record {
          plugin = from;
          asks = λ ask asks. plugin_fits (terms_of core).plugins caller ask from (omega (arith, to, count)) asks;
        };
        faults = tells_faults (terms_of core);
      };
      empty = c.requires.empty;
      new = c.requires.new;
    }

pub serve-outcome-requires : goal.serve-outcome-requires
serve-outcome-requires g c = record {
  ready = rw (c.new-run.ensures.taker) c.start-front.ensures.running;
  reads = reads_lines (terms_of c.new-run.result.taker.first.value);
  small = c.new-run.ensures.small;
  first = c.new-run.ensures.first c.start-front.ensures.none;
}

pub returns-clause-ran : goal.returns-clause-ran
returns-clause-ran g c =
    let tell = source_state g.S.Source.left g.S.Source.faults g.S.Source.failures g.S.Source.reads in
    let state = state_of g.K.Sink.held g.K.Sink.faults g.K.Sink.failures g.H.Shelf.files g.H.Shelf.faults in
    let members = c.args.crew.members.items in
    let front = c.new-run.result.taker in
    let last = c.serve-outcome.new.run.taker in
    let closed = c.close.new.self in
    let first_is = ap (λ f. f.first.value) c.new-run.ensures.taker ∙ c.start-front.ensures.first in
    let many = sym (length-map front.crew.members.items (λ member. member.began.value)) ∙
    ap (λ f. length (begun_of f.crew.members.items)) c.new-run.ensures.taker ∙ ap length c.start-front.ensures.begun ∙
    length-map members (λ member. member.began.value) in
    let object = ap (λ parts. parts.0) c.into_parts-core.ensures in
    let sent = c.journal.ensures ∙ ap (λ core. journal_of core) object in
    let status = c.status_for-status.ensures ∙ ap (λ entries. status_of (settled c.serve-outcome.result (are_sent entries))) sent in
    rw (object) (inl (
      settled c.serve-outcome.result (are_sent (journal_of closed.object)),
      status,
      run_ended state g.P.Plugin.told (λ o caller ask. FitsCaller (terms_of o).plugins caller ask) (length members) c.args.core front last closed
          c.close.result (tell c.args.source.now) (tell c.serve-outcome.new.source) c.serve-outcome.result first_is c.requires.made c.requires.empty many
          c.serve-outcome.ensures.served c.serve-outcome.ensures.later c.close.ensures.first c.close.ensures.closed c.close.ensures.served
          (legal_now closed.object),
    ))

pub returns-clause-in_time : goal.returns-clause-in_time
returns-clause-in_time g c =
    let tell = source_state g.S.Source.left g.S.Source.faults g.S.Source.failures g.S.Source.reads in
    let state = state_of g.K.Sink.held g.K.Sink.faults g.K.Sink.failures g.H.Shelf.files g.H.Shelf.faults in
    let members = c.args.crew.members.items in
    let front = c.new-run.result.taker in
    let last = c.serve-outcome.new.run.taker in
    let closed = c.close.new.self in
    let first_is = ap (λ f. f.first.value) c.new-run.ensures.taker ∙ c.start-front.ensures.first in
    let many = sym (length-map front.crew.members.items (λ member. member.began.value)) ∙
    ap (λ f. length (begun_of f.crew.members.items)) c.new-run.ensures.taker ∙ ap length c.start-front.ensures.begun ∙
    length-map members (λ member. member.began.value) in
    rw (ap (λ parts. parts.0) c.into_parts-core.ensures)
    (in_time_ended state g.P.Plugin.told (λ o caller ask. FitsCaller (terms_of o).plugins caller ask) (length members) c.args.core front last closed
    c.close.result (tell c.args.source.now) (tell c.serve-outcome.new.source) c.serve-outcome.result first_is c.requires.made c.requires.empty many
    c.serve-outcome.ensures.served c.serve-outcome.ensures.later c.close.ensures.first c.close.ensures.closed c.close.ensures.served
    (legal_now closed.object))

pub returns-clause-turns : goal.returns-clause-turns
returns-clause-turns g c =
    let tell = source_state g.S.Source.left g.S.Source.faults g.S.Source.failures g.S.Source.reads in
    let state = state_of g.K.Sink.held g.K.Sink.faults g.K.Sink.failures g.H.Shelf.files g.H.Shelf.faults in
    let members = c.args.crew.members.items in
    let front = c.new-run.result.taker in
    let last = c.serve-outcome.new.run.taker in
    let closed = c.close.new.self in
    let first_is = ap (λ f. f.first.value) c.new-run.ensures.taker ∙ c.start-front.ensures.first in
    let many = sym (length-map front.crew.members.items (λ member. member.began.value)) ∙
    ap (λ f. length (begun_of f.crew.members.items)) c.new-run.ensures.taker ∙ ap length c.start-front.ensures.begun ∙
    length-map members (λ member. member.began.value) in
    let begun : begun_of closed.crew.members.items ≡ begun_of members =
    c.close.ensures.begun ∙ c.serve-outcome.ensures.later.2 ∙ ap (λ f. begun_of f.crew.members.items) c.new-run.ensures.taker ∙ c.start-front.ensures.begun in
    let crew_is = ap (λ parts. parts.1) c.into_parts-core.ensures in
    rw (ap (λ parts. parts.0) c.into_parts-core.ensures) (inl
    (turns_ended state g.P.Plugin.told (λ o caller ask. FitsCaller (terms_of o).plugins caller ask) (length members) c.args.core front last closed
    c.close.result (tell c.args.source.now) (tell c.serve-outcome.new.source) c.serve-outcome.result first_is c.requires.made c.requires.empty many
    c.serve-outcome.ensures.served c.serve-outcome.ensures.later c.close.ensures.first c.close.ensures.closed c.close.ensures.served
    (legal_now closed.object) (begun_of members) c.into_plugins.result.items c.all_served-all_served.result
    (sym (length-map members (λ member. member.began.value))) begun
    (c.into_plugins.ensures ∙ ap (λ crew. plugins_of crew.members.items) crew_is)
    (c.all_served-all_served.ensures ∙ ap (λ crew. are_served crew.members.items) crew_is)
    (sym (length-map closed.crew.members.items (λ member. member.began.value)) ∙ ap length begun ∙
    length-map members (λ member. member.began.value))))

pub returns-clause-reads : goal.returns-clause-reads
returns-clause-reads g c =
    let outcome = c.serve-outcome.result in
    IsReadByCount-outcome _ _ (settled outcome (are_sent c.journal.result.now)) _ c.status_for-status.ensures
    (fails_settled outcome (are_sent c.journal.result.now) _ _ c.serve-outcome.ensures.served.source_failures)
