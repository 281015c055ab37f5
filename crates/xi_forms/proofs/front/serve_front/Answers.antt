use Rattle.std.proofs.Common.{◌≡◌, length, ap, sym, ◌∙◌, subst, arith}
use Rattle.std.proofs.lemmas.List.{length-map}
use Rattle.outside.specs.Source.{source_state}
use Rattle.xi_plain.specs.declared.ask.Ask.TheVariants.{CloseDown}
use Rattle.plugin_crew.specs.Place.{givens_of}
use Rattle.plugin_crew.specs.Taker.{IsEnteredBy}
use Rattle.plugin_crew.specs.Threads.{AreBack, begun_in}
use Rattle.xi_top.specs.Step.{Stops}
use Rattle.xi_top.proofs.ForCallers.{begins_on}
use Rattle.xi_forms.proofs.FrontLemmas.{EntersInTime-served}
use Rattle.xi_forms.proofs.front.serve_front.Goals as goal

pub serve-outcome-requires : goal.serve-outcome-requires
serve-outcome-requires g c =
    let o = g.O.Object in
    record {
      ready = rw (c.new-run.ensures.taker) c.requires.ready;
      reads = rw (c.new-run.ensures.taker) c.requires.reads;
      small = c.new-run.ensures.small;
      first = c.new-run.ensures.first c.requires.none;
    }

pub close-requires : goal.close-requires
close-requires g c = record { ready = rw (c.into_taker-last.ensures) c.serve-outcome.ensures.ready }

pub gather_all-requires : goal.gather_all-requires
gather_all-requires g c =
    let last_is = c.into_taker-last.ensures in
    let givens = c.close.ensures.same.1 ∙ ap (λ f. givens_of f.posts.items) last_is ∙ c.serve-outcome.ensures.later.2 ∙
    ap (λ f. givens_of f.posts.items) c.new-run.ensures.taker in
    let many : length c.close.new.self.posts.items ≡ length c.args.taker.posts.items =
    sym (length-map c.close.new.self.posts.items (λ post. post.given)) ∙ ap length givens ∙ length-map c.args.taker.posts.items (λ post. post.given) in
    record {
      empty = c.requires.empty;
      reserved = (omega (arith, many, c.requires.reserved.0), omega (arith, many, c.requires.reserved.1));
      staffed = c.close.ensures.ready.0;
    }

pub returns : goal.returns
returns g c =
    let o = g.O.Object in
    let told = g.P.Plugin.told in
    let tell = source_state g.S.Source.left g.S.Source.faults g.S.Source.failures g.S.Source.reads in
    let start = c.args.taker in
    let begun = c.new-run.result.taker in
    let ran = c.serve-outcome.new.run.taker in
    let last = c.into_taker-last.result in
    let closed = c.close.new.self in
    let last_is : last ≡ ran = c.into_taker-last.ensures in
    let room_last : last.room.now ≡ start.room.now =
    ap (λ f. f.room.now) last_is ∙ c.serve-outcome.ensures.later.0 ∙ ap (λ f. f.room.now) c.new-run.ensures.taker in
    let room : closed.room.now ≡ start.room.now = c.close.ensures.same.0 ∙ room_last in
    let givens : givens_of closed.posts.items ≡ givens_of start.posts.items =
    c.close.ensures.same.1 ∙ ap (λ f. givens_of f.posts.items) last_is ∙ c.serve-outcome.ensures.later.2 ∙
    ap (λ f. givens_of f.posts.items) c.new-run.ensures.taker in
    let served = c.serve-outcome.ensures.served in
    let back = c.gather_all.result in
    record {
      seen = closed.pass.seen;
      givens = givens_of closed.posts.items;
      begun = ap begun_in givens;
      back = subst (λ r. AreBack o.serves o.answers told r.table.shared.table_id r.table.shared.key.first.value closed.pass.seen
          (givens_of closed.posts.items) back.passes.items back.plugins.items back.all_served) room c.gather_all.ensures;
      front = record {
        reached = last.pass.seen;
        taken = served.taken;
        left = served.left;
        gives = served.gives;
        leaves = served.leaves;
        stops = subst (λ f. Stops f.pass.seen served.taken served.left c.serve-outcome.result) (sym last_is) served.stops;
        source_failed = served.source_failed;
        stays = served.stays;
        source_failures = served.source_failures;
        took = c.close.result;
        closed = subst (λ r. IsEnteredBy (o.serves r.table.shared.key.first.value) CloseDown last.pass.seen c.close.result closed.pass.seen) room_last
            c.close.ensures.served;
        in_time = λ journal begins.
            EntersInTime-served (λ f. f.pass.seen) _ _ (λ a b later. later.1) (tell c.args.source.now) (tell c.serve-outcome.new.source) begun ran
            c.serve-outcome.result journal served
            (begins_on ran.pass.seen closed.pass.seen journal (rw (sym last_is) c.close.ensures.seen) begins);
      };
    }
