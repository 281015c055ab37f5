use Rattle.std.proofs.Common.{◌≡◌, length, ap, sym, ◌∙◌, subst, arith}
use Rattle.std.proofs.lemmas.List.{length-map}
use Rattle.plugin_crew.specs.Place.{givens_of}
use Rattle.plugin_crew.specs.Threads.{MayTake, begun_in}
use Rattle.xi_top.specs.Reads.{ReadsLines}
use Rattle.outside.specs.Source.{source_state}
use Rattle.xi_forms.specs.InnerThreads.{AllCameBack}
use Rattle.xi_forms.proofs.front.serve_here.Goals as goal

pub serve_front-requires : goal.serve_front-requires
serve_front-requires g c =
    let o = g.O.Object in
    let taker = c.seat_all-taker.result in
    let room = sym c.seat_all-taker.ensures.room in
    let posts = taker.posts.items in
    let plugins = c.args.plugins in
    let same : length posts ≡ length plugins.items =
    sym (length-map posts (λ post. post.given)) ∙ sym (length-map (givens_of posts) (λ given. given.plugin)) ∙ ap length c.seat_all-taker.ensures.begun in
    record {
      ready = subst (λ r. MayTake o.fits o.serves r.table.shared.table_id r.table.shared.key.first.value taker.pass posts) room
          c.seat_all-taker.ensures.ready;
      reads = subst (λ r. ReadsLines (o.serves r.table.shared.key.first.value)) room c.requires.reads;
      none = c.seat_all-taker.ensures.none;
      empty = c.requires.empty;
      reserved = (omega (arith, same, plugins.ok.0, c.requires.reserved.0), omega (arith, same, plugins.ok.0, c.requires.reserved.1));
    }

pub returns : goal.returns
returns g c =
    let o = g.O.Object in
    let tell = source_state g.S.Source.left g.S.Source.faults g.S.Source.failures g.S.Source.reads in
    let res = c.serve_front.result in
    let Came : _ → _ → Type 0 =
    λ room handed. AllCameBack o.serves o.answers g.P.Plugin.told room.table.shared.table_id room.table.shared.key.first.value handed
    (tell c.args.source.now) (tell c.serve_front.new.source) res.0 res.1.passes.items res.1.plugins.items res.1.all_served in
    subst (λ handed. Came c.args.room.now handed) c.seat_all-taker.ensures.begun
    (subst (λ room. Came room (begun_in (givens_of c.seat_all-taker.result.posts.items))) c.seat_all-taker.ensures.room c.serve_front.ensures)
