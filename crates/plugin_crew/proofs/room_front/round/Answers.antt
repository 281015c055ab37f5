use Rattle.std.proofs.Common.{◌<◌, ◌≤◌, length, refl, ◌∙◌, arith}
use Rattle.std.proofs.lemmas.List.{length-set}
use Rattle.plugin_crew.proofs.PlaceLemmas.{visited_on, visited_all}
use Rattle.plugin_crew.proofs.room_front.round.Goals as goal

pub loop-at-init : goal.loop-at-init
loop-at-init g c = (refl, refl)

pub loop-at-preserved : goal.loop-at-preserved
loop-at-preserved g c =
    let o = g.O.Object in
    let inv = c.loop-at.invariant in
    let items = c.loop-at.posts.items in
    let at = c.loop-at.at in
    let inside : at < length items = omega (arith, inv.0, c.args.posts.now.ok.0) in (
      length-set items at c.visit.new.self ∙ inv.0,
      visited_on o.serves o.answers at c.args.posts.now.items items c.index_mut.result.now c.visit.new.self inside c.index_mut.ensures.value c.visit.ensures inv.1,
    )

pub returns : goal.returns
returns g c =
    let o = g.O.Object in
    let inv = c.loop-at.invariant in
    let all : length c.loop-at.posts.items ≤ c.loop-at.at = omega (arith, inv.0, c.args.posts.now.ok.0) in
    visited_all o.serves o.answers c.loop-at.at c.args.posts.now.items c.loop-at.posts.items all inv.1
