use Rattle.std.proofs.Common.{[], ◌∷◌, ◌++◌, length, refl, ap, sym, ◌∙◌, subst, arith}
use Rattle.std.specs.Prelude.{◌&&◌}
use Rattle.std.proofs.lemmas.List.{append-nil, append_assoc, map-append, nil_from_length}
use Rattle.plugin_crew.specs.Standing.{is_served}
use Rattle.plugin_crew.specs.Place.{givens_of}
use Rattle.plugin_crew.specs.Threads.{HaveServed, passes_in, plugins_in}
use Rattle.plugin_crew.proofs.ThreadLemmas.{served_snoc, all_snoc}
use Rattle.plugin_crew.proofs.back.gather.Goals as goal

pub loop-post-init : goal.loop-post-init
loop-post-init g c = (
  tt,
  tt,
  omega (arith, ap length c.into_iter-post-iterator.ensures.into_iter_gives.0, c.args.posts.ok.0, c.requires.passes),
  omega (arith, ap length c.into_iter-post-iterator.ensures.into_iter_gives.0, c.args.posts.ok.0, c.requires.plugins),
  ([], [], refl, tt, sym (append-nil c.args.back.passes.items), sym (append-nil c.args.back.plugins.items), c.requires.all),
)

pub loop-post-preserved : goal.loop-post-preserved
loop-post-preserved g c =
    let inv = c.loop-post.invariant in
    let (done, cames, first, served, passes, plugins, all) = inv.4 in
    let step = c.in-Some.ensures.steps.0 in
    let post = c.in-Some.post in
    let came = c.gathered-came.result in
    let put = c.put-back.ensures in (
      tt,
      tt,
      omega (arith, ap length step, put.count.0, put.room.0, inv.2),
      omega (arith, ap length step, put.count.1, put.room.1, inv.3),
      (
        done ++ post ∷ [],
        cames ++ came ∷ [],
        first ∙ (ap (λ l. done ++ l) step ∙ sym (append_assoc done (post ∷ []) c.next.new.self.rest.items)),
        subst (λ l. HaveServed g.O.Object.serves g.O.Object.answers g.P.Plugin.told l (cames ++ came ∷ [])) (sym (map-append (λ one. one.given) done (post ∷ [])))
            (served_snoc g.O.Object.serves g.O.Object.answers g.P.Plugin.told (givens_of done) cames post.given came served c.gathered-came.ensures),
        put.passes ∙ ap (λ l. l ++ came.pass ∷ []) passes ∙ append_assoc c.args.back.passes.items (passes_in cames) (came.pass ∷ [])
            ∙ ap (λ l. c.args.back.passes.items ++ l) (sym (map-append (λ one. one.pass) cames (came ∷ []))),
        put.plugins ∙ ap (λ l. l ++ came.plugin ∷ []) plugins ∙ append_assoc c.args.back.plugins.items (plugins_in cames) (came.plugin ∷ [])
            ∙ ap (λ l. c.args.back.plugins.items ++ l) (sym (map-append (λ one. one.plugin) cames (came ∷ []))),
        put.all ∙ ap (λ b. b && is_served came.standing) all ∙ sym (all_snoc cames came),
      ),
    )

pub returns : goal.returns
returns g c =
    let (done, cames, first, served, passes, plugins, all) = c.loop-post.invariant.4 in
    let rest = c.loop-post.post-iterator.rest in
    let none = nil_from_length rest.items (omega (arith, c.in-None.ensures.steps.0, rest.ok.0)) in
    let whole = sym c.into_iter-post-iterator.ensures.into_iter_gives.0 ∙ first ∙ ap (λ l. done ++ l) none ∙ append-nil done in (
      cames,
      subst (λ l. HaveServed g.O.Object.serves g.O.Object.answers g.P.Plugin.told (givens_of l) cames) (sym whole) served,
      passes,
      plugins,
      all,
    )
