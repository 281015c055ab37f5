use Rattle.std.proofs.Common.{◌++◌, [], ◌∷◌, refl, ap, ◌∙◌}
use Rattle.plugin_crew.specs.Threads.{passes_in, plugins_in}
use Rattle.plugin_crew.proofs.room_front.RoomFront.gather_all.Goals as goal

pub returns : goal.returns
returns g c =
    let (cames, served, passes, plugins, all) = c.gather.ensures in
    record {
      front = c.args.self.pass;
      cames = cames;
      staffed = c.requires.staffed;
      saw = refl;
      served = served;
      passes_are = passes ∙ ap (λ l. l ++ passes_in cames) (c.push_reserved.ensures.items ∙ ap (λ l. l ++ c.args.self.pass ∷ []) c.requires.empty.0);
      plugins_are = plugins ∙ ap (λ l. l ++ plugins_in cames) c.requires.empty.1;
      all_is = all;
    }
