use Rattle.plugin_crew.proofs.post.stayed_to_end.Goals as goal

pub stay_once-requires-clause-stays : goal.stay_once-requires-clause-stays
stay_once-requires-clause-stays g c = let (given, is) = c.requires in (given, c.loop.invariant given is)
