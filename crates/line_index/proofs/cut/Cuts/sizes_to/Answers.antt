use Rattle.line_index.proofs.TreeLemmas.{front-words_fit}
use Rattle.line_index.proofs.cut.Cuts.sizes_to.Goals as goal

pub sizes_of-requires : goal.sizes_of-requires
sizes_of-requires c =
    let fit = rw (← c.self.view_is) at c.requires.fits in
    rw (c.split_at.ensures.front, c.deref.ensures.value) (front-words_fit c.self.inside.words.items c.args.to fit)
