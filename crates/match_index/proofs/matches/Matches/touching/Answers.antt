use Rattle.match_index.specs.Found.{Found}
use Rattle.match_index.specs.Inner.{strides_under}
use Rattle.match_index.proofs.MatchLemmas.{has-long}
use Rattle.match_index.proofs.matches.Matches.touching.Goals as goal

pub joined_matches-requires : goal.joined_matches-requires
joined_matches-requires c =
    let own : Found = record { text = c.self.inside.rope; chars = c.self.inside.chars; fold = c.self.inside.fold } in
    has-long own (strides_under c.self.inside.strides) c.char_count.result c.char_count.ensures c.self.invariant
