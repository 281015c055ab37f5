-- What other crates may cite of the proofs of `shared_tree`.
use Rattle.std.proofs.Common.{◌^◌, ◌<◌, IsTrue, List, length}
use Rattle.std.proofs.lemmas.Bool.{lt-ltb}
use Rattle.shared_tree.specs.Batch.{is_few, tally_of}

-- records that 64 bits count fit
pub few_fit : {X : Type 0} (items : List X) → length items < 2 ^ 64 → IsTrue (is_few (tally_of items))
few_fit items few = lt-ltb _ _ few
