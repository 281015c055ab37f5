-- What small trees and ropes need to fit.
use Rattle.std.proofs.Common.{ℕ, ◌+◌, ◌^◌, ◌<◌, ◌≤◌, ◌≡◌, IsTrue, List, ◌++◌, length, take, drop, ap, arith}
use Rattle.std.proofs.lemmas.List.{take-append-drop}
use Rattle.plain_text.specs.Text.{byte_len}
use Rattle.rope_node.specs.Lengths.{byte_len-append}
use Rattle.shared_tree.specs.Batch.{is_few, tally_of}
use Rattle.shared_tree.specs.Replaced.{replaced}
use Rattle.shared_tree.proofs.ForCallers.{few_fit}
use Rattle.rope_tree.proofs.ForCallers.{replaced_bytes}

pub few : {X : Type 0} (items : List X) → length items < 2 ^ 64 → IsTrue (is_few (tally_of items))
few items less = few_fit items less

pub replaced_few : (text added : List ℕ) (from to : ℕ) → from ≤ to → byte_len (replaced text from to added) ≤ byte_len text + byte_len added
replaced_few text added from to ordered = replaced_bytes text added from to ordered

pub parted_few : (text : List ℕ) (gap : ℕ) → byte_len (take gap text ++ drop gap text) ≡ byte_len text
parted_few text gap = ap byte_len (take-append-drop gap text)

pub joined_few : (left right : List ℕ) → byte_len (left ++ right) ≡ byte_len left + byte_len right
joined_few left right = byte_len-append left right
