use Rattle.std.proofs.Common.{ℕ, List, ◌++◌, ◌<◌, ◌^◌, take, drop, sym, arith}
use Rattle.std.specs.Str.{chars}
use Rattle.rope_node.specs.Node.{text_of}
use Rattle.plain_text.specs.Text.{byte_len}
use Rattle.rope_tree.proofs.RopeLemmas.{front_fits, made-more, no_characters}
use Rattle.rope_tree.proofs.rope.tree_of.Goals as goal

pub returns-then-byte_len-eq0 : goal.returns-then-byte_len-eq0
returns-then-byte_len-eq0 c = rw c.new-tree.ensures (sym (no_characters c.args.text.now (omega (arith, c.byte_len.ensures))))

pub push_leaf-requires-clause-fits : goal.push_leaf-requires-clause-fits
push_leaf-requires-clause-fits c =
    let few : byte_len c.args.text.now < 2 ^ 64 = omega (arith, c.byte_len.ensures, c.byte_len.type_inv) in
    let made : List ℕ = text_of c.loop-left.tree in
    let rest : List ℕ = chars c.loop-left.rest.now in
    let count : ℕ = c.fitting-count.result in
    rw (c.new-chunk.ensures, c.in_ok-from_str.ensures.made, c.split_at_gap.ensures.front) (front_fits (made ++ take count rest) (drop count rest) c.args.text.now (made-more made rest c.args.text.now count c.loop-left.invariant.made) few)
