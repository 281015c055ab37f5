use Rattle.std.proofs.Common.{◌≡◌, ◌-◌, min, ap₂, subst, ◌∙◌, arith}
use Rattle.std.specs.Prelude.{IfOk}
use Rattle.plain_text.specs.Text.{byte_len}
use Rattle.doc_text.proofs.ChunkLemmas.{chunk-slice, end-inside, gap-before_end, start-within}
use Rattle.doc_text.proofs.chunk.chunk_of.Goals as goal

pub overflow_sub-byte_len : goal.overflow_sub-byte_len
overflow_sub-byte_len c = omega (arith, c.byte_len.ensures, start-within c.args.text.now c.args.start c.args.gap c.requires)

pub slice-requires-clause-ordered : goal.slice-requires-clause-ordered
slice-requires-clause-ordered c =
    gap-before_end c.args.text.now c.args.start c.args.gap c.requires c.min-room.result c.last_gap-end.result c.last_gap-end.ensures

pub slice-requires-clause-inside : goal.slice-requires-clause-inside
slice-requires-clause-inside c =
    end-inside c.args.text.now c.args.start c.args.gap c.requires c.min-room.result c.last_gap-end.result c.last_gap-end.ensures

pub returns : goal.returns
returns c =
    let text = c.args.text.now in
    let room_is = c.min-room.ensures ∙ ap₂ (λ a b. min a (b - c.args.start)) c.min.ensures c.byte_len.ensures in
    subst (λ t. IfOk c.slice.result (λ chunk. chunk ≡ t))
    (chunk-slice text c.args.start c.args.gap c.requires c.min-room.result c.last_gap-end.result c.last_gap-end.ensures c.args.max room_is) c.slice.ensures
