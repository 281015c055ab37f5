use Rattle.std.proofs.Common.{◌≡◌, ◌-◌, ℕ, List, length, ap, subst, sym, ◌∙◌, arith}
use Rattle.std.specs.Str.{encode_utf8_all}
use Rattle.plain_text.specs.Text.{byte_len}
use Rattle.rope_node.specs.Lengths.{lengths_of}
use Rattle.rope_metrics.specs.Measure.{long, IsCut}
use Rattle.rope_metrics.proofs.OffsetLemmas.{long_by-together}
use Rattle.rope_metrics.proofs.PlainLemmas.{cut-converted, cut-fits, plain-bytes, plain-front}
use Rattle.rope_metrics.proofs.offset.plain_offset.Goals as goal

pub split_at_offset-requires-clause-plain : goal.split_at_offset-requires-clause-plain
split_at_offset-requires-clause-plain c =
    let bytes : c.as_bytes-text.result.now ≡ c.args.chunk.now = c.as_bytes-text.ensures.value ∙ c.as_str.ensures.utf8 ∙ ap encode_utf8_all c.text.ensures.text ∙ plain-bytes c.args.chunk.now c.requires.plain in
    subst (λ (xs : List ℕ). byte_len xs ≡ length xs) (sym bytes) c.requires.plain

pub split_at_offset-requires-clause-inside : goal.split_at_offset-requires-clause-inside
split_at_offset-requires-clause-inside c =
    let bytes : c.as_bytes-text.result.now ≡ c.args.chunk.now = c.as_bytes-text.ensures.value ∙ c.as_str.ensures.utf8 ∙ ap encode_utf8_all c.text.ensures.text ∙ plain-bytes c.args.chunk.now c.requires.plain in
    omega (
      arith,
      c.width.ensures,
      ap (long c.args.from) bytes,
      c.requires.passed,
      c.requires.reached,
      long_by-together c.args.from c.args.before.now (lengths_of c.args.chunk.now),
    )

pub long-requires : goal.long-requires
long-requires c =
    let bytes : c.as_bytes-text.result.now ≡ c.args.chunk.now = c.as_bytes-text.ensures.value ∙ c.as_str.ensures.utf8 ∙ ap encode_utf8_all c.text.ensures.text ∙ plain-bytes c.args.chunk.now c.requires.plain in
    plain-front c.args.chunk.now c.requires.plain c.split_at_offset.result.0.now c.split_at_offset.result.1.now (sym bytes ∙ c.split_at_offset.ensures.cut)

pub overflow_add-result : goal.overflow_add-result
overflow_add-result c =
    let bytes : c.as_bytes-text.result.now ≡ c.args.chunk.now = c.as_bytes-text.ensures.value ∙ c.as_str.ensures.utf8 ∙ ap encode_utf8_all c.text.ensures.text ∙ plain-bytes c.args.chunk.now c.requires.plain in
    let cut =
    subst (λ (n : ℕ). IsCut c.args.from c.args.chunk.now (c.args.at - n) c.split_at_offset.result.0.now c.split_at_offset.result.1.now) c.width.ensures
    (subst (λ (xs : List ℕ). IsCut c.args.from xs (c.args.at - c.width.result) c.split_at_offset.result.0.now c.split_at_offset.result.1.now) bytes c.split_at_offset.ensures) in
    omega (
      arith,
      c.width-2.ensures,
      c.long.ensures,
      cut-fits c.args.from c.args.to c.args.before.now c.args.chunk.now c.args.at c.requires.passed c.split_at_offset.result.0.now c.split_at_offset.result.1.now cut c.requires.fits,
    )

pub returns : goal.returns
returns c =
    let bytes : c.as_bytes-text.result.now ≡ c.args.chunk.now = c.as_bytes-text.ensures.value ∙ c.as_str.ensures.utf8 ∙ ap encode_utf8_all c.text.ensures.text ∙ plain-bytes c.args.chunk.now c.requires.plain in
    let cut =
    subst (λ (n : ℕ). IsCut c.args.from c.args.chunk.now (c.args.at - n) c.split_at_offset.result.0.now c.split_at_offset.result.1.now) c.width.ensures
    (subst (λ (xs : List ℕ). IsCut c.args.from xs (c.args.at - c.width.result) c.split_at_offset.result.0.now c.split_at_offset.result.1.now) bytes c.split_at_offset.ensures) in
    rw (c.width-2.ensures, c.long.ensures)
    (cut-converted c.args.from c.args.to c.args.before.now c.args.chunk.now c.args.at c.requires.passed c.split_at_offset.result.0.now c.split_at_offset.result.1.now cut)
