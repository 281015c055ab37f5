use Rattle.std.proofs.Common.{◌≡◌, ◌≤◌, [], ◌++◌, refl, sym, append_assoc, arith}
use Rattle.std.specs.Str.{chars}
use Rattle.std.proofs.lemmas.Str.{chars-nil}
use Rattle.plain_text.specs.Text.{byte_len}
use Rattle.plain_text.proofs.callers.TextLemmas.{length-encodes}
use Rattle.rope_node.specs.Lengths.{byte_len-append}
use Rattle.rope_node.proofs.TextLemmas.{bytes-chars, lengths-changed, may_change, middle-short}
use Rattle.rope_node.proofs.chunk.Chunk.put.Goals as goal

pub measured-requires : goal.measured-requires
measured-requires c =
    let front = chars c.args.front.now in
    let gone = chars c.args.gone.now in
    let back = chars c.args.back.now in
    let added = c.args.added.now in
    let short : byte_len (front ++ (gone ++ back)) ≤ 1024 = rw (← c.requires.whole, ← c.self.view_is) c.self.invariant.1 in
    omega (arith, bytes-chars c.args.gone.now c.utf8.gone, middle-short front gone back (front ++ (gone ++ back)) refl short)

pub measured-requires-2 : goal.measured-requires-2
measured-requires-2 c =
    let front = chars c.args.front.now in
    let gone = chars c.args.gone.now in
    let back = chars c.args.back.now in
    let added = c.args.added.now in
    rw (c.as_str.ensures.utf8, length-encodes added) (middle-short front added back (front ++ (added ++ back)) refl c.requires.short)

pub changed-lengths-requires : goal.changed-lengths-requires
changed-lengths-requires c =
    let front = chars c.args.front.now in
    let gone = chars c.args.gone.now in
    let back = chars c.args.back.now in
    let added = c.args.added.now in
    let short : byte_len (front ++ (gone ++ back)) ≤ 1024 = rw (← c.requires.whole, ← c.self.view_is) c.self.invariant.1 in
    let small = middle-short front added back (front ++ (added ++ back)) refl c.requires.short in
    rw (c.self.invariant.0, c.self.view_is, c.requires.whole, c.measured.ensures, c.measured-2.ensures, c.as_str.ensures.characters) (may_change front gone back added short small)

pub overflow_add-bytes-2 : goal.overflow_add-bytes-2
overflow_add-bytes-2 c =
    let front = chars c.args.front.now in
    let gone = chars c.args.gone.now in
    let back = chars c.args.back.now in
    let added = c.args.added.now in
    rw (c.as_str-2.ensures.utf8, length-encodes added) (omega (arith, c.requires.short, bytes-chars c.args.front.now c.utf8.front, bytes-chars c.args.back.now c.utf8.back, byte_len-append front (added ++ back), byte_len-append added back))

pub invariant_of-result : goal.invariant_of-result
invariant_of-result c =
    let front = chars c.args.front.now in
    let gone = chars c.args.gone.now in
    let back = chars c.args.back.now in
    let added = c.args.added.now in
    let start : c.from_string-text.result ≡ [] = rw (c.from_string-text.ensures, c.in_ok-with_capacity.ensures.bytes) chars-nil in
    let one : c.push_str.new.self ≡ front = rw (c.in_ok-push_str.ensures.pushed, start) refl in
    let two : c.push_text.new.self ≡ front ++ added = rw (c.in_ok-push_text.ensures.pushed, one) refl in
    let three : c.push_str-2.new.self ≡ front ++ (added ++ back) = rw (c.in_ok-push_str-2.ensures.pushed, two) (append_assoc front added back) in
    rw three (rw (c.changed-lengths.ensures, c.self.invariant.0, c.self.view_is, c.requires.whole, c.measured.ensures, c.measured-2.ensures, c.as_str.ensures.characters) (sym (lengths-changed front gone back added)), c.requires.short)

pub returns : goal.returns
returns c =
    let front = chars c.args.front.now in
    let gone = chars c.args.gone.now in
    let back = chars c.args.back.now in
    let added = c.args.added.now in
    let start : c.from_string-text.result ≡ [] = rw (c.from_string-text.ensures, c.in_ok-with_capacity.ensures.bytes) chars-nil in
    let one : c.push_str.new.self ≡ front = rw (c.in_ok-push_str.ensures.pushed, start) refl in
    let two : c.push_text.new.self ≡ front ++ added = rw (c.in_ok-push_text.ensures.pushed, one) refl in
    rw (c.in_ok-push_str-2.ensures.pushed, two) (append_assoc front added back)
