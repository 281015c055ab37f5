use Rattle.std.proofs.Common.{◌≡◌, ◌+◌, ◌-◌, ◌^◌, ◌<◌, arith, length}
use Rattle.match_index.specs.Inner.{strides_under}
use Rattle.match_index.specs.Strides.{span}
use Rattle.match_index.proofs.EditedLemmas.{edit-after, edit-behind, edit-inside, edit-ordered, edit-past, last-fits, last-has, next-fit, next-has, number-fits}
use Rattle.match_index.proofs.edit.Edit.joined.Goals as goal

pub edited-requires-clause-fits : goal.edited-requires-clause-fits
edited-requires-clause-fits c =
    let count : c.len.result ≡ length (strides_under c.args.self.now.strides.now) = c.len.ensures in
    let small : length c.args.self.now.after.now < 2 ^ 64 = omega (arith, c.len-after.ensures.count, c.len-after.type_inv) in
    last-fits c.args.self.now c.args.index c.args.walked.now c.args.rest c.requires.editing c.requires.begun c.requires.walked c.requires.met
    (omega (arith, count, c.if-rest-len.true)) small

pub returns-then-rest-len : goal.returns-then-rest-len
returns-then-rest-len c =
    let count : c.len.result ≡ length (strides_under c.args.self.now.strides.now) = c.len.ensures in
    last-has c.args.self.now c.args.index c.args.walked.now c.args.rest c.requires.editing c.requires.begun c.requires.walked c.requires.met
    (omega (arith, count, c.if-rest-len.true)) (strides_under c.in_ok-made.made) c.in_ok-made.ensures

pub overflow_add-next : goal.overflow_add-next
overflow_add-next c =
    let count : c.len.result ≡ length (strides_under c.args.self.now.strides.now) = c.len.ensures in
    let long : c.len-before.result ≡ length c.args.self.now.before.now = c.len-before.ensures.count in
    omega (
      arith,
      long,
      c.len-before.type_inv,
      edit-inside c.args.self.now c.args.index c.args.walked.now c.args.rest c.requires.editing c.requires.begun c.requires.walked c.requires.met
          c.stride_at.result c.stride_at.ensures (omega (arith, count, c.if-rest-len.false)),
    )

pub overflow_sub-end : goal.overflow_sub-end
overflow_sub-end c =
    let count : c.len.result ≡ length (strides_under c.args.self.now.strides.now) = c.len.ensures in
    edit-past c.args.self.now c.args.index c.args.walked.now c.args.rest c.requires.editing c.requires.begun c.requires.walked c.requires.met
    c.stride_at.result c.stride_at.ensures (omega (arith, count, c.if-rest-len.false))

pub overflow_add-end : goal.overflow_add-end
overflow_add-end c =
    let count : c.len.result ≡ length (strides_under c.args.self.now.strides.now) = c.len.ensures in
    let small : length c.args.self.now.after.now < 2 ^ 64 = omega (arith, c.len-after.ensures.count, c.len-after.type_inv) in
    let inside =
    edit-after c.args.self.now c.args.index c.args.walked.now c.args.rest c.requires.editing c.requires.begun c.requires.walked c.requires.met
    c.stride_at.result c.stride_at.ensures (omega (arith, count, c.if-rest-len.false)) in
    omega (arith, inside, small)

pub last-requires : goal.last-requires
last-requires c =
    let count : c.len.result ≡ length (strides_under c.args.self.now.strides.now) = c.len.ensures in
    let small : length c.args.self.now.after.now < 2 ^ 64 = omega (arith, c.len-after.ensures.count, c.len-after.type_inv) in
    omega (
      arith,
      c.requires.walked.inside,
      small,
      edit-behind c.args.self.now c.args.index c.args.walked.now c.args.rest c.requires.editing c.requires.begun c.requires.walked c.requires.met
          c.stride_at.result c.stride_at.ensures (omega (arith, count, c.if-rest-len.false)),
      edit-after c.args.self.now c.args.index c.args.walked.now c.args.rest c.requires.editing c.requires.begun c.requires.walked c.requires.met
          c.stride_at.result c.stride_at.ensures (omega (arith, count, c.if-rest-len.false)),
    )

pub overflow_sub-number : goal.overflow_sub-number
overflow_sub-number c =
    let count : c.len.result ≡ length (strides_under c.args.self.now.strides.now) = c.len.ensures in
    let behind =
    edit-behind c.args.self.now c.args.index c.args.walked.now c.args.rest c.requires.editing c.requires.begun c.requires.walked c.requires.met
    c.stride_at.result c.stride_at.ensures (omega (arith, count, c.if-rest-len.false)) in
    omega (arith, behind, c.last.ensures)

pub put-requires : goal.put-requires
put-requires c =
    let count : c.len.result ≡ length (strides_under c.args.self.now.strides.now) = c.len.ensures in
    let small : length c.args.self.now.after.now < 2 ^ 64 = omega (arith, c.len-after.ensures.count, c.len-after.type_inv) in
    let behind =
    edit-behind c.args.self.now c.args.index c.args.walked.now c.args.rest c.requires.editing c.requires.begun c.requires.walked c.requires.met
    c.stride_at.result c.stride_at.ensures (omega (arith, count, c.if-rest-len.false)) in
    let ends :
    c.args.walked.now.from + span (strides_under c.args.walked.now.strides) + (c.args.self.now.new + (c.args.rest.end + c.stride_at.result - c.args.self.now.old) - c.last.result) ≡
    c.args.self.now.new + (c.args.rest.end + c.stride_at.result - c.args.self.now.old) = omega (arith, behind, c.last.ensures) in
    number-fits c.args.self.now c.args.index c.args.walked.now c.args.rest c.requires.editing c.requires.begun c.requires.walked c.requires.met
    c.stride_at.result c.stride_at.ensures (omega (arith, count, c.if-rest-len.false))
    (c.args.self.now.new + (c.args.rest.end + c.stride_at.result - c.args.self.now.old) - c.last.result) ends small

pub edited-requires-2-clause-ordered : goal.edited-requires-2-clause-ordered
edited-requires-2-clause-ordered c =
    omega (
      arith,
      edit-ordered c.args.self.now c.args.index c.args.walked.now c.args.rest c.requires.editing c.requires.begun c.requires.walked c.requires.met,
    )

pub edited-requires-2-clause-fits : goal.edited-requires-2-clause-fits
edited-requires-2-clause-fits c =
    let count : c.len.result ≡ length (strides_under c.args.self.now.strides.now) = c.len.ensures in
    let small : length c.args.self.now.after.now < 2 ^ 64 = omega (arith, c.len-after.ensures.count, c.len-after.type_inv) in
    let behind =
    edit-behind c.args.self.now c.args.index c.args.walked.now c.args.rest c.requires.editing c.requires.begun c.requires.walked c.requires.met
    c.stride_at.result c.stride_at.ensures (omega (arith, count, c.if-rest-len.false)) in
    let ends :
    c.args.walked.now.from + span (strides_under c.args.walked.now.strides) + (c.args.self.now.new + (c.args.rest.end + c.stride_at.result - c.args.self.now.old) - c.last.result) ≡
    c.args.self.now.new + (c.args.rest.end + c.stride_at.result - c.args.self.now.old) = omega (arith, behind, c.last.ensures) in
    next-fit c.args.self.now c.args.index c.args.walked.now c.args.rest c.requires.editing c.requires.begun c.requires.walked c.requires.met
    c.stride_at.result c.stride_at.ensures (omega (arith, count, c.if-rest-len.false))
    (c.args.self.now.new + (c.args.rest.end + c.stride_at.result - c.args.self.now.old) - c.last.result) ends (strides_under c.put.new.tree) c.in_ok-put.ensures small

pub returns : goal.returns
returns c =
    let count : c.len.result ≡ length (strides_under c.args.self.now.strides.now) = c.len.ensures in
    let behind =
    edit-behind c.args.self.now c.args.index c.args.walked.now c.args.rest c.requires.editing c.requires.begun c.requires.walked c.requires.met
    c.stride_at.result c.stride_at.ensures (omega (arith, count, c.if-rest-len.false)) in
    let ends :
    c.args.walked.now.from + span (strides_under c.args.walked.now.strides) + (c.args.self.now.new + (c.args.rest.end + c.stride_at.result - c.args.self.now.old) - c.last.result) ≡
    c.args.self.now.new + (c.args.rest.end + c.stride_at.result - c.args.self.now.old) = omega (arith, behind, c.last.ensures) in
    next-has c.args.self.now c.args.index c.args.walked.now c.args.rest c.requires.editing c.requires.begun c.requires.walked c.requires.met
    c.stride_at.result c.stride_at.ensures (omega (arith, count, c.if-rest-len.false))
    (c.args.self.now.new + (c.args.rest.end + c.stride_at.result - c.args.self.now.old) - c.last.result) ends (strides_under c.put.new.tree)
    (strides_under c.in_ok-made-2.made) c.in_ok-put.ensures c.in_ok-made-2.ensures
