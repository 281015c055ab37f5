-- How long what is played of a tape may be.
use Rattle.std.proofs.Common.{◌≡◌, ℕ, zero, suc, ◌+◌, ◌-◌, ◌*◌, ◌^◌, ◌<◌, ◌≤◌, List, [], ◌∷◌, ◌++◌, length, length-append, replicate, take, drop, refl, ap, sym, ◌∙◌, arith}
use Rattle.std.specs.Prelude.{slice_range}
use Rattle.std.specs.List.{concat, flat_map}
use Rattle.std.proofs.Math.Nat.{mul-le-mul_left, mul-le-mul_right}
use Rattle.plain_text.specs.InputLines.{unended, lines_of}
use Rattle.macro_record.specs.Played.{lacking_lf, with_lf, played_of}
use Rattle.macro_record.proofs.PlayedLemmas.{flat_map-lines_of}

drop-shorter : (count : ℕ) (lines : List (List ℕ)) → length (flat_map with_lf (drop count lines)) ≤ length (flat_map with_lf lines)
drop-shorter zero lines = omega arith
drop-shorter (suc count) [] = omega arith
drop-shorter (suc count) (line ∷ lines) = omega (arith, drop-shorter count lines, length-append (with_lf line) (flat_map with_lf lines))

take-shorter : (count : ℕ) (lines : List (List ℕ)) → length (flat_map with_lf (take count lines)) ≤ length (flat_map with_lf lines)
take-shorter zero lines = omega arith
take-shorter (suc count) [] = omega arith
take-shorter (suc count) (line ∷ lines) = omega (
  arith,
  take-shorter count lines,
  length-append (with_lf line) (flat_map with_lf lines),
  length-append (with_lf line) (flat_map with_lf (take count lines)),
)

length-lacking_lf : (bytes : List ℕ) → length (lacking_lf bytes) ≤ 1
length-lacking_lf [] = omega arith
length-lacking_lf (b ∷ bytes) = omega arith

once-short : (tape : List ℕ) (from to : ℕ) → length (flat_map with_lf (slice_range (lines_of tape) from to)) ≤ length tape + 1
once-short tape from to = omega (
  arith,
  take-shorter (to - from) (drop from (lines_of tape)),
  drop-shorter from (lines_of tape),
  ap length (flat_map-lines_of tape),
  length-append tape (lacking_lf (unended [] tape)),
  length-lacking_lf (unended [] tape),
)

length-times : (bytes : List ℕ) (times : ℕ) → length (concat (replicate times bytes)) ≡ times * length bytes
length-times bytes zero = omega arith
length-times bytes (suc times) = length-append bytes (concat (replicate times bytes)) ∙ grind (arith, length-times bytes times)

-- WHAT IS PLAYED IS SHORT where the tape is, and it is not played often
pub played-short : (tape : List ℕ) (from to times : ℕ) → times * (length tape + 1) < 2 ^ 30 → length (played_of tape from to times) < 2 ^ 30
played-short tape from to times small = omega (
  arith,
  small,
  length-times (flat_map with_lf (slice_range (lines_of tape) from to)) times,
  mul-le-mul_left times (once-short tape from to),
)

-- the same, from a bound of each
pub played-short-by : (tape : List ℕ) (from to times most longest : ℕ) → times ≤ most → length tape < longest → most * longest < 2 ^ 30 →
    length (played_of tape from to times) < 2 ^ 30
played-short-by tape from to times most longest few short small =
    let shorter : length tape + 1 ≤ longest = omega (arith, short) in
    played-short tape from to times (omega (arith, small, mul-le-mul_left times shorter, mul-le-mul_right longest few))
