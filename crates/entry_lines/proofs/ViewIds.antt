-- Two numbers have two ids.
use Rattle.std.proofs.Common.{IsAscii, [], ◌∷◌, codes, decimal, arith}
use Rattle.std.proofs.lemmas.List.{append_cancel_left}
use Rattle.std.proofs.lemmas.Fmt.{decimal_injective, IsAscii-decimal}
use Rattle.std.proofs.lemmas.Str.{IsAscii-append}
use Rattle.std.proofs.lemmas.Str.Ascii.{IsAscii-cons, IsAscii-nil}
use Rattle.entry_lines.specs.Laws.{ViewIdsDiffer}

-- the name before the number
pub IsAscii-name : IsAscii (118 ∷ 105 ∷ 101 ∷ 119 ∷ 45 ∷ 105 ∷ 100 ∷ 45 ∷ [])
IsAscii-name =
    IsAscii-cons 118 (105 ∷ 101 ∷ 119 ∷ 45 ∷ 105 ∷ 100 ∷ 45 ∷ []) (omega arith)
    (IsAscii-cons 105 (101 ∷ 119 ∷ 45 ∷ 105 ∷ 100 ∷ 45 ∷ []) (omega arith)
    (IsAscii-cons 101 (119 ∷ 45 ∷ 105 ∷ 100 ∷ 45 ∷ []) (omega arith)
    (IsAscii-cons 119 (45 ∷ 105 ∷ 100 ∷ 45 ∷ []) (omega arith)
    (IsAscii-cons 45 (105 ∷ 100 ∷ 45 ∷ []) (omega arith)
    (IsAscii-cons 105 (100 ∷ 45 ∷ []) (omega arith)
    (IsAscii-cons 100 (45 ∷ []) (omega arith)
    (IsAscii-cons 45 [] (omega arith) IsAscii-nil)))))))

pub view_ids_differ : ViewIdsDiffer
view_ids_differ = record {
  apart = λ m n small less same. decimal_injective m n small less (append_cancel_left (codes "view-id-") (decimal m) (decimal n) same);
  ascii = λ n small. IsAscii-append (codes "view-id-") (decimal n) IsAscii-name (IsAscii-decimal n small);
}
