-- The tokens of a value print as its text.
use Rattle.std.proofs.Common.{◌≡◌, ◌≤◌, ℕ, List, [], ◌∷◌, ◌++◌, false, pos, negsuc, ℤ, IsUtf8, refl, sym, ap, ◌∙◌, append_assoc, append-nil}
use Rattle.std.proofs.lemmas.Str.{IsUtf8-append}
use Rattle.std.specs.Fmt.{signed_decimal}
use Rattle.json.specs.Print.{print}
use Rattle.json.specs.Token.{Token}
use Rattle.json.specs.Tree.{json_tokens, items_tokens, members_tokens}
use Rattle.json.proofs.Printed.Utf8.{IsUtf8-are_ascii}
use Rattle.serde_json.specs.Data.{Data, null, boolean, number, string, array, object, Items, no_items, item, Members, no_members, member, depth}
use Rattle.serde_json.specs.Find.{of_integer}
use Rattle.serde_json.specs.Read.{read, max_depth}
use Rattle.serde_json.specs.Written.{number_text, has_float, outline, items_outline, members_outline, compact_text}
use Rattle.serde_json.proofs.Texts.{print-outline}
use Rattle.json_rpc.specs.Line.{IsLineOf}
use Rattle.json_rpc.specs.Proper.{IsProper}
use Rattle.json_rpc.proofs.Lines.{IsLineOf-text}
use Rattle.json_rpc.proofs.Proper.{read-compact_text}
use Rattle.json_rpc.specs.Tokens.{value_then, items_then, members_then, Adds}

mutual
  value_then-outline : (d : Data) (more : List Token) → value_then d more ≡ json_tokens (outline d) ++ more
  value_then-outline null more = refl
  value_then-outline (boolean b) more = refl
  value_then-outline (number n) more = refl
  value_then-outline (string s) more = refl
  value_then-outline (array ds) more = ap (λ ts. Token.begin_array ∷ ts) (items_then-outline ds more)
  value_then-outline (object ms) more = ap (λ ts. Token.begin_object ∷ ts) (members_then-outline ms more)

  items_then-outline : (ds : Items) (more : List Token) → items_then ds more ≡ items_tokens (items_outline ds) ++ more
  items_then-outline no_items more = refl
  items_then-outline (item d ds) more =
      value_then-outline d (items_then ds more)
      ∙ ap (λ ts. json_tokens (outline d) ++ ts) (items_then-outline ds more)
      ∙ sym (append_assoc (json_tokens (outline d)) (items_tokens (items_outline ds)) more)

  members_then-outline : (ms : Members) (more : List Token) → members_then ms more ≡ members_tokens (members_outline ms) ++ more
  members_then-outline no_members more = refl
  members_then-outline (member k d ms) more =
      ap (λ ts. Token.key k ∷ ts)
      (value_then-outline d (members_then ms more)
      ∙ ap (λ ts. json_tokens (outline d) ++ ts) (members_then-outline ms more)
      ∙ sym (append_assoc (json_tokens (outline d)) (members_tokens (members_outline ms)) more))

pub print-value_then : (d : Data) → print (value_then d []) ≡ compact_text d
print-value_then d = ap print (value_then-outline d [] ∙ append-nil (json_tokens (outline d))) ∙ print-outline d

-- a text and the LF that ends its line
pub IsUtf8-ended : (text : List ℕ) → IsUtf8 text → IsUtf8 (text ++ 10 ∷ [])
IsUtf8-ended text utf8 = IsUtf8-append text (10 ∷ []) utf8 (IsUtf8-are_ascii (10 ∷ []) refl)

-- bytes that are a text after nothing, and then LF
pub ended_after : (before text bytes ended : List ℕ) → before ≡ [] → bytes ≡ before ++ text → ended ≡ bytes ++ 10 ∷ [] → ended ≡ text ++ 10 ∷ []
ended_after before text bytes ended none is ends = ends ∙ ap (λ all. all ++ 10 ∷ []) (is ∙ ap (λ first. first ++ text) none)

-- so their print with LF is the line of the value
pub IsLineOf-value_then : (d : Data) (ts : List Token) (line : List ℕ) → ts ≡ value_then d [] → IsProper d → has_float d ≡ false → depth d ≤ max_depth → IsUtf8 (print ts)
    → line ≡ print ts ++ 10 ∷ [] → IsLineOf d line
IsLineOf-value_then d ts line is h whole shallow utf8 ends =
    let same : print ts ≡ compact_text d = ap print is ∙ print-value_then d in
    IsLineOf-text d (print ts) line same utf8 (ap read same ∙ read-compact_text d h whole shallow) ends

-- the text of a whole number
pub whole_text : (z : ℤ) → number_text (of_integer z) ≡ signed_decimal z
whole_text (pos n) = refl
whole_text (negsuc n) = refl

-- tokens that are put at the end stand before more
pub Adds-pushed : (old new ts : List Token) → new ≡ old ++ ts → Adds old new (λ more. ts ++ more)
Adds-pushed old new ts e = λ more. ap (λ all. all ++ more) e ∙ append_assoc old ts more
