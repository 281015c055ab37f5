-- The text of a proper value with no float: it is UTF-8 without a line feed, and it reads as the value.
use Rattle.std.proofs.Common.{◌≡◌, ◌≢◌, ℕ, zero, suc, ◌+◌, ◌/◌, ◌%◌, ◌<◌, ◌≤◌, pos, negsuc, List, [], ◌∷◌, ◌++◌, Bool, true, false, cond, ◌==◌, Option, Some, option_map, option_and_then, decimal, IsUtf8, Greater, nat_cmp, refl, sym, ap, ◌∙◌, subst, arith, append-nil, ne_eqb, inl, inr, ◌&&◌}
use Rattle.std.proofs.lemmas.Bool.{cases_lt, cases_eq, and_parts, or_parts, eq-eqb, false≢true}
use Rattle.std.proofs.lemmas.Cmp.{nat_list_cmp_total}
use Rattle.std.proofs.lemmas.Fmt.{IsAscii-decimal, IsAscii-signed}
use Rattle.std.proofs.lemmas.Str.{IsUtf8-append, IsUtf8-from_ascii}
use Rattle.std.specs.Cmp.Lexicographic.{slice_cmp}
use Rattle.std.specs.Fmt.{digits, digits_onto, digit_glyph}
use Rattle.std.specs.Ordering.{ordering_reverse}
use Rattle.std.specs.Prelude.{⊤}
use Rattle.json.specs.Json as json
use Rattle.json.specs.Lex.{tokens}
use Rattle.json.specs.Print.{escape_byte, escape, quoted, token_text, IsNumber}
use Rattle.json.specs.Token.{Token}
use Rattle.json.specs.Tree as tree
use Rattle.json.proofs.Printed.Decimals.{IsNumber-decimal, IsNumber-signed_decimal}
use Rattle.json.proofs.Printed.Strings.{escape_byte_plain}
use Rattle.json.proofs.Printed.Tokens.{tokens-print}
use Rattle.json.proofs.Printed.Trees.{value-json_tokens, ArePrintable-json_tokens}
use Rattle.json.proofs.Printed.Utf8.{IsUtf8-are_ascii, IsUtf8-quoted, IsUtf8-boolean}
use Rattle.serde_json.specs.Data.{Num, unsigned, negative, float, Data, null, boolean, number, string, array, object, Items, no_items, item, Members, no_members, member, put, depth, items_depth, members_depth}
use Rattle.serde_json.specs.Find.{is_float}
use Rattle.serde_json.specs.Read.{number_of, of_json, of_items, of_members, read, max_depth}
use Rattle.serde_json.specs.Written.{number_text, outline, items_outline, members_outline, has_float, items_have_float, members_have_float, comma_if, compact_text, items_text, members_text}
use Rattle.serde_json.proofs.Numbers.{number_of-decimal, number_of-negative}
use Rattle.serde_json.proofs.Texts.{print-outline}
use Rattle.json_rpc.specs.Proper.{IsProperNumber, IsBelow, IsProper, AreProper, HasProper}
use Rattle.json_rpc.specs.Line.{HasNoLf}

-- ---- it reads as the value

number_of-number_text : (n : Num) → IsProperNumber n → is_float n ≡ false → number_of (number_text n) ≡ Some n
number_of-number_text (unsigned n) h whole = number_of-decimal n h
number_of-number_text (negative (pos n)) h whole = absurd h
number_of-number_text (negative (negsuc n)) h whole = number_of-negative n h
number_of-number_text (float x) h whole = cc

IsNumber-number_text : (n : Num) → IsProperNumber n → is_float n ≡ false → IsNumber (number_text n)
IsNumber-number_text (unsigned n) h whole = IsNumber-decimal n h
IsNumber-number_text (negative (pos n)) h whole = absurd h
IsNumber-number_text (negative (negsuc n)) h whole = IsNumber-signed_decimal (negsuc n) h
IsNumber-number_text (float x) h whole = cc

-- the members of `found`, and then these
abbrev join : Members → Members → Members
join no_members ms = ms
join (member k d found) ms = member k d (join found ms)

-- each name of `found` is below each name of ms
abbrev AreBelow : Members → Members → Type 0
AreBelow no_members ms = ⊤
AreBelow (member k d found) ms = IsBelow k ms × AreBelow found ms

-- a name that is above all others goes last
put_last : (found : Members) (k : List ℕ) (d : Data) (ms : Members) → AreBelow found (member k d ms) → put k d found ≡ join found (member k d no_members)
put_last no_members k d ms h = refl
put_last (member l e found) k d ms h =
    let above : slice_cmp nat_cmp k l ≡ Greater = nat_list_cmp_total.antisymm k l ∙ ap ordering_reverse h.0.0 in
    rw above (ap (member l e) (put_last found k d ms h.1))

AreBelow-join : (found : Members) (k : List ℕ) (d : Data) (ms : Members) → AreBelow found (member k d ms) → IsBelow k ms → AreBelow (join found (member k d no_members)) ms
AreBelow-join no_members k d ms h below = (below, tt)
AreBelow-join (member l e found) k d ms h below = (h.0.1, AreBelow-join found k d ms h.1 below)

join-join : (found : Members) (k : List ℕ) (d : Data) (ms : Members) → join (join found (member k d no_members)) ms ≡ join found (member k d ms)
join-join no_members k d ms = refl
join-join (member l e found) k d ms = ap (member l e) (join-join found k d ms)

join-no_members : (found : Members) → join found no_members ≡ found
join-no_members no_members = refl
join-no_members (member k d found) = ap (member k d) (join-no_members found)

mutual
  of_json-outline : (d : Data) → IsProper d → has_float d ≡ false → of_json (outline d) ≡ Some d
  of_json-outline null h whole = refl
  of_json-outline (boolean b) h whole = refl
  of_json-outline (number n) h whole = ap (option_map number) (number_of-number_text n h whole)
  of_json-outline (string s) h whole = refl
  of_json-outline (array ds) h whole = ap (option_map array) (of_items-outline ds h whole)
  of_json-outline (object ms) h whole = ap (option_map object) (of_members-outline ms no_members h whole tt)

  of_items-outline : (ds : Items) → AreProper ds → items_have_float ds ≡ false → of_items (items_outline ds) ≡ Some ds
  of_items-outline no_items h whole = refl
  of_items-outline (item d ds) h whole = let parts = or_parts (has_float d) _ whole in
      ap (option_and_then (λ e. option_map (item e) (of_items (items_outline ds)))) (of_json-outline d h.0 parts.0)
      ∙ ap (option_map (item d)) (of_items-outline ds h.1 parts.1)

  of_members-outline : (ms found : Members) → HasProper ms → members_have_float ms ≡ false → AreBelow found ms → of_members (members_outline ms) found ≡ Some (join found ms)
  of_members-outline no_members found h whole below = ap Some (sym (join-no_members found))
  of_members-outline (member k d ms) found h whole below = let parts = or_parts (has_float d) _ whole in
      ap (option_and_then (λ e. of_members (members_outline ms) (put k e found))) (of_json-outline d h.1 parts.0)
      ∙ ap (of_members (members_outline ms)) (put_last found k d ms below)
      ∙ of_members-outline ms (join found (member k d no_members)) h.3 parts.1 (AreBelow-join found k d ms below h.2)
      ∙ ap Some (join-join found k d ms)

mutual
  depth-outline : (d : Data) → tree.depth (outline d) ≡ depth d
  depth-outline null = refl
  depth-outline (boolean b) = refl
  depth-outline (number n) = refl
  depth-outline (string s) = refl
  depth-outline (array ds) = ap suc (items_depth-outline ds)
  depth-outline (object ms) = ap suc (members_depth-outline ms)

  items_depth-outline : (ds : Items) → tree.items_depth (items_outline ds) ≡ items_depth ds
  items_depth-outline no_items = refl
  items_depth-outline (item d ds) = rw (depth-outline d, items_depth-outline ds)

  members_depth-outline : (ms : Members) → tree.members_depth (members_outline ms) ≡ members_depth ms
  members_depth-outline no_members = refl
  members_depth-outline (member k d ms) = rw (depth-outline d, members_depth-outline ms)

mutual
  HasNumbers-outline : (d : Data) → IsProper d → has_float d ≡ false → tree.HasNumbers (outline d)
  HasNumbers-outline null h whole = tt
  HasNumbers-outline (boolean b) h whole = tt
  HasNumbers-outline (number n) h whole = IsNumber-number_text n h whole
  HasNumbers-outline (string s) h whole = tt
  HasNumbers-outline (array ds) h whole = ItemsHaveNumbers-outline ds h whole
  HasNumbers-outline (object ms) h whole = MembersHaveNumbers-outline ms h whole

  ItemsHaveNumbers-outline : (ds : Items) → AreProper ds → items_have_float ds ≡ false → tree.ItemsHaveNumbers (items_outline ds)
  ItemsHaveNumbers-outline no_items h whole = tt
  ItemsHaveNumbers-outline (item d ds) h whole = let parts = or_parts (has_float d) _ whole in (HasNumbers-outline d h.0 parts.0, ItemsHaveNumbers-outline ds h.1 parts.1)

  MembersHaveNumbers-outline : (ms : Members) → HasProper ms → members_have_float ms ≡ false → tree.MembersHaveNumbers (members_outline ms)
  MembersHaveNumbers-outline no_members h whole = tt
  MembersHaveNumbers-outline (member k d ms) h whole = let parts = or_parts (has_float d) _ whole in (HasNumbers-outline d h.1 parts.0, MembersHaveNumbers-outline ms h.3 parts.1)

tokens-compact_text : (d : Data) → IsProper d → has_float d ≡ false → tokens (compact_text d) ≡ tree.json_tokens (outline d)
tokens-compact_text d h whole = ap tokens (sym (print-outline d)) ∙ tokens-print (tree.json_tokens (outline d)) (ArePrintable-json_tokens (outline d) (HasNumbers-outline d h whole))

abbrev document : Option (json.Json × List Token) → Option Data
document o = option_and_then of_json (option_and_then (λ p. json.if_last p.0 p.1) o)

pub read-compact_text : (d : Data) → IsProper d → has_float d ≡ false → depth d ≤ max_depth → read (compact_text d) ≡ Some d
read-compact_text d h whole shallow =
    let read_tokens = value-json_tokens (outline d) max_depth [] (omega (arith, depth-outline d)) in
    ap document (ap (json.value max_depth) (tokens-compact_text d h whole ∙ sym (append-nil _)) ∙ read_tokens) ∙ of_json-outline d h whole

-- ---- it is UTF-8

IsUtf8-number_text : (n : Num) → IsProperNumber n → is_float n ≡ false → IsUtf8 (number_text n)
IsUtf8-number_text (unsigned n) h whole = IsUtf8-from_ascii _ (IsAscii-decimal n h)
IsUtf8-number_text (negative (pos n)) h whole = absurd h
IsUtf8-number_text (negative (negsuc n)) h whole = IsUtf8-from_ascii _ (IsAscii-signed (negsuc n) h)
IsUtf8-number_text (float x) h whole = cc

IsUtf8-comma_if : (later : Bool) → IsUtf8 (comma_if later)
IsUtf8-comma_if true = IsUtf8-are_ascii _ refl
IsUtf8-comma_if false = IsUtf8-are_ascii _ refl

IsUtf8-after_ascii : (b : ℕ) (xs : List ℕ) → IsUtf8 (b ∷ []) → IsUtf8 xs → IsUtf8 (b ∷ xs)
IsUtf8-after_ascii b xs h k = IsUtf8-append (b ∷ []) xs h k

mutual
  pub IsUtf8-compact_text : (d : Data) → IsProper d → has_float d ≡ false → IsUtf8 (compact_text d)
  IsUtf8-compact_text null h whole = IsUtf8-are_ascii _ refl
  IsUtf8-compact_text (boolean b) h whole = IsUtf8-boolean b
  IsUtf8-compact_text (number n) h whole = IsUtf8-number_text n h whole
  IsUtf8-compact_text (string s) h whole = IsUtf8-quoted s h
  IsUtf8-compact_text (array ds) h whole = IsUtf8-after_ascii 91 _ (IsUtf8-are_ascii _ refl) (IsUtf8-items_text false ds h whole)
  IsUtf8-compact_text (object ms) h whole = IsUtf8-after_ascii 123 _ (IsUtf8-are_ascii _ refl) (IsUtf8-members_text false ms h whole)

  IsUtf8-items_text : (later : Bool) (ds : Items) → AreProper ds → items_have_float ds ≡ false → IsUtf8 (items_text later ds)
  IsUtf8-items_text later no_items h whole = IsUtf8-are_ascii _ refl
  IsUtf8-items_text later (item d ds) h whole = let parts = or_parts (has_float d) _ whole in
      IsUtf8-append (comma_if later) _ (IsUtf8-comma_if later) (IsUtf8-append (compact_text d) _ (IsUtf8-compact_text d h.0 parts.0) (IsUtf8-items_text true ds h.1 parts.1))

  IsUtf8-members_text : (later : Bool) (ms : Members) → HasProper ms → members_have_float ms ≡ false → IsUtf8 (members_text later ms)
  IsUtf8-members_text later no_members h whole = IsUtf8-are_ascii _ refl
  IsUtf8-members_text later (member k d ms) h whole = let parts = or_parts (has_float d) _ whole in
      IsUtf8-append (comma_if later) _ (IsUtf8-comma_if later)
      (IsUtf8-append (quoted k) _ (IsUtf8-quoted k h.0)
      (IsUtf8-after_ascii 58 _ (IsUtf8-are_ascii _ refl) (IsUtf8-append (compact_text d) _ (IsUtf8-compact_text d h.1 parts.0) (IsUtf8-members_text true ms h.3 parts.1))))

-- ---- it has no line feed

pub HasNoLf-append : (xs ys : List ℕ) → HasNoLf xs → HasNoLf ys → HasNoLf (xs ++ ys)
HasNoLf-append [] ys h k = k
HasNoLf-append (x ∷ xs) ys h k = (h.0, HasNoLf-append xs ys h.1 k)

glyph_is_no_lf : (small : Bool) (d : ℕ) → cond small (48 + d) (87 + d) ≢ 10
glyph_is_no_lf true d = λ e. omega arith
glyph_is_no_lf false d = λ e. omega arith

HasNoLf-cond : (b : Bool) (xs ys : List ℕ) → HasNoLf xs → HasNoLf ys → HasNoLf (cond b xs ys)
HasNoLf-cond true xs ys h k = h
HasNoLf-cond false xs ys h k = k

HasNoLf-digits_onto : (k n : ℕ) (ds : List ℕ) → HasNoLf ds → HasNoLf (digits_onto k 10 false n ds)
HasNoLf-digits_onto zero n ds h = h
HasNoLf-digits_onto (suc k) n ds h =
    let more : HasNoLf (digit_glyph false (n % 10) ∷ ds) = (glyph_is_no_lf _ (n % 10), h) in
    HasNoLf-cond (n / 10 == 0) (digit_glyph false (n % 10) ∷ ds) _ more (HasNoLf-digits_onto k (n / 10) (digit_glyph false (n % 10) ∷ ds) more)

HasNoLf-decimal : (n : ℕ) → HasNoLf (decimal n)
unfolding digits
HasNoLf-decimal n = HasNoLf-digits_onto 64 n [] tt

HasNoLf-number_text : (n : Num) → HasNoLf (number_text n)
HasNoLf-number_text (unsigned n) = HasNoLf-decimal n
HasNoLf-number_text (negative (pos n)) = HasNoLf-decimal n
HasNoLf-number_text (negative (negsuc n)) = ((λ e. omega arith), HasNoLf-decimal (suc n))
HasNoLf-number_text (float x) = tt

-- no byte of them is LF, as a test that computes
abbrev passes : List ℕ → Bool
passes [] = true
passes (x ∷ xs) = cond (x == 10) false (passes xs)

HasNoLf-passes : (xs : List ℕ) → passes xs ≡ true → HasNoLf xs
HasNoLf-passes [] e = tt
HasNoLf-passes (x ∷ xs) e = elim (cases_eq x 10) [
  | inl same ↦ absurd (false≢true (rw (eq-eqb x 10 same) at e))
  | inr other ↦ (other, HasNoLf-passes xs (rw (ne_eqb x 10 other) at e))
]

-- the escapes of the bytes below n have no LF
abbrev passes_below : ℕ → Bool
passes_below zero = true
passes_below (suc n) = passes (escape_byte n) && passes_below n

passes_escape_byte : (n : ℕ) → passes_below n ≡ true → (x : ℕ) → x < n → passes (escape_byte x) ≡ true
passes_escape_byte zero e x h = absurd (omega arith)
passes_escape_byte (suc n) e x h =
    let both = and_parts _ _ e in
    elim (cases_eq x n) [ inl same ↦ rw same both.0 | inr other ↦ passes_escape_byte n both.1 x (omega arith) ]

all_pass : passes_below 93 ≡ true
unfolding escape_byte
all_pass = refl

HasNoLf-escape_byte : (x : ℕ) → HasNoLf (escape_byte x)
HasNoLf-escape_byte x = elim (cases_lt x 93) [
  | inl small ↦ HasNoLf-passes _ (passes_escape_byte 93 all_pass x small)
  | inr large ↦
      let plain = escape_byte_plain x (λ e. omega arith) (λ e. omega arith) (omega arith) in
      subst HasNoLf (sym plain) ((λ e. omega arith), tt)
]

HasNoLf-escape : (s : List ℕ) → HasNoLf (escape s)
HasNoLf-escape [] = tt
HasNoLf-escape (x ∷ s) = HasNoLf-append (escape_byte x) (escape s) (HasNoLf-escape_byte x) (HasNoLf-escape s)

HasNoLf-quoted : (s : List ℕ) → HasNoLf (quoted s)
HasNoLf-quoted s = ((λ e. omega arith), HasNoLf-append (escape s) (34 ∷ []) (HasNoLf-escape s) ((λ e. omega arith), tt))

HasNoLf-boolean : (b : Bool) → HasNoLf (token_text (Token.boolean b))
HasNoLf-boolean true = HasNoLf-passes (token_text (Token.boolean true)) refl
HasNoLf-boolean false = HasNoLf-passes (token_text (Token.boolean false)) refl

HasNoLf-comma_if : (later : Bool) → HasNoLf (comma_if later)
HasNoLf-comma_if true = HasNoLf-passes (comma_if true) refl
HasNoLf-comma_if false = tt

mutual
  pub HasNoLf-compact_text : (d : Data) → HasNoLf (compact_text d)
  HasNoLf-compact_text null = HasNoLf-passes (compact_text null) refl
  HasNoLf-compact_text (boolean b) = HasNoLf-boolean b
  HasNoLf-compact_text (number n) = HasNoLf-number_text n
  HasNoLf-compact_text (string s) = HasNoLf-quoted s
  HasNoLf-compact_text (array ds) = ((λ e. omega arith), HasNoLf-items_text false ds)
  HasNoLf-compact_text (object ms) = ((λ e. omega arith), HasNoLf-members_text false ms)

  HasNoLf-items_text : (later : Bool) (ds : Items) → HasNoLf (items_text later ds)
  HasNoLf-items_text later no_items = HasNoLf-passes (93 ∷ []) refl
  HasNoLf-items_text later (item d ds) =
      HasNoLf-append (comma_if later) _ (HasNoLf-comma_if later) (HasNoLf-append (compact_text d) _ (HasNoLf-compact_text d) (HasNoLf-items_text true ds))

  HasNoLf-members_text : (later : Bool) (ms : Members) → HasNoLf (members_text later ms)
  HasNoLf-members_text later no_members = HasNoLf-passes (125 ∷ []) refl
  HasNoLf-members_text later (member k d ms) =
      HasNoLf-append (comma_if later) _ (HasNoLf-comma_if later)
      (HasNoLf-append (quoted k) _ (HasNoLf-quoted k)
      ((λ e. omega arith), HasNoLf-append (compact_text d) _ (HasNoLf-compact_text d) (HasNoLf-members_text true ms)))
