-- What is read is proper.
use Rattle.std.proofs.Common.{◌≡◌, ℕ, zero, suc, ◌^◌, ◌<◌, ◌≤◌, ◌&&◌, ◌==◌, nat_lt, nat_le, List, Bool, true, false, Option, Some, None, IfSome, option_map, option_and_then, IsUtf8, Ordering, Less, Equal, Greater, nat_cmp, refl, ap, ◌∙◌, subst, arith, drop, get_or}
use Rattle.std.proofs.lemmas.Bool.{cond_both, and_parts, ltb-true, leb-true}
use Rattle.std.proofs.lemmas.Cmp.{nat_list_cmp_total}
use Rattle.std.proofs.lemmas.Str.{IsUtf8-from_is_utf8}
use Rattle.std.specs.Cmp.Lexicographic.{slice_cmp}
use Rattle.std.specs.Float.{binary64, float_is_finite}
use Rattle.std.specs.Ordering.{match_ordering, ordering_reverse}
use Rattle.std.specs.Str.{is_utf8}
use Rattle.fast_float.specs.Text.{Parts, scan, digits_of, nearest, with_sign}
use Rattle.json.specs.Json as json
use Rattle.serde_json.specs.Data.{unsigned, negative, float, Data, number, array, object, item, Members, no_members, member, put}
use Rattle.serde_json.specs.Read.{is_integer, float_of, number_from, number_of, of_json, of_items, of_members, max_depth, read}
use Rattle.json_rpc.specs.Line.{without_lf, text_value, reading}
use Rattle.json_rpc.specs.Proper.{IsProperNumber, IsBelow, IsProper, AreProper, HasProper}
use Rattle.json_rpc.proofs.ReadTokens.{JsonHasTexts, ItemsHaveTexts, MembersHaveTexts, OptionHasTexts, OptionHasTexts-text}

IfSome-map : {A B : Type 0} (P : A → Type 0) (Q : B → Type 0) (h : A → B) → ((a : A) → P a → Q (h a)) → (o : Option A) → IfSome o P → IfSome (option_map h o) Q
IfSome-map P Q h k None x = tt
IfSome-map P Q h k (Some a) x = k a x

IfSome-and_then : {A B : Type 0} (P : A → Type 0) (Q : B → Type 0) (h : A → Option B) → ((a : A) → P a → IfSome (h a) Q) → (o : Option A) → IfSome o P → IfSome (option_and_then h o) Q
IfSome-and_then P Q h k None x = tt
IfSome-and_then P Q h k (Some a) x = k a x

-- ---- numbers

below_zero : (n : ℕ) → 0 < n → n ≤ 2 ^ 63 → IsProperNumber (negative (with_sign true n))
below_zero zero some fits = absurd (omega arith)
below_zero (suc n) some fits = omega arith

IsProperNumber-float_of : (sign : Bool) (p : Parts) → IfSome (float_of sign p) IsProperNumber
IsProperNumber-float_of sign p = cond_both (float_is_finite (nearest binary64 sign p)) (Some (float (nearest binary64 sign p))) None (λ o. IfSome o IsProperNumber) (λ _. tt) (λ _. tt)

IsProperNumber-number_from : (sign : Bool) (p : Parts) → IfSome (number_from sign p) IsProperNumber
IsProperNumber-number_from false p =
    cond_both (is_integer p && nat_lt (digits_of p) (2 ^ 64)) (Some (unsigned (digits_of p))) (float_of false p) (λ o. IfSome o IsProperNumber)
    (λ e. ltb-true _ _ (and_parts (is_integer p) _ e).1) (λ _. IsProperNumber-float_of false p)
IsProperNumber-number_from true p =
    cond_both (is_integer p && nat_lt 0 (digits_of p) && nat_le (digits_of p) (2 ^ 63)) (Some (negative (with_sign true (digits_of p)))) (float_of true p) (λ o. IfSome o IsProperNumber)
    (λ e.
    let whole = and_parts (is_integer p && nat_lt 0 (digits_of p)) _ e in
    below_zero (digits_of p) (ltb-true _ _ (and_parts (is_integer p) _ whole.0).1) (leb-true _ _ whole.1)) (λ _. IsProperNumber-float_of true p)

IsProperNumber-number_of : (s : List ℕ) → IfSome (number_of s) IsProperNumber
unfolding number_of
IsProperNumber-number_of s =
    cond_both (get_or s 0 0 == 45) (number_from true (scan (drop 1 s))) (number_from false (scan s)) (λ o. IfSome o IsProperNumber)
    (λ _. IsProperNumber-number_from true (scan (drop 1 s))) (λ _. IsProperNumber-number_from false (scan s))

-- ---- members

IsBelow-below : (k l : List ℕ) (ms : Members) → slice_cmp nat_cmp k l ≡ Less → IsBelow l ms → IsBelow k ms
IsBelow-below k l no_members is h = tt
IsBelow-below k l (member m d ms) is h = (nat_list_cmp_total.trans k l m is h.0, IsBelow-below k l ms is h.1)

IsBelow-match_ordering : (k : List ℕ) (o : Ordering) (a b c : Members) → IsBelow k a → IsBelow k b → IsBelow k c → IsBelow k (match_ordering o a b c)
IsBelow-match_ordering k Less a b c p q r = p
IsBelow-match_ordering k Equal a b c p q r = q
IsBelow-match_ordering k Greater a b c p q r = r

IsBelow-put : (l k : List ℕ) (d : Data) (ms : Members) → slice_cmp nat_cmp l k ≡ Less → IsBelow l ms → IsBelow l (put k d ms)
IsBelow-put l k d no_members is h = (is, tt)
IsBelow-put l k d (member m e ms) is h = IsBelow-match_ordering l (slice_cmp nat_cmp k m) _ _ _ (is, h) h (h.0, IsBelow-put l k d ms is h.1)

put_at : (o : Ordering) (k l : List ℕ) (d e : Data) (ms : Members) → slice_cmp nat_cmp k l ≡ o → IsUtf8 k → IsProper d → HasProper (member l e ms) → HasProper (put k d ms)
    → HasProper (match_ordering o (member k d (member l e ms)) (member l d ms) (member l e (put k d ms)))
put_at Less k l d e ms is u p h later = (u, p, (is, IsBelow-below k l ms is h.2), h)
put_at Equal k l d e ms is u p h later = (h.0, p, h.2, h.3)
put_at Greater k l d e ms is u p h later =
    let above : slice_cmp nat_cmp l k ≡ Less = nat_list_cmp_total.antisymm l k ∙ ap ordering_reverse is in
    (h.0, h.1, IsBelow-put l k d ms above h.2, later)

HasProper-put : (k : List ℕ) (d : Data) (ms : Members) → IsUtf8 k → IsProper d → HasProper ms → HasProper (put k d ms)
HasProper-put k d no_members u p h = (u, p, tt, tt)
HasProper-put k d (member l e ms) u p h = put_at (slice_cmp nat_cmp k l) k l d e ms refl u p h (HasProper-put k d ms u p h.3)

-- ---- values

mutual
  IsProper-of_json : (j : json.Json) → JsonHasTexts j → IfSome (of_json j) IsProper
  IsProper-of_json json.null h = tt
  IsProper-of_json (json.boolean b) h = tt
  IsProper-of_json (json.number s) h = IfSome-map IsProperNumber IsProper number (λ n x. x) (number_of s) (IsProperNumber-number_of s)
  IsProper-of_json (json.string s) h = h
  IsProper-of_json (json.array js) h = IfSome-map AreProper IsProper array (λ ds x. x) (of_items js) (AreProper-of_items js h)
  IsProper-of_json (json.object ms) h = IfSome-map HasProper IsProper object (λ ds x. x) (of_members ms no_members) (HasProper-of_members ms no_members h tt)

  AreProper-of_items : (js : json.Items) → ItemsHaveTexts js → IfSome (of_items js) AreProper
  AreProper-of_items json.no_items h = tt
  AreProper-of_items (json.item j js) h =
      IfSome-and_then IsProper AreProper _ (λ d x. IfSome-map AreProper AreProper (item d) (λ ds y. (x, y)) (of_items js) (AreProper-of_items js h.1)) (of_json j) (IsProper-of_json j h.0)

  HasProper-of_members : (ms : json.Members) (found : Members) → MembersHaveTexts ms → HasProper found → IfSome (of_members ms found) HasProper
  HasProper-of_members json.no_members found h k = k
  HasProper-of_members (json.member name j ms) found h k =
      IfSome-and_then IsProper HasProper _ (λ d x. HasProper-of_members ms (put name d found) h.2 (HasProper-put name d found h.0 x k)) (of_json j) (IsProper-of_json j h.1)

of_text : (o : Option json.Json) → OptionHasTexts o → IfSome (option_and_then of_json o) IsProper
of_text None h = tt
of_text (Some j) h = IsProper-of_json j h

IsProper-read : (text : List ℕ) → IsUtf8 text → IfSome (read text) IsProper
IsProper-read text u = of_text _ (OptionHasTexts-text max_depth text u)

IsProper-text_value : (text : List ℕ) → IfSome (text_value text) IsProper
unfolding text_value
IsProper-text_value text = cond_both (is_utf8 text) (read text) None (λ o. IfSome o IsProper) (λ e. IsProper-read text (IsUtf8-from_is_utf8 text e)) (λ _. tt)

-- what a line reads as is proper
pub IsProper-reading : (line : List ℕ) (d : Data) → reading line ≡ Some d → IsProper d
unfolding reading
IsProper-reading line d e = subst (λ o. IfSome o IsProper) e (IsProper-text_value (without_lf line))
