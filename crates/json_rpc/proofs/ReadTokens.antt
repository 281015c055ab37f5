-- The tokens of a UTF-8 text have UTF-8 texts, and so has the JSON that they are.
use Rattle.std.proofs.Common.{◌≡◌, ℕ, zero, suc, Bool, true, false, ◌&&◌, ◌==◌, nat_eq, List, [], ◌∷◌, ◌++◌, length, drop, Option, Some, None, option_and_then, IsUtf8, sym, subst, arith, append_assoc}
use Rattle.std.proofs.lemmas.Bool.{cond_both, eqb-true}
use Rattle.std.specs.List.{AllByRecursion, starts_with}
use Rattle.std.specs.Prelude.{⊤}
use Rattle.json.specs.Ascii as ascii
use Rattle.json.specs.Json as json
use Rattle.json.specs.Json.{Parse, parse_map, after_end_array, read_key, items_step, members_step, items, members, value_with, value, if_last}
use Rattle.json.specs.Lex.{Lexeme, token, comma, colon, Class, quote, backslash, operator, space, other, class, operator_lexeme, string_token, Mode, between, in_word, in_string, in_escape, lex_byte, lex, Place, fresh, after_value, after_comma, after_key, may_begin, may_close, if_allowed, place_token, punctuate, tokens}
use Rattle.json.specs.Text.{content, plain}
use Rattle.json.specs.Token.{Token, begin_object, end_object, begin_array, end_array, key, string, number, boolean, null, bad}
use Rattle.json.specs.Word.{is_operator, is_space, head, ends_word, after_number, number_before, word}
use Rattle.json_rpc.proofs.ReadTexts.{Fits, Fits-plain, around}

-- ---- lexemes

abbrev pub HasText : Token → Type 0
HasText begin_object = ⊤
HasText end_object = ⊤
HasText begin_array = ⊤
HasText end_array = ⊤
HasText (key s) = IsUtf8 s
HasText (string s) = IsUtf8 s
HasText (number s) = ⊤
HasText (boolean b) = ⊤
HasText null = ⊤
HasText bad = ⊤

abbrev LexemeHasText : Lexeme → Type 0
LexemeHasText (token t) = HasText t
LexemeHasText comma = ⊤
LexemeHasText colon = ⊤

abbrev HaveTexts : List Lexeme → Type 0
HaveTexts ls = AllByRecursion LexemeHasText ls

HasText-string_token : (o : Option (List ℕ)) → Fits [] o → HasText (string_token o)
HasText-string_token None h = tt
HasText-string_token (Some s) h = h

HasText-number_before : (t : List ℕ) (o : Option (List ℕ)) → HasText (number_before t o)
HasText-number_before t None = tt
HasText-number_before t (Some rest) = cond_both (ends_word rest) (number _) bad HasText (λ _. tt) (λ _. tt)

HasText-word : (t : List ℕ) → HasText (word t)
unfolding word
HasText-word t =
    cond_both (head t == 116) _ _ HasText (λ _. cond_both (starts_with nat_eq t ascii.true_text && ends_word (drop (length ascii.true_text) t)) (boolean true) bad HasText (λ _. tt) (λ _. tt))
    (λ _. cond_both (head t == 102) _ _ HasText (λ _. cond_both (starts_with nat_eq t ascii.false_text && ends_word (drop (length ascii.false_text) t)) (boolean false) bad HasText (λ _. tt) (λ _. tt))
    (λ _. cond_both (head t == 110) _ _ HasText (λ _. cond_both (starts_with nat_eq t ascii.null_text && ends_word (drop (length ascii.null_text) t)) null bad HasText (λ _. tt) (λ _. tt))
    (λ _. HasText-number_before t (after_number t))))

LexemeHasText-operator_lexeme : (x : ℕ) → LexemeHasText (operator_lexeme x)
LexemeHasText-operator_lexeme x =
    cond_both (x == 123) (token begin_object) _ LexemeHasText (λ _. tt)
    (λ _. cond_both (x == 125) (token end_object) _ LexemeHasText (λ _. tt)
    (λ _. cond_both (x == 91) (token begin_array) _ LexemeHasText (λ _. tt)
    (λ _. cond_both (x == 93) (token end_array) _ LexemeHasText (λ _. tt)
    (λ _. cond_both (x == 44) comma colon LexemeHasText (λ _. tt) (λ _. tt)))))

-- the class of a byte that is no quote is another
abbrev IsQuoteAt : ℕ → Class → Type 0
IsQuoteAt x quote = x ≡ 34
IsQuoteAt x backslash = ⊤
IsQuoteAt x operator = ⊤
IsQuoteAt x space = ⊤
IsQuoteAt x other = ⊤

IsQuoteAt-class : (x : ℕ) → IsQuoteAt x (class x)
IsQuoteAt-class x =
    cond_both (x == 34) quote _ (IsQuoteAt x) (λ e. eqb-true x 34 e)
    (λ _. cond_both (x == 92) backslash _ (IsQuoteAt x) (λ _. tt)
    (λ _. cond_both (is_operator x) operator _ (IsQuoteAt x) (λ _. tt) (λ _. cond_both (is_space x) space other (IsQuoteAt x) (λ _. tt) (λ _. tt))))

HaveTexts-lex_byte : (m : Mode) (c : Class) (x : ℕ) (xs : List ℕ) (k : Mode → List Lexeme) → IsQuoteAt x c → (x ≡ 34 → IsUtf8 xs) → ((next : Mode) → HaveTexts (k next)) → HaveTexts (lex_byte m c x xs k)
HaveTexts-lex_byte between quote x xs k is utf8 more = (HasText-string_token (content plain xs) (Fits-plain xs [] (utf8 is)), more in_string)
HaveTexts-lex_byte between backslash x xs k is utf8 more = (tt, more in_word)
HaveTexts-lex_byte between operator x xs k is utf8 more = (LexemeHasText-operator_lexeme x, more between)
HaveTexts-lex_byte between space x xs k is utf8 more = more between
HaveTexts-lex_byte between other x xs k is utf8 more = (HasText-word (x ∷ xs), more in_word)
HaveTexts-lex_byte in_word quote x xs k is utf8 more = more in_word
HaveTexts-lex_byte in_word backslash x xs k is utf8 more = more in_word
HaveTexts-lex_byte in_word operator x xs k is utf8 more = (LexemeHasText-operator_lexeme x, more between)
HaveTexts-lex_byte in_word space x xs k is utf8 more = more between
HaveTexts-lex_byte in_word other x xs k is utf8 more = more in_word
HaveTexts-lex_byte in_string quote x xs k is utf8 more = more between
HaveTexts-lex_byte in_string backslash x xs k is utf8 more = more in_escape
HaveTexts-lex_byte in_string operator x xs k is utf8 more = more in_string
HaveTexts-lex_byte in_string space x xs k is utf8 more = more in_string
HaveTexts-lex_byte in_string other x xs k is utf8 more = more in_string
HaveTexts-lex_byte in_escape c x xs k is utf8 more = more in_string

HaveTexts-lex : (xs before : List ℕ) (m : Mode) → IsUtf8 (before ++ xs) → HaveTexts (lex m xs)
unfolding lex
HaveTexts-lex [] before m u = tt
HaveTexts-lex (x ∷ xs) before m u =
    HaveTexts-lex_byte m (class x) x xs (λ next. lex next xs) (IsQuoteAt-class x) (λ is. (around before x xs (omega arith) u).1)
    (λ next. HaveTexts-lex xs (before ++ x ∷ []) next (subst IsUtf8 (sym (append_assoc before (x ∷ []) xs)) u))

-- ---- tokens

abbrev pub TokensHaveTexts : List Token → Type 0
TokensHaveTexts ts = AllByRecursion HasText ts

allowed : (b : Bool) (t : Token) (k : Place → List Token) (next : Place) → HasText t → ((p : Place) → TokensHaveTexts (k p)) → TokensHaveTexts (if_allowed b t k next)
allowed true t k next h more = (h, more next)
allowed false t k next h more = (tt, tt)

TokensHaveTexts-place_token : (p : Place) (t : Token) (before_colon : Bool) (k : Place → List Token) → HasText t → ((next : Place) → TokensHaveTexts (k next)) → TokensHaveTexts (place_token p t before_colon k)
TokensHaveTexts-place_token p begin_object b k h more = allowed (may_begin p) begin_object k fresh tt more
TokensHaveTexts-place_token p end_object b k h more = allowed (may_close p) end_object k after_value tt more
TokensHaveTexts-place_token p begin_array b k h more = allowed (may_begin p) begin_array k fresh tt more
TokensHaveTexts-place_token p end_array b k h more = allowed (may_close p) end_array k after_value tt more
TokensHaveTexts-place_token p (key s) b k h more = (tt, tt)
TokensHaveTexts-place_token p (string s) true k h more = allowed (may_begin p) (key s) k after_key h more
TokensHaveTexts-place_token p (string s) false k h more = allowed (may_begin p) (string s) k after_value h more
TokensHaveTexts-place_token p (number s) b k h more = allowed (may_begin p) (number s) k after_value tt more
TokensHaveTexts-place_token p (boolean v) b k h more = allowed (may_begin p) (boolean v) k after_value tt more
TokensHaveTexts-place_token p null b k h more = allowed (may_begin p) null k after_value tt more
TokensHaveTexts-place_token p bad b k h more = (tt, tt)

TokensHaveTexts-punctuate : (ls : List Lexeme) (p : Place) → HaveTexts ls → TokensHaveTexts (punctuate p ls)
unfolding punctuate
TokensHaveTexts-punctuate [] fresh h = tt
TokensHaveTexts-punctuate [] after_value h = tt
TokensHaveTexts-punctuate [] after_comma h = (tt, tt)
TokensHaveTexts-punctuate [] after_key h = (tt, tt)
TokensHaveTexts-punctuate (token t ∷ ls) fresh h = TokensHaveTexts-place_token fresh t _ _ h.0 (λ next. TokensHaveTexts-punctuate ls next h.1)
TokensHaveTexts-punctuate (token t ∷ ls) after_value h = TokensHaveTexts-place_token after_value t _ _ h.0 (λ next. TokensHaveTexts-punctuate ls next h.1)
TokensHaveTexts-punctuate (token t ∷ ls) after_comma h = TokensHaveTexts-place_token after_comma t _ _ h.0 (λ next. TokensHaveTexts-punctuate ls next h.1)
TokensHaveTexts-punctuate (token t ∷ ls) after_key h = TokensHaveTexts-place_token after_key t _ _ h.0 (λ next. TokensHaveTexts-punctuate ls next h.1)
TokensHaveTexts-punctuate (comma ∷ ls) fresh h = (tt, tt)
TokensHaveTexts-punctuate (comma ∷ ls) after_value h = TokensHaveTexts-punctuate ls after_comma h.1
TokensHaveTexts-punctuate (comma ∷ ls) after_comma h = (tt, tt)
TokensHaveTexts-punctuate (comma ∷ ls) after_key h = (tt, tt)
TokensHaveTexts-punctuate (colon ∷ ls) fresh h = (tt, tt)
TokensHaveTexts-punctuate (colon ∷ ls) after_value h = (tt, tt)
TokensHaveTexts-punctuate (colon ∷ ls) after_comma h = (tt, tt)
TokensHaveTexts-punctuate (colon ∷ ls) after_key h = TokensHaveTexts-punctuate ls fresh h.1

pub TokensHaveTexts-tokens : (text : List ℕ) → IsUtf8 text → TokensHaveTexts (tokens text)
TokensHaveTexts-tokens text u = TokensHaveTexts-punctuate (lex between text) fresh (HaveTexts-lex text [] between u)

-- ---- values

abbrev mutual
  pub JsonHasTexts : json.Json → Type 0
  JsonHasTexts json.null = ⊤
  JsonHasTexts (json.boolean b) = ⊤
  JsonHasTexts (json.number s) = ⊤
  JsonHasTexts (json.string s) = IsUtf8 s
  JsonHasTexts (json.array js) = ItemsHaveTexts js
  JsonHasTexts (json.object ms) = MembersHaveTexts ms

  pub ItemsHaveTexts : json.Items → Type 0
  ItemsHaveTexts json.no_items = ⊤
  ItemsHaveTexts (json.item j js) = JsonHasTexts j × ItemsHaveTexts js

  pub MembersHaveTexts : json.Members → Type 0
  MembersHaveTexts json.no_members = ⊤
  MembersHaveTexts (json.member k j ms) = IsUtf8 k × JsonHasTexts j × MembersHaveTexts ms

-- what was read has P, and the tokens after it have their texts
abbrev Reads : {A : Type 0} → (A → Type 0) → Option (A × List Token) → Type 0
Reads P None = ⊤
Reads P (Some p) = P p.0 × TokensHaveTexts p.1

abbrev Takes : {A : Type 0} → (A → Type 0) → Parse A → Type 0
Takes P p = (ts : List Token) → TokensHaveTexts ts → Reads P (p ts)

mapped : {A B : Type 0} (P : A → Type 0) (Q : B → Type 0) (h : A → B) → ((a : A) → P a → Q (h a)) → (o : Option (A × List Token)) → Reads P o → Reads Q (parse_map h o)
mapped P Q h k None x = tt
mapped P Q h k (Some p) x = (k p.0 x.0, x.1)

and_more : {B : Type 0} (Q : B → Type 0) (h : json.Json → B → B) → ((j : json.Json) (b : B) → JsonHasTexts j → Q b → Q (h j b)) → (more : Parse B) → Takes Q more
    → (o : Option (json.Json × List Token)) → Reads JsonHasTexts o → Reads Q (option_and_then (λ q. parse_map (h q.0) (more q.1)) o)
and_more Q h is more takes None x = tt
and_more Q h is more takes (Some q) x = mapped Q Q (h q.0) (λ b y. is q.0 b x.0 y) _ (takes q.1 x.1)

abbrev AfterEnd : Option (List Token) → Type 0
AfterEnd None = ⊤
AfterEnd (Some r) = TokensHaveTexts r

AfterEnd-after_end_array : (ts : List Token) → TokensHaveTexts ts → AfterEnd (after_end_array ts)
AfterEnd-after_end_array [] h = tt
AfterEnd-after_end_array (begin_object ∷ ts) h = tt
AfterEnd-after_end_array (end_object ∷ ts) h = tt
AfterEnd-after_end_array (begin_array ∷ ts) h = tt
AfterEnd-after_end_array (end_array ∷ ts) h = h.1
AfterEnd-after_end_array (key s ∷ ts) h = tt
AfterEnd-after_end_array (string s ∷ ts) h = tt
AfterEnd-after_end_array (number s ∷ ts) h = tt
AfterEnd-after_end_array (boolean b ∷ ts) h = tt
AfterEnd-after_end_array (null ∷ ts) h = tt
AfterEnd-after_end_array (bad ∷ ts) h = tt

abbrev KeyHasText : Option (List ℕ) → Type 0
KeyHasText None = ⊤
KeyHasText (Some k) = IsUtf8 k

Reads-read_key : (ts : List Token) → TokensHaveTexts ts → Reads KeyHasText (read_key ts)
Reads-read_key [] h = tt
Reads-read_key (begin_object ∷ ts) h = tt
Reads-read_key (end_object ∷ ts) h = (tt, h.1)
Reads-read_key (begin_array ∷ ts) h = tt
Reads-read_key (end_array ∷ ts) h = tt
Reads-read_key (key s ∷ ts) h = h
Reads-read_key (string s ∷ ts) h = tt
Reads-read_key (number s ∷ ts) h = tt
Reads-read_key (boolean b ∷ ts) h = tt
Reads-read_key (null ∷ ts) h = tt
Reads-read_key (bad ∷ ts) h = tt

module _ (p : Parse json.Json) (takes : Takes JsonHasTexts p) where
  item_turn : (more : Parse json.Items) → Takes ItemsHaveTexts more → (ts : List Token) → TokensHaveTexts ts → (o : Option (List Token)) → AfterEnd o → Reads ItemsHaveTexts (items_step p more ts o)
  item_turn more again ts h (Some r) after = (tt, after)
  item_turn more again ts h None after = and_more ItemsHaveTexts json.item (λ j b x y. (x, y)) more again (p ts) (takes ts h)

  Takes-items : (n : ℕ) → Takes ItemsHaveTexts (items p n)
  unfolding items
  Takes-items zero ts h = tt
  Takes-items (suc n) ts h = item_turn (items p n) (Takes-items n) ts h (after_end_array ts) (AfterEnd-after_end_array ts h)

  member_turn : (more : Parse json.Members) → Takes MembersHaveTexts more → (o : Option (Option (List ℕ) × List Token)) → Reads KeyHasText o → Reads MembersHaveTexts (option_and_then (λ q. members_step p more q.0 q.1) o)
  member_turn more again None h = tt
  member_turn more again (Some (None, s)) h = (tt, h.1)
  member_turn more again (Some (Some k, s)) h = and_more MembersHaveTexts (json.member k) (λ j b x y. (h.0, x, y)) more again (p s) (takes s h.1)

  Takes-members : (n : ℕ) → Takes MembersHaveTexts (members p n)
  unfolding members
  Takes-members zero ts h = tt
  Takes-members (suc n) ts h = member_turn (members p n) (Takes-members n) (read_key ts) (Reads-read_key ts h)

one_level : (a : Parse json.Items) (o : Parse json.Members) → Takes JsonHasTexts (λ ts. parse_map json.array (a ts)) → Takes JsonHasTexts (λ ts. parse_map json.object (o ts)) → Takes JsonHasTexts (value_with a o)
one_level a o p q [] h = tt
one_level a o p q (begin_object ∷ ts) h = q ts h.1
one_level a o p q (end_object ∷ ts) h = tt
one_level a o p q (begin_array ∷ ts) h = p ts h.1
one_level a o p q (end_array ∷ ts) h = tt
one_level a o p q (key s ∷ ts) h = tt
one_level a o p q (string s ∷ ts) h = h
one_level a o p q (number s ∷ ts) h = h
one_level a o p q (boolean b ∷ ts) h = h
one_level a o p q (null ∷ ts) h = h
one_level a o p q (bad ∷ ts) h = tt

pub Takes-value : (d : ℕ) → Takes JsonHasTexts (value d)
unfolding value
Takes-value zero = one_level (λ ts. None) (λ ts. None) (λ ts h. tt) (λ ts h. tt)
Takes-value (suc d) =
    one_level (λ ts. items (value d) (length ts) ts) (λ ts. members (value d) (length ts) ts)
    (λ ts h. mapped ItemsHaveTexts JsonHasTexts json.array (λ js x. x) _ (Takes-items (value d) (Takes-value d) (length ts) ts h))
    (λ ts h. mapped MembersHaveTexts JsonHasTexts json.object (λ ms x. x) _ (Takes-members (value d) (Takes-value d) (length ts) ts h))

-- the JSON that a UTF-8 text is, if it is one
abbrev pub OptionHasTexts : Option json.Json → Type 0
OptionHasTexts None = ⊤
OptionHasTexts (Some j) = JsonHasTexts j

last_has : (o : Option (json.Json × List Token)) → Reads JsonHasTexts o → OptionHasTexts (option_and_then (λ p. if_last p.0 p.1) o)
last_has None h = tt
last_has (Some (j, [])) h = h.0
last_has (Some (j, t ∷ ts)) h = tt

pub OptionHasTexts-text : (d : ℕ) (text : List ℕ) → IsUtf8 text → OptionHasTexts (option_and_then (λ p. if_last p.0 p.1) (value d (tokens text)))
OptionHasTexts-text d text u = last_has (value d (tokens text)) (Takes-value d (tokens text) (TokensHaveTexts-tokens text u))
