-- Loops that write the items of a list, and parts that are written one after the other.
use Rattle.std.proofs.Common.{◌≡◌, ℕ, suc, ◌+◌, ◌<◌, ◌≤◌, List, [], ◌∷◌, ◌++◌, Option, Some, None, Result, Ok, Err, OnOk, codes, length, drop, get_or, refl, sym, ap, ◌∙◌, subst, add-one}
use Rattle.std.proofs.Math.Seq.{drop-cons}
use Rattle.std.proofs.lemmas.List.{drop_all}
use Rattle.std.specs.List.{AllByRecursion}
use Rattle.std.specs.Str.{encode_utf8_all}
use Rattle.json.specs.Token.{Token}
use Rattle.serde_json.specs.Data.{Data, Members}
use Rattle.serde_json.specs.View.{items_of}
use Rattle.json_rpc.specs.Response.{note_data}
use Rattle.json_rpc.specs.Tokens.{value_then, items_then, members_then, Adds}
use Rattle.view_update.specs.Written.{after_member}
use Rattle.view_update.specs.Parts.{each_then, member_then, note_begun}

-- the tokens written so far, and those of the items from i on, are those of all items after what stood before the loop; and all items are
-- as they should be where those from i on are
pub record Put {A : Type 0} (give : List A → List Data) (P : A → Type 0) (items : List A) (i : ℕ) (start now : List Token) : Type 0 where
  pub tokens : (more : List Token) → now ++ each_then (give (drop i items)) more ≡ start ++ each_then (give items) more
  pub fair : AllByRecursion P (drop i items) → AllByRecursion P items

pub Put-none : {A : Type 0} (give : List A → List Data) (P : A → Type 0) (items : List A) (start : List Token) → Put give P items 0 start start
Put-none give P items start = record { tokens = λ more. refl; fair = λ all. all }

-- the item at i, and those after it
next : {A : Type 0} (items : List A) (i : ℕ) (x : A) → i < length items → x ≡ get_or items i x → drop i items ≡ x ∷ drop (i + 1) items
next items i x below is = drop-cons items i x below ∙ ap (λ y. y ∷ drop (suc i) items) (sym is) ∙ ap (λ j. x ∷ drop j items) (sym (add-one i))

pub Put-next : {A : Type 0} (give : List A → List Data) (P : A → Type 0) (items : List A) (i : ℕ) (start now new : List Token) (x : A) (then : List Token → List Token)
    → Put give P items i start now → i < length items → x ≡ get_or items i x → P x → Adds now new then
    → ((more : List Token) → each_then (give (x ∷ drop (i + 1) items)) more ≡ then (each_then (give (drop (i + 1) items)) more))
    → Put give P items (i + 1) start new
Put-next give P items i start now new x then h below is fair adds gives =
    let step = next items i x below is in
    record {
      tokens = λ more.
          adds (each_then (give (drop (i + 1) items)) more)
          ∙ ap (λ ts. now ++ ts) (sym (gives more) ∙ ap (λ xs. each_then (give xs) more) (sym step))
          ∙ h.tokens more;
      fair = λ all. h.fair (subst (AllByRecursion P) (sym step) (fair, all));
    }

pub Put-tokens : {A : Type 0} (give : List A → List Data) (P : A → Type 0) (items : List A) (i : ℕ) (start now : List Token)
    → give [] ≡ [] → Put give P items i start now → length items ≤ i → Adds start now (each_then (give items))
Put-tokens give P items i start now none h end = λ more. ap (λ ds. now ++ each_then ds more) (sym (ap give (drop_all i items end) ∙ none)) ∙ h.tokens more

pub Put-fair : {A : Type 0} (give : List A → List Data) (P : A → Type 0) (items : List A) (i : ℕ) (start now : List Token)
    → Put give P items i start now → length items ≤ i → AllByRecursion P items
Put-fair give P items i start now h end = h.fair (subst (AllByRecursion P) (sym (drop_all i items end)) tt)

-- items and the bracket that closes them
pub each_then-list : (ds : List Data) (more : List Token) → each_then ds (Token.end_array ∷ more) ≡ items_then (items_of ds) more
each_then-list [] more = refl
each_then-list (d ∷ ds) more = ap (value_then d) (each_then-list ds more)

-- what is written first, and then
pub Adds-then : (a b c : List Token) (f g : List Token → List Token) → Adds a b f → Adds b c g → Adds a c (λ more. f (g more))
Adds-then a b c f g p q = λ more. q more ∙ p (g more)

pub Adds-same : (a b : List Token) (f g : List Token → List Token) → Adds a b f → ((more : List Token) → f more ≡ g more) → Adds a b g
Adds-same a b f g p same = λ more. p more ∙ ap (λ ts. a ++ ts) (same more)

-- a member that stands before others, where there is a value for it
pub member_then-after : (name : List ℕ) (value : Option Data) (ms : Members) (more : List Token) → member_then name value (members_then ms more) ≡ members_then (after_member name value ms) more
member_then-after name None ms more = refl
member_then-after name (Some d) ms more = refl

-- what follows from a success
pub OnOk-gives : {X E : Type 0} (P Q : Type 0) (r : Result X E) → (P → Q) → OnOk r P → OnOk r Q
OnOk-gives P Q (Ok x) more p = more p
OnOk-gives P Q (Err e) more p = tt

-- the tokens of a begun note, of its params and of its end are those of the note
pub note_tokens : (method : List ℕ) (params : Data) (begun grown all : List Token) → encode_utf8_all method ≡ method → Adds [] begun (note_begun method) → Adds begun grown (value_then params)
    → all ≡ grown ++ Token.end_object ∷ [] → all ≡ value_then (note_data method params) []
note_tokens method params begun grown all same first then end =
    end
    ∙ then (Token.end_object ∷ [])
    ∙ first (value_then params (Token.end_object ∷ []))
    ∙ ap (λ text. note_begun text (value_then params (Token.end_object ∷ []))) (sym same)

-- the names of the four notes are ASCII
pub ascii_names : (encode_utf8_all (codes "update") ≡ codes "update") × (encode_utf8_all (codes "scroll_to") ≡ codes "scroll_to") × (encode_utf8_all (codes "alert") ≡ codes "alert")
    × (encode_utf8_all (codes "def_style") ≡ codes "def_style")
unfolding lib.Utf8.encode
ascii_names = (refl, refl, refl, refl)
