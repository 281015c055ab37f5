-- What the steps of a leaf come to.
use Rattle.std.proofs.Common.{◌≡◌, ⊎_elim, ℕ, ◌+◌, ◌<◌, ◌≤◌, inl, inr, Bool, true, false, List, [], ◌∷◌, ◌++◌, Ok, Err, refl, ap, ◌∙◌, arith}
use Rattle.std.specs.Prelude.{◌⊎◌, nat_lt, ◌==◌, Option, Some, None, Result, if◌then◌else◌}
use Rattle.std.specs.Char.{len_utf8}
use Rattle.std.proofs.lemmas.Str.{len_utf8_bounds}
use Rattle.std.proofs.lemmas.Bool.{ltb-true, lt-ltb, le-ltb, eqb-true, eq-eqb, ne_eqb}
use Rattle.plain_text.specs.Text.{byte_len}
use Rattle.plain_edits.specs.declared.delta.Misfit.{Misfit}
use Rattle.plain_edits.specs.Delta.{misfit_of}
use Rattle.xi_plain.specs.declared.config.Notice.{Notice}
use Rattle.plugin_mirror.specs.declared.page.Page.{Page}
use Rattle.plugin_mirror.specs.declared.fault.BookFault.{BookFault}
use Rattle.plugin_mirror.specs.declared.fault.BookFault.TheVariants.{Unread, Gap, Length}
use Rattle.plugin_mirror.specs.declared.leaf.Leaf.{Leaf}
use Rattle.plugin_mirror.specs.Leaf.{then_if_ok, text_by, unless_misfit, page_after, settled, revised, keeping, with_next, with_update, grown, finished, whole_page, completed, with_text, with_chunk}

-- ---- bytes

pub byte_len-append : (front back : List ℕ) → byte_len (front ++ back) ≡ byte_len front + byte_len back
byte_len-append [] back = omega arith
byte_len-append (c ∷ front) back = omega (arith, byte_len-append front back)

-- two fronts of one text with as many bytes are the same
pub front_same : (front back more rest : List ℕ) → front ++ back ≡ more ++ rest → byte_len front ≡ byte_len more → front ≡ more
front_same [] back [] rest same len = refl
front_same [] back (d ∷ more) rest same len = absurd (omega (arith, len, (len_utf8_bounds d).0))
front_same (c ∷ front) back [] rest same len = absurd (omega (arith, len, (len_utf8_bounds c).0))
front_same (c ∷ front) back (d ∷ more) rest same len =
    let head : c ≡ d = cc in
    let tail : front ++ back ≡ more ++ rest = cc in
    let lens : byte_len front ≡ byte_len more = omega (arith, len, ap len_utf8 head) in
    let rec = front_same front back more rest tail lens in
    cc

-- a text of no bytes is empty
pub no_bytes : (text : List ℕ) → byte_len text ≡ 0 → text ≡ []
no_bytes [] none = refl
no_bytes (c ∷ text) none = absurd (omega (arith, none, (len_utf8_bounds c).0))

-- ---- a leaf with a text of revision 0

-- the text leaves the page short, or makes it whole
abbrev pub TextOutcome : Leaf → List ℕ → Leaf → Type 0
TextOutcome leaf text new =
    ((byte_len text < leaf.len) × (new ≡ grown leaf text)) ⊎
    ((byte_len text ≡ leaf.len) × (page : Page) × (settled leaf.kept (whole_page leaf text) ≡ Ok page) × (new ≡ finished leaf page))

settled_is : (leaf new : Leaf) (made : Result Page BookFault) → then_if_ok made (λ page. Ok (finished leaf page)) ≡ Ok new →
    (page : Page) × (made ≡ Ok page) × (new ≡ finished leaf page)
settled_is leaf new (Ok page) is = (page, refl, cc)
settled_is leaf new (Err fault) is = absurd cc

-- by what the two tests say
by_tests : (short same : Bool) (leaf new : Leaf) (text : List ℕ) (made : Result Page BookFault) →
    (if short then Ok (grown leaf text) else (if same then then_if_ok made (λ page. Ok (finished leaf page)) else Err (Length (byte_len text)))) ≡ Ok new →
    ((short ≡ true) × (new ≡ grown leaf text)) ⊎ ((same ≡ true) × (page : Page) × (made ≡ Ok page) × (new ≡ finished leaf page))
by_tests true same leaf new text made is = inl (refl, cc)
by_tests false true leaf new text made is = let (page, is_made, is_new) = settled_is leaf new made is in inr (refl, page, is_made, is_new)
by_tests false false leaf new text made is = absurd cc

pub with_text-is : (leaf new : Leaf) (text : List ℕ) → with_text leaf text ≡ Ok new → TextOutcome leaf text new
with_text-is leaf new text is =
    ⊎_elim
    (λ (short : (nat_lt (byte_len text) leaf.len ≡ true) × (new ≡ grown leaf text)). inl (ltb-true (byte_len text) leaf.len short.0, short.1))
    (λ (whole : ((byte_len text == leaf.len) ≡ true) × (page : Page) × (settled leaf.kept (whole_page leaf text) ≡ Ok page) × (new ≡ finished leaf page)).
    inr (eqb-true (byte_len text) leaf.len whole.0, whole.1, whole.2, whole.3))
    (by_tests (nat_lt (byte_len text) leaf.len) (byte_len text == leaf.len) leaf new text
    (settled leaf.kept (whole_page leaf text)) is)

with_chunk_by : (here : Bool) (leaf new : Leaf) (text : List ℕ) → (if here then with_text leaf text else Err Unread) ≡ Ok new → with_text leaf text ≡ Ok new
with_chunk_by true leaf new text is = is
with_chunk_by false leaf new text is = absurd cc

pub with_chunk-is : (leaf new : Leaf) (text : List ℕ) (offset : ℕ) → with_chunk text offset leaf ≡ Ok new → TextOutcome leaf (leaf.page.text ++ text) new
with_chunk-is leaf new text offset is =
    with_text-is leaf new (leaf.page.text ++ text) (with_chunk_by (offset == byte_len leaf.page.text) leaf new (leaf.page.text ++ text) is)

-- the text, by its length
pub with_text-short : (leaf : Leaf) (text : List ℕ) → byte_len text < leaf.len → with_text leaf text ≡ Ok (grown leaf text)
with_text-short leaf text short =
    let Short : Result Leaf BookFault = Ok (grown leaf text) in
    ap (λ (b : Bool). if b then Short else (if byte_len text == leaf.len then completed leaf text else Err (Length (byte_len text))))
    (lt-ltb (byte_len text) leaf.len short)

not_short : (leaf : Leaf) (text : List ℕ) → leaf.len ≤ byte_len text →
    with_text leaf text ≡ (if byte_len text == leaf.len then completed leaf text else Err (Length (byte_len text)))
not_short leaf text long =
    let Short : Result Leaf BookFault = Ok (grown leaf text) in
    ap (λ (b : Bool). if b then Short else (if byte_len text == leaf.len then completed leaf text else Err (Length (byte_len text))))
    (le-ltb (byte_len text) leaf.len long)

pub with_text-done : (leaf : Leaf) (text : List ℕ) → byte_len text ≡ leaf.len → with_text leaf text ≡ completed leaf text
with_text-done leaf text same =
    let Done : Result Leaf BookFault = completed leaf text in
    not_short leaf text (omega (arith, same)) ∙ ap (λ (b : Bool). if b then Done else Err (Length (byte_len text))) (eq-eqb (byte_len text) leaf.len same)

pub with_text-long : (leaf : Leaf) (text : List ℕ) → leaf.len < byte_len text → with_text leaf text ≡ Err (Length (byte_len text))
with_text-long leaf text long =
    let Done : Result Leaf BookFault = completed leaf text in
    not_short leaf text (omega (arith, long)) ∙
    ap (λ (b : Bool). if b then Done else Err (Length (byte_len text))) (ne_eqb (byte_len text) leaf.len (omega (arith, long)))

-- ---- a page after updates is whole

of_length_by : (same : Bool) (page : Page) (whole : Page) (got : ℕ) → whole.whole ≡ true → (if same then Ok whole else Err (Length got)) ≡ Ok page → page.whole ≡ true
of_length_by true page whole got is made = cc
of_length_by false page whole got is made = absurd cc

page_after_by : (misfit : Option Misfit) (notice : Notice) (text : List ℕ) (page : Page) → unless_misfit misfit notice text ≡ Ok page → page.whole ≡ true
page_after_by (Some misfit) notice text page made = absurd cc
page_after_by None notice text page made =
    let new = text_by text notice.delta in
    of_length_by (byte_len new == notice.new_len) page (record { rev = notice.rev; whole = true; text = new }) (byte_len new) refl made

pub page_after-whole : (page after : Page) (notice : Notice) → page_after page notice ≡ Ok after → after.whole ≡ true
page_after-whole page after notice made = page_after_by (misfit_of page.text notice.delta) notice page.text after made

settled_by : (notices : List Notice) (made : Result Page BookFault) (after : Page) → ((page : Page) → made ≡ Ok page → page.whole ≡ true) →
    ((page : Page) → page.whole ≡ true → settled notices page ≡ Ok after → after.whole ≡ true) →
    then_if_ok made (settled notices) ≡ Ok after → after.whole ≡ true
settled_by notices (Ok page) after whole later is = later page (whole page refl) is
settled_by notices (Err fault) after whole later is = absurd cc

pub settled-whole : (notices : List Notice) (page after : Page) → page.whole ≡ true → settled notices page ≡ Ok after → after.whole ≡ true
settled-whole [] page after whole is = cc
settled-whole (notice ∷ notices) page after whole is =
    settled_by notices (page_after page notice) after (λ next made. page_after-whole page next notice made)
    (λ next is_whole rest. settled-whole notices next after is_whole rest) is

-- ---- a leaf after an update

-- the update is applied to a whole page, or kept
abbrev pub UpdateOutcome : Notice → Leaf → Leaf → Type 0
UpdateOutcome notice leaf new =
    ((leaf.page.whole ≡ true) × (page : Page) × (page_after leaf.page notice ≡ Ok page) × (new ≡ revised leaf notice page)) ⊎
    ((leaf.page.whole ≡ false) × (new ≡ keeping leaf notice))

revised_is : (leaf new : Leaf) (notice : Notice) (made : Result Page BookFault) → then_if_ok made (λ page. Ok (revised leaf notice page)) ≡ Ok new →
    (page : Page) × (made ≡ Ok page) × (new ≡ revised leaf notice page)
revised_is leaf new notice (Ok page) is = (page, refl, cc)
revised_is leaf new notice (Err fault) is = absurd cc

next_by : (whole : Bool) (leaf new : Leaf) (notice : Notice) (made : Result Page BookFault) →
    (if whole then then_if_ok made (λ page. Ok (revised leaf notice page)) else Ok (keeping leaf notice)) ≡ Ok new →
    ((whole ≡ true) × (page : Page) × (made ≡ Ok page) × (new ≡ revised leaf notice page)) ⊎ ((whole ≡ false) × (new ≡ keeping leaf notice))
next_by true leaf new notice made is = let (page, is_made, is_new) = revised_is leaf new notice made is in inl (refl, page, is_made, is_new)
next_by false leaf new notice made is = inr (refl, cc)

update_by : (next : Bool) (leaf new : Leaf) (notice : Notice) → (if next then with_next notice leaf else Err (Gap leaf.last)) ≡ Ok new → with_next notice leaf ≡ Ok new
update_by true leaf new notice is = is
update_by false leaf new notice is = absurd cc

pub with_update-is : (leaf new : Leaf) (notice : Notice) → with_update notice leaf ≡ Ok new → UpdateOutcome notice leaf new
with_update-is leaf new notice is =
    next_by leaf.page.whole leaf new notice (page_after leaf.page notice) (update_by (notice.rev == leaf.last + 1) leaf new notice is)
