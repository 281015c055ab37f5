-- A page is whole in time.
use Rattle.std.proofs.Common.{◌≡◌, ⊎_elim, ℕ, zero, suc, Some, ◌+◌, ◌-◌, ◌*◌, ◌/◌, ◌<◌, ◌≤◌, inl, inr, Bool, true, false, List, [], ◌∷◌, ◌++◌, refl, ap, sym, ◌∙◌, subst, arith, append_assoc}
use Rattle.std.specs.Prelude.{◌⊎◌, ◌==◌, if◌then◌else◌}
use Rattle.std.proofs.lemmas.Str.{len_utf8_bounds}
use Rattle.std.proofs.lemmas.Bool.{cases_Bool}
use Rattle.std.proofs.lemmas.Nat.{div-add-mod'}
use Rattle.std.proofs.Math.Nat.{mod-lt, mul-le-mul_right}
use Rattle.plain_text.specs.Text.{byte_len}
use Rattle.xi_plain.specs.declared.config.Notice.{Notice}
use Rattle.plugin_mirror.specs.declared.leaf.Leaf.{Leaf}
use Rattle.plugin_mirror.specs.Leaf.{opened, wants_ack}
use Rattle.plugin_mirror.specs.Asks.{asks_piece}
use Rattle.plugin_mirror.specs.Teller.{IsPiece, IsFull}
use Rattle.plugin_mirror.specs.Laws.{LeafEvent, chunk, update, ask, IsLeafStep, AreLeafSteps, chunks_in, PagesAreWholeInTime}
use Rattle.plugin_mirror.proofs.LeafLemmas.{byte_len-append, front_same, TextOutcome, with_chunk-is, page_after-whole, settled-whole, UpdateOutcome, with_update-is}

-- a page that is not whole has a front of the text, and so many chunks gave it their least
record Behind (text : List ℕ) (piece count : ℕ) (leaf : Leaf) : Type 0 where
  len : leaf.len ≡ byte_len text
  rest : List ℕ
  cut : text ≡ leaf.page.text ++ rest
  short : byte_len leaf.page.text < byte_len text
  many : count * (piece - 3) ≤ byte_len leaf.page.text

-- the page is whole, or so far behind
abbrev Stands : List ℕ → ℕ → ℕ → Leaf → Type 0
Stands text piece count leaf = (leaf.page.whole ≡ true) ⊎ ((leaf.page.whole ≡ false) × Behind text piece count leaf)

-- a chunk that is not the last is nearly full
nearly : (piece : ℕ) (got rest : List ℕ) → 4 ≤ piece → IsFull piece got rest → (rest ≡ [] → ⊥) → piece - 3 ≤ byte_len got
nearly piece got [] least full some = absurd (some refl)
nearly piece got (c ∷ rest) least full some = omega (arith, full, (len_utf8_bounds c).1)

-- what stands after a chunk
pub after_chunk : (text page more got : List ℕ) (piece : ℕ) → text ≡ page ++ more → IsPiece text (byte_len page) piece got →
    (rest : List ℕ) × (text ≡ (page ++ got) ++ rest) × IsFull piece got rest
after_chunk text page more got piece cut is =
    let same : is.front ≡ page = front_same is.front (got ++ is.rest) page more (sym is.cut ∙ cut) (sym is.starts) in
    (is.rest, is.cut ∙ ap (λ front. front ++ (got ++ is.rest)) same ∙ sym (append_assoc page got is.rest), is.full)

none_left : (page rest text : List ℕ) → text ≡ page ++ rest → byte_len page < byte_len text → rest ≡ [] → ⊥
none_left page rest text cut short none =
    omega (arith, short, ap byte_len cut, byte_len-append page rest, ap byte_len none)

mul-step : (count least : ℕ) → (count + 1) * least ≡ count * least + least
mul-step zero least = omega arith
mul-step (suc count) least = omega (arith, mul-step count least)

positive : (n : ℕ) → (n == 0) ≡ false → 0 < n
positive zero none = absurd cc
positive (suc n) some = omega arith

step_chunk : (text : List ℕ) (piece count : ℕ) (got : List ℕ) (old new : Leaf) → 4 ≤ piece → Behind text piece count old →
    IsPiece text (byte_len old.page.text) piece got → TextOutcome old (old.page.text ++ got) new → Stands text piece (count + 1) new
step_chunk text piece count got old new least behind is (inl (short, made)) =
    let after = after_chunk text old.page.text behind.rest got piece behind.cut is in
    let rest = after.0 in
    let less : byte_len (old.page.text ++ got) < byte_len text = omega (arith, short, behind.len) in
    let wide = nearly piece got rest least after.2 (none_left (old.page.text ++ got) rest text after.1 less) in
    let At : Leaf → Type 0 = λ leaf. Stands text piece (count + 1) leaf in
    subst At (sym made) (inr (
      refl,
      record {
        len = behind.len;
        rest = rest;
        cut = after.1;
        short = less;
        many = omega (arith, behind.many, wide, byte_len-append old.page.text got, mul-step count (piece - 3));
      },
    ))
step_chunk text piece count got old new least behind is (inr (same, page, settles, made)) =
    inl (ap (λ (leaf : Leaf). leaf.page.whole) made ∙ settled-whole old.kept (record { rev = old.page.rev; whole = true; text = old.page.text ++ got }) page refl settles)

step_update : (text : List ℕ) (piece count : ℕ) (notice : Notice) (old new : Leaf) → Stands text piece count old → UpdateOutcome notice old new → Stands text piece count new
step_update text piece count notice old new stands (inl (whole, page, made, is)) =
    inl (ap (λ (leaf : Leaf). leaf.page.whole) is ∙ page_after-whole old.page page notice made)
step_update text piece count notice old new (inl whole) (inr (part, is)) = inl (ap (λ (leaf : Leaf). leaf.page.whole) is ∙ whole)
step_update text piece count notice old new (inr (still, behind)) (inr (part, is)) =
    let At : Leaf → Type 0 = λ leaf. Stands text piece count leaf in
    subst At (sym is) (inr (still, record { len = behind.len; rest = behind.rest; cut = behind.cut; short = behind.short; many = behind.many }))

-- what is noted of an ask leaves the page as it is
ask_by : (asks acks : Bool) (text : List ℕ) (piece count next : ℕ) (old : Leaf) → Stands text piece count old →
    Stands text piece count (if asks then record old { ask = Some next } else (if acks then record old { acked = old.page.rev } else old))
ask_by true acks text piece count next old (inl whole) = inl whole
ask_by true acks text piece count next old (inr (still, behind)) =
    inr (still, record { len = behind.len; rest = behind.rest; cut = behind.cut; short = behind.short; many = behind.many })
ask_by false true text piece count next old (inl whole) = inl whole
ask_by false true text piece count next old (inr (still, behind)) =
    inr (still, record { len = behind.len; rest = behind.rest; cut = behind.cut; short = behind.short; many = behind.many })
ask_by false false text piece count next old stands = stands

-- the page that comes to be, where it stood so
chunk_from : (text : List ℕ) (piece count : ℕ) (got : List ℕ) (old new : Leaf) → 4 ≤ piece → Stands text piece count old → IsLeafStep text piece (chunk got) old new →
    Stands text piece (count + 1) new
chunk_from text piece count got old new least (inl whole) (part, is, made) = absurd cc
chunk_from text piece count got old new least (inr (still, behind)) (part, is, made) =
    step_chunk text piece count got old new least behind is (with_chunk-is old new got (byte_len old.page.text) made)

stands_after : (text : List ℕ) (piece count : ℕ) (old : Leaf) (events : List LeafEvent) (new : Leaf) → 4 ≤ piece → Stands text piece count old →
    AreLeafSteps text piece old events new → Stands text piece (chunks_in events + count) new
stands_after text piece count old [] new least stands is =
    let same : count ≡ chunks_in [] + count = omega arith in
    subst (λ n. Stands text piece n new) same (subst (λ leaf. Stands text piece count leaf) (sym is) stands)
stands_after text piece count old (chunk got ∷ events) new least stands (next, step, later) =
    let sum : chunks_in events + (count + 1) ≡ chunks_in events + 1 + count = omega arith in
    subst (λ n. Stands text piece n new) sum (stands_after text piece (count + 1) next events new least (chunk_from text piece count got old next least stands step) later)
stands_after text piece count old (update notice ∷ events) new least stands (next, step, later) =
    stands_after text piece count next events new least (step_update text piece count notice old next stands (with_update-is old next notice step)) later
stands_after text piece count old (ask number ∷ events) new least stands (next, step, later) =
    stands_after text piece count next events new least
    (subst (λ leaf. Stands text piece count leaf) (sym step) (ask_by (asks_piece number old) (wants_ack old) text piece count number old stands)) later

stands_first : (view text : List ℕ) (piece : ℕ) → Stands text piece 0 (opened view (byte_len text))
stands_first view text piece =
    ⊎_elim
    (λ (none : (byte_len text == 0) ≡ true). inl none)
    (λ (some : (byte_len text == 0) ≡ false).
    inr (some, record { len = refl; rest = text; cut = refl; short = positive (byte_len text) some; many = omega arith }))
    (cases_Bool (byte_len text == 0))

ends : (text : List ℕ) (piece count : ℕ) (leaf : Leaf) → byte_len text < count * (piece - 3) → Stands text piece count leaf → leaf.page.whole ≡ true
ends text piece count leaf enough (inl whole) = whole
ends text piece count leaf enough (inr (still, behind)) = absurd (omega (arith, enough, behind.many, behind.short))

-- so many chunks of the least length are more than all bytes
enough_bytes : (bytes least count : ℕ) → 0 < least → bytes / least + 1 ≤ count → bytes < count * least
enough_bytes bytes least count some many =
    let product = mul-le-mul_right least many in
    omega (arith, product, div-add-mod' bytes least, mod-lt bytes some, mul-step (bytes / least) least)

pub whole_in_time : PagesAreWholeInTime
whole_in_time view text piece events leaf least are many =
    let stands = stands_after text piece 0 (opened view (byte_len text)) events leaf least (stands_first view text piece) are in
    ends text piece (chunks_in events) leaf (enough_bytes (byte_len text) (piece - 3) (chunks_in events) (omega (arith, least)) many)
    (subst (λ n. Stands text piece n leaf) (omega arith) stands)
