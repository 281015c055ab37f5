-- Stays in the making, one put behind the other: which partners they say so far.
use Rattle.std.proofs.Common.{◌≡◌, inl, inr, ℕ, suc, ◌+◌, ◌-◌, ◌<◌, ◌≤◌, Bool, true, false, List, [], ◌∷◌, ◌++◌, length, map, Option, Some, None, refl, ap, ap₂, sym, subst, ◌∙◌, arith}
use Rattle.std.specs.Prelude.{◌&&◌, if◌then◌else◌, nat_le, nat_lt}
use Rattle.std.specs.List.{range_with_len}
use Rattle.std.proofs.lemmas.Bool.{and_right, cases_lt, le-leb, le-ltb, lt-leb, lt-ltb}
use Rattle.plain_screen.specs.Plan.{partner_at}
use Rattle.line_cache.specs.Stays.{AreStaysFrom, if_true, partner_by, partners_by, valid_by}
use Rattle.line_cache.specs.declared.stay.Stay.{Stay}
use Rattle.line_stays.specs.Inner.{ArePartnersIn, SayPartners}

-- ---- where stays stand

-- they end among the lines of which they are
pub stays-within : (old new count total : ℕ) (stays : List Stay) → AreStaysFrom old new count total stays → (old ≤ count) × (new ≤ total)
stays-within old new count total [] are = are
stays-within old new count total (stay ∷ stays) are =
    let rest = stays-within (stay.old + stay.n) (stay.new + stay.n) count total stays are.2 in
    (omega (arith, are.0, rest.0), omega (arith, are.1, rest.1))

-- and of more lines
pub stays-more : (old new count total more last : ℕ) (stays : List Stay) → AreStaysFrom old new count total stays → count ≤ more → total ≤ last →
    AreStaysFrom old new more last stays
stays-more old new count total more last [] are one other = (omega (arith, are.0, one), omega (arith, are.1, other))
stays-more old new count total more last (stay ∷ stays) are one other =
    (are.0, are.1, stays-more (stay.old + stay.n) (stay.new + stay.n) count total more last stays are.2 one other)

-- one more behind them
pub stays-put : (old new count total : ℕ) (stays : List Stay) (stay : Stay) → AreStaysFrom old new count total stays → count ≤ stay.old → total ≤ stay.new →
    AreStaysFrom old new (stay.old + stay.n) (stay.new + stay.n) (stays ++ stay ∷ [])
stays-put old new count total [] stay are one other =
    (omega (arith, are.0, one), omega (arith, are.1, other), (omega arith, omega arith))
stays-put old new count total (first ∷ stays) stay are one other =
    (are.0, are.1, stays-put (first.old + first.n) (first.new + first.n) count total stays stay are.2 one other)

-- ---- which partners they say

abbrev partner_of : Stay → ℕ → Option (ℕ × Bool)
partner_of stay index = Some (stay.old + (index - stay.new), stay.same)

-- behind them none
pub partner-past : (old new count total index : ℕ) (stays : List Stay) → AreStaysFrom old new count total stays → total ≤ index → partner_by stays index ≡ None
partner-past old new count total index [] are past = refl
partner-past old new count total index (stay ∷ stays) are past =
    let within = stays-within (stay.old + stay.n) (stay.new + stay.n) count total stays are.2 in
    ap (λ (b : Bool). if b then partner_of stay index else partner_by stays index)
    (and_right (nat_le stay.new index) (nat_lt index (stay.new + stay.n)) (le-ltb index (stay.new + stay.n) (omega (arith, within.1, past)))) ∙
    partner-past (stay.old + stay.n) (stay.new + stay.n) count total index stays are.2 past

-- one behind them says none of the lines before it
partner-left : (index : ℕ) (stays : List Stay) (stay : Stay) → index < stay.new → partner_by (stays ++ stay ∷ []) index ≡ partner_by stays index
partner-left index [] stay less =
    ap (λ (b : Bool). if b && nat_lt index (stay.new + stay.n) then partner_of stay index else None) (lt-leb stay.new index less)
partner-left index (first ∷ stays) stay less =
    ap (λ (o : Option (ℕ × Bool)). if nat_le first.new index && nat_lt index (first.new + first.n) then partner_of first index else o)
    (partner-left index stays stay less)

-- and its own of its lines
partner-right : (index : ℕ) (stays : List Stay) (stay : Stay) → partner_by stays index ≡ None →
    partner_by (stays ++ stay ∷ []) index ≡ partner_by (stay ∷ []) index
partner-right index [] stay none = refl
partner-right index (first ∷ stays) stay none =
    by (nat_le first.new index && nat_lt index (first.new + first.n)) refl (λ later. partner-right index stays stay later)
  where
    by : (b : Bool) → (nat_le first.new index && nat_lt index (first.new + first.n)) ≡ b →
        (partner_by stays index ≡ None → partner_by (stays ++ stay ∷ []) index ≡ partner_by (stay ∷ []) index) →
        partner_by (first ∷ (stays ++ stay ∷ [])) index ≡ partner_by (stay ∷ []) index
    by true is rest =
        absurd (let both = sym (ap (λ (b : Bool). if b then partner_of first index else partner_by stays index) is) ∙ none in cc)
    by false is rest =
        ap (λ (b : Bool). if b then partner_of first index else partner_by (stays ++ stay ∷ []) index) is ∙
        rest (sym (ap (λ (b : Bool). if b then partner_of first index else partner_by stays index) is) ∙ none)

partner-own : (stay : Stay) (k : ℕ) → k < stay.n → partner_by (stay ∷ []) (stay.new + k) ≡ Some (stay.old + k, stay.same)
partner-own stay k less =
    ap₂ (λ (a b : Bool). if a && b then partner_of stay (stay.new + k) else None) (le-leb stay.new (stay.new + k) (omega arith))
    (lt-ltb (stay.new + k) (stay.new + stay.n) (omega (arith, less))) ∙
    ap (λ (i : ℕ). Some (stay.old + i, stay.same)) (let on : stay.new + k - stay.new ≡ k = omega arith in on)

-- ---- stays in the making

pub settled-none : (had : List Bool) (partner : ℕ → Option (ℕ × Bool)) → SayPartners had partner 0 0 []
settled-none had partner = record {
  among = (omega arith, omega arith);
  right = λ index less. absurd (omega (arith, less));
}

module _ (had : List Bool) (partner : ℕ → Option (ℕ × Bool)) (old new : ℕ) (stays : List Stay) (so_far : SayPartners had partner old new stays) where
  -- behind them stand lines that have no valid partner
  pub settled-skip : (past next : ℕ) → old ≤ past → new ≤ next → ((index : ℕ) → new ≤ index → index < next → if_true had (partner index) ≡ None) →
      SayPartners had partner past next stays
  settled-skip past next one other none = record {
    among = stays-more 0 0 old new past next stays so_far.among one other;
    right = λ index less. elim (cases_lt index new) [
      | inl before ↦ so_far.right index before
      | inr behind ↦
          ap (if_true had) (partner-past 0 0 old new index stays so_far.among behind) ∙ sym (none index behind less)
    ];
  }

  -- and one more, of lines that have these partners
  pub settled-put : (stay : Stay) (made : List Stay) → made ≡ stays ++ stay ∷ [] → old ≤ stay.old → new ≡ stay.new →
      ((k : ℕ) → k < stay.n → partner (stay.new + k) ≡ Some (stay.old + k, stay.same)) →
      SayPartners had partner (stay.old + stay.n) (stay.new + stay.n) made
  settled-put stay made is one other own = record {
    among = subst (AreStaysFrom 0 0 (stay.old + stay.n) (stay.new + stay.n)) (sym is) (stays-put 0 0 old new stays stay so_far.among one (omega (arith, other)));
    right = λ index less. ap (λ (ss : List Stay). if_true had (partner_by ss index)) is ∙ (elim (cases_lt index new) [
      | inl before ↦
          ap (if_true had) (partner-left index stays stay (omega (arith, before, other))) ∙ so_far.right index before
      | inr behind ↦
          let k : ℕ = index - stay.new in
          let on : stay.new + k ≡ index = omega (arith, behind, other) in
          ap (if_true had)
          (partner-right index stays stay (partner-past 0 0 old new index stays so_far.among behind) ∙
          ap (partner_by (stay ∷ [])) (sym on) ∙ partner-own stay k (omega (arith, less, on)) ∙ sym (own k (omega (arith, less, on))) ∙ ap partner on)
    ]);
  }

-- of as many lines
pub settled-at : (had : List Bool) (partner : ℕ → Option (ℕ × Bool)) (stays : List Stay) (old new count total : ℕ) → old ≡ count → new ≡ total →
    SayPartners had partner old new stays → SayPartners had partner count total stays
settled-at had partner stays old new count total one other settled =
    subst (λ (o : ℕ). SayPartners had partner o total stays) one (subst (λ (m : ℕ). SayPartners had partner old m stays) other settled)

-- stays of the lines of a part, of which the same is said
pub stays-said : (had : List Bool) (partner : ℕ → Option (ℕ × Bool)) (same : ℕ → Bool) (old new n from to : ℕ) (said : Bool) (stays made : List Stay) (stay : Stay) →
    stay ≡ record { old = from; new = new + (from - old); n = to - from; same = said } → made ≡ stays ++ stay ∷ [] → old ≤ from → from ≤ to → to ≤ old + n →
    ArePartnersIn same old new n partner → ((x : ℕ) → from ≤ x → x < to → same x ≡ said) →
    SayPartners had partner from (new + (from - old)) stays → SayPartners had partner to (new + (to - old)) made
stays-said had partner same old new n from to said stays made stay is put low ordered high partners each so_far =
    let one : from + (to - from) ≡ to = omega (arith, ordered) in
    let other : new + (from - old) + (to - from) ≡ new + (to - old) = omega (arith, low, ordered) in
    let stands : Stay = record { old = from; new = new + (from - old); n = to - from; same = said } in
    settled-at had partner made _ _ _ _ one other
    (settled-put had partner from (new + (from - old)) stays so_far stands made (put ∙ ap (λ (s : Stay). stays ++ s ∷ []) is) (omega arith) refl
    (λ k less.
    let within : from - old + k < n = omega (arith, low, high, less) in
    let at : new + (from - old) + k ≡ new + (from - old + k) = omega arith in
    let here : old + (from - old + k) ≡ from + k = omega (arith, low) in
    ap partner at ∙ partners (from - old + k) within ∙
    ap (λ (i : ℕ). Some (i, same i)) here ∙ ap (λ (b : Bool). Some (from + k, b)) (each (from + k) (omega arith) (omega (arith, less)))))

-- ---- all lines

settled-from : (had : List Bool) (stays : List Stay) (from : ℕ) (partners : List (Option (ℕ × Bool))) →
    ((k : ℕ) → k < length partners → if_true had (partner_by stays (from + k)) ≡ if_true had (partner_at partners k)) →
    valid_by had (map (partner_by stays) (range_with_len from (length partners))) ≡ valid_by had partners
settled-from had stays from [] each = refl
settled-from had stays from (partner ∷ partners) each =
    ap₂ (λ (p : Option (ℕ × Bool)) (ps : List (Option (ℕ × Bool))). p ∷ ps)
    (ap (λ (i : ℕ). if_true had (partner_by stays i)) (let here : from ≡ from + 0 = omega arith in here) ∙ each 0 (omega arith))
    (settled-from had stays (from + 1) partners (λ k less.
    ap (λ (i : ℕ). if_true had (partner_by stays i)) (let on : from + 1 + k ≡ from + suc k = omega arith in on) ∙ each (suc k) (omega (arith, less))))

-- STAYS OF ALL LINES say the partners that are valid
pub settled-all : (had : List Bool) (partners : List (Option (ℕ × Bool))) (old new total : ℕ) (stays : List Stay) → length partners ≡ total → new ≡ total →
    SayPartners had (partner_at partners) old new stays → valid_by had (partners_by stays total) ≡ valid_by had partners
settled-all had partners old new total stays long all so_far =
    ap (λ (n : ℕ). valid_by had (map (partner_by stays) (range_with_len 0 n))) (sym long) ∙
    settled-from had stays 0 partners (λ k less.
    ap (λ (i : ℕ). if_true had (partner_by stays i)) (let none : 0 + k ≡ k = omega arith in none) ∙ so_far.right k (omega (arith, less, long, all)))
