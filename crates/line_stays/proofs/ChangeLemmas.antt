-- The parts that two texts share by a change, where they are cut alike.
use Rattle.std.proofs.Common.{◌≡◌, ℕ, ◌+◌, ◌-◌, ◌<◌, ◌≤◌, Bool, List, [], length, map, Option, None, refl, ap, sym, subst, arith}
use Rattle.plain_text.specs.declared.run.Run.{Run}
use Rattle.plain_edits.specs.Styles.{Layer}
use Rattle.plain_screen.specs.declared.piece.Piece.{Piece}
use Rattle.plain_screen.specs.declared.screen.Line.{Line}
use Rattle.plain_screen.specs.Plan.{partner_at}
use Rattle.plain_screen.specs.Touched.{partners_of}
use Rattle.plain_screen.specs.View.{ArePieces, layout_line_of, pieces_by}
use Rattle.line_cache.specs.Stays.{if_true}
use Rattle.line_cache.specs.declared.stay.Stay.{Stay}
use Rattle.line_stays.specs.Change.{IsChangeTo, IsEditedTo, LeavesText, touched_by}
use Rattle.line_stays.specs.declared.change.Change.{Change}
use Rattle.line_stays.specs.declared.change.Change.TheVariants.{Edited, Nothing, Styled}
use Rattle.line_stays.specs.declared.parts.Part.{Part}
use Rattle.line_stays.specs.Edges.{AreCutAlike, first_piece, past_piece}
use Rattle.line_stays.specs.Inner.{ArePartnersIn, SayPartners, AreStyledAlike, IsSharedPart, is_same_logical}
use Rattle.line_stays.proofs.ShareLemmas.{as-many-all, left-new, left-old, n-inside, new-inside, part-all, part-left, part-right, partners-all, partners-between, partners-left, partners-right, styled-all, styled-left, styled-right}
use Rattle.line_stays.proofs.SettledLemmas.{settled-at, settled-none, settled-skip}
use Rattle.line_stays.proofs.SplitLemmas.{are-pieces}

-- what an edit leaves left and right of the lines that it touches by text, of texts in these pieces
pub record AreParts (front back : ℕ) (text other : List ℕ) (pieces parts : List Piece) (layers styles : List Layer) (draw redraw : Piece → Line) (left old new n : ℕ) : Type 0 where
  pub part : IsSharedPart text other pieces parts 0 0 left
  pub styled : AreStyledAlike (Edited front back) pieces parts layers styles 0 0 left
  pub partners : ArePartnersIn (is_same_logical text pieces (map draw pieces) (map redraw parts) 0 0) 0 0 left
      (partner_at (partners_of (touched_by (Edited front back) other) (map draw pieces) (map redraw parts)))
  pub part_right : IsSharedPart text other pieces parts old new n
  pub styled_right : AreStyledAlike (Edited front back) pieces parts layers styles old new n
  pub partners_right : ArePartnersIn (is_same_logical text pieces (map draw pieces) (map redraw parts) old new) old new n
      (partner_at (partners_of (touched_by (Edited front back) other) (map draw pieces) (map redraw parts)))
  pub between : (index : ℕ) → left ≤ index → index < new →
      partner_at (partners_of (touched_by (Edited front back) other) (map draw pieces) (map redraw parts)) index ≡ None
  pub ends : old + n ≡ length pieces
  pub too : new + n ≡ length parts
  pub apart : left ≤ old
  pub behind : left ≤ new
  pub room : n ≤ length pieces
  pub inside : new ≤ length parts

-- and what a change leaves that is none of the text
pub record AreAll (change : Change) (text other : List ℕ) (pieces parts : List Piece) (layers styles : List Layer) (draw redraw : Piece → Line) (all : ℕ) : Type 0 where
  pub part : IsSharedPart text other pieces parts 0 0 all
  pub styled : AreStyledAlike change pieces parts layers styles 0 0 all
  pub partners : ArePartnersIn (is_same_logical text pieces (map draw pieces) (map redraw parts) 0 0) 0 0 all
      (partner_at (partners_of (touched_by change other) (map draw pieces) (map redraw parts)))
  pub as_many : length pieces ≡ all

module _ (text other : List ℕ) (pieces parts : List Piece) (cut : AreCutAlike text other pieces parts) (draw redraw : Piece → Line)
    (keeps : (piece : Piece) → (draw piece).ln ≡ piece.ln) (holds : (piece : Piece) → (redraw piece).ln ≡ piece.ln) where
  abbrev left_of : ℕ → List Piece → ℕ
  left_of front qs = first_piece other qs (layout_line_of qs front)

  abbrev past_of : ℕ → List Piece → ℕ
  past_of back qs = past_piece qs (layout_line_of qs (length other - back))

  pub are-parts : (front back : ℕ) (layers styles : List Layer) → IsEditedTo front back text other layers styles →
      AreParts front back text other pieces parts layers styles draw redraw (left_of front parts) (length pieces - (length parts - past_of back parts)) (past_of back parts)
      (length parts - past_of back parts)
  are-parts front back layers styles is =
      subst
      (λ (ps : List Piece). AreParts front back text other ps parts layers styles draw redraw (left_of front parts) (length ps - (length parts - past_of back parts))
      (past_of back parts) (length parts - past_of back parts)) (sym cut.is)
      (subst
      (λ (qs : List Piece). AreParts front back text other (pieces_by cut.ends_of text) qs layers styles draw redraw (left_of front qs)
      (length (pieces_by cut.ends_of text) - (length qs - past_of back qs)) (past_of back qs) (length qs - past_of back qs)) (sym cut.are)
      (record {
        part = part-left cut.ends_of text other cut.cuts cut.too front back layers styles is;
        styled = styled-left cut.ends_of text other cut.cuts cut.too front back layers styles is;
        partners = partners-left cut.ends_of text other cut.cuts cut.too front back layers styles is draw redraw keeps holds;
        part_right = part-right cut.ends_of text other cut.cuts cut.too front back layers styles is;
        styled_right = styled-right cut.ends_of text other cut.cuts cut.too front back layers styles is;
        partners_right = partners-right cut.ends_of text other cut.cuts cut.too front back layers styles is draw redraw keeps holds;
        between = partners-between cut.ends_of text other cut.cuts cut.too front back layers styles is draw redraw keeps holds;
        ends = omega (arith, n-inside cut.ends_of text other cut.cuts cut.too front back layers styles is);
        too = omega (arith, new-inside cut.ends_of text other cut.cuts cut.too front back layers styles is);
        apart = left-old cut.ends_of text other cut.cuts cut.too front back layers styles is;
        behind = left-new cut.ends_of text other cut.cuts cut.too front back layers styles is;
        room = n-inside cut.ends_of text other cut.cuts cut.too front back layers styles is;
        inside = new-inside cut.ends_of text other cut.cuts cut.too front back layers styles is;
      }))

  pub are-pieces-before : ArePieces text pieces
  are-pieces-before = subst (ArePieces text) (sym cut.is) (are-pieces cut.ends_of text cut.cuts)

  pub are-pieces-after : ArePieces other parts
  are-pieces-after = subst (ArePieces other) (sym cut.are) (are-pieces cut.ends_of other cut.too)

  touched-none : (change : Change) → LeavesText change → touched_by change other ≡ record { start = 0; end = 0 }
  touched-none Nothing leaves = refl
  touched-none (Styled from) leaves = refl
  touched-none (Edited front back) leaves = absurd leaves

  leaves-text : (change : Change) (layers styles : List Layer) → LeavesText change → IsChangeTo change text other layers styles → other ≡ text
  leaves-text Nothing layers styles leaves is = is.0
  leaves-text (Styled from) layers styles leaves is = is.0
  leaves-text (Edited front back) layers styles leaves is = absurd leaves

  pub are-all : (change : Change) (layers styles : List Layer) → LeavesText change → IsChangeTo change text other layers styles →
      AreAll change text other pieces parts layers styles draw redraw (length parts)
  are-all change layers styles leaves is =
      let same = leaves-text change layers styles leaves is in
      subst (λ (ps : List Piece). AreAll change text other ps parts layers styles draw redraw (length parts)) (sym cut.is)
      (subst (λ (qs : List Piece). AreAll change text other (pieces_by cut.ends_of text) qs layers styles draw redraw (length qs)) (sym cut.are)
      (record {
        part = part-all cut.ends_of text other cut.cuts cut.too same;
        styled =
            styled-all cut.ends_of text other cut.cuts cut.too same change layers styles (λ front back edited. subst LeavesText edited leaves) is;
        partners =
            subst (λ (run : Run). ArePartnersIn (is_same_logical text (pieces_by cut.ends_of text) (map draw (pieces_by cut.ends_of text)) (map redraw (pieces_by cut.ends_of other)) 0 0) 0 0
            (length (pieces_by cut.ends_of other)) (partner_at (partners_of run (map draw (pieces_by cut.ends_of text)) (map redraw (pieces_by cut.ends_of other)))))
            (sym (touched-none change leaves)) (partners-all cut.ends_of text other cut.cuts cut.too same draw redraw keeps holds);
        as_many = as-many-all cut.ends_of text other cut.cuts cut.too same;
      }))

-- the lines of a part are put
abbrev pub ArePutOf : List ℕ → List Piece → List Line → List Line → List Bool → Part → List Stay → List Stay → Type 0
ArePutOf text pieces before after had part none stays = (partner : ℕ → Option (ℕ × Bool)) →
    ArePartnersIn (is_same_logical text pieces before after part.old part.new) part.old part.new part.n partner →
    SayPartners had partner part.old part.new none → SayPartners had partner (part.old + part.n) (part.new + part.n) stays

-- both parts put, one behind the other, are all lines
pub beside-settled : (front back : ℕ) (text other : List ℕ) (pieces parts : List Piece) (layers styles : List Layer) (draw redraw : Piece → Line) (left old new n : ℕ)
    (had : List Bool) (none stays made : List Stay) (one two : Part) → AreParts front back text other pieces parts layers styles draw redraw left old new n → none ≡ [] →
    one ≡ record { old = 0; new = 0; n = left } → two ≡ record { old = old; new = new; n = n } →
    ArePutOf text pieces (map draw pieces) (map redraw parts) had one none stays → ArePutOf text pieces (map draw pieces) (map redraw parts) had two stays made →
    SayPartners had (partner_at (partners_of (touched_by (Edited front back) other) (map draw pieces) (map redraw parts))) (length pieces) (length parts) made
beside-settled front back text other pieces parts layers styles draw redraw left old new n had none stays made one two are empty one_is two_is put_one put_two =
    let partner : ℕ → Option (ℕ × Bool) = partner_at (partners_of (touched_by (Edited front back) other) (map draw pieces) (map redraw parts)) in
    let left_put = subst (λ (p : Part). ArePutOf text pieces (map draw pieces) (map redraw parts) had p none stays) one_is put_one in
    let right_put = subst (λ (p : Part). ArePutOf text pieces (map draw pieces) (map redraw parts) had p stays made) two_is put_two in
    let put = left_put partner are.partners (subst (SayPartners had partner 0 0) (sym empty) (settled-none had partner)) in
    let past = settled-skip had partner (0 + left) (0 + left) stays put old new (omega (arith, are.apart)) (omega (arith, are.behind))
    (λ index low high. ap (if_true had) (are.between index (omega (arith, low)) high)) in
    settled-at had partner made _ _ _ _ are.ends are.too (right_put partner are.partners_right past)

pub all-settled : (change : Change) (text other : List ℕ) (pieces parts : List Piece) (layers styles : List Layer) (draw redraw : Piece → Line) (all : ℕ) (had : List Bool)
    (none made : List Stay) → AreAll change text other pieces parts layers styles draw redraw all → all ≡ length parts → none ≡ [] →
    ((partner : ℕ → Option (ℕ × Bool)) → ArePartnersIn (is_same_logical text pieces (map draw pieces) (map redraw parts) 0 0) 0 0 all partner →
    SayPartners had partner 0 0 none → SayPartners had partner (0 + all) (0 + all) made) →
    SayPartners had (partner_at (partners_of (touched_by change other) (map draw pieces) (map redraw parts))) (length pieces) (length parts) made
all-settled change text other pieces parts layers styles draw redraw all had none made are count empty put =
    let partner : ℕ → Option (ℕ × Bool) = partner_at (partners_of (touched_by change other) (map draw pieces) (map redraw parts)) in
    settled-at had partner made _ _ _ _ (omega (arith, are.as_many)) (omega (arith, count))
    (put partner are.partners (subst (SayPartners had partner 0 0) (sym empty) (settled-none had partner)))
