-- One page, where a teller tells it.
use Rattle.std.proofs.Common.{◌≡◌, ⊎_elim, ℕ, ◌+◌, ◌<◌, ◌≤◌, inl, inr, Bool, true, false, List, [], ◌∷◌, ◌++◌, Ok, Err, Some, None, refl, ap, sym, ◌∙◌, subst, arith, append-nil}
use Rattle.std.specs.Prelude.{◌⊎◌, ◌&&◌, not, nat_lt, ◌==◌, is_some, Result, if◌then◌else◌}
use Rattle.std.proofs.lemmas.Bool.{cases_Bool, cases_lt, eqb-true, eq-eqb}
use Rattle.plain_text.specs.Text.{byte_len}
use Rattle.plain_edits.specs.Delta.{misfit_of}
use Rattle.xi_plain.specs.declared.command.Command.{Command}
use Rattle.xi_plain.specs.declared.config.Notice.{Notice}
use Rattle.plugin_mirror.specs.declared.page.Page.{Page}
use Rattle.plugin_mirror.specs.declared.fault.BookFault.{BookFault}
use Rattle.plugin_mirror.specs.declared.fault.BookFault.TheVariants.{Unread, Gap, Length}
use Rattle.plugin_mirror.specs.declared.leaf.Leaf.{Leaf}
use Rattle.plugin_mirror.specs.Leaf.{then_if_ok, opened, of_length, unless_misfit, page_after, settled, revised, keeping, with_next, with_update, grown, finished, given_up, whole_page, with_text, with_chunk, wants_ack}
use Rattle.plugin_mirror.specs.Asks.{id_limit, asks_piece, piece_ask, acknowledgement, asks_of, leaf_asked}
use Rattle.plugin_mirror.specs.Teller.{Tales, ToldView, IsPiece, TellsUpdate}
use Rattle.plugin_mirror.proofs.LeafLemmas.{byte_len-append, no_bytes, with_text-short, with_text-done}
use Rattle.plugin_mirror.proofs.TimeLemmas.{after_chunk}

-- ---- what a page that was told the truth is like

-- the command is one of these
abbrev pub IsIn : Command → List Command → Type 0
IsIn command [] = ⊥
IsIn command (other ∷ others) = (other ≡ command) ⊎ IsIn command others

-- updates that lead from one revision to another
abbrev pub IsChain : Tales → List ℕ → ℕ → List Notice → ℕ → Type 0
IsChain tales view from [] last = from ≡ last
IsChain tales view from (notice ∷ notices) last = TellsUpdate tales view from notice × IsChain tales view (from + 1) notices last

-- a page that is whole
pub record Whole (tales : Tales) (one : ToldView) (leaf : Leaf) : Type 0 where
  pub rev : leaf.page.rev ≡ one.last
  pub text : leaf.page.text ≡ tales one.view one.last
  pub kept : leaf.kept ≡ []
  pub ask : leaf.ask ≡ None

-- a page that is not
pub record Part (tales : Tales) (one : ToldView) (leaf : Leaf) : Type 0 where
  pub rest : List ℕ
  pub cut : tales one.view 0 ≡ leaf.page.text ++ rest
  pub rev : leaf.page.rev ≡ 0
  pub chain : IsChain tales one.view 0 leaf.kept one.last

-- either
abbrev pub PageStands : Tales → ToldView → Leaf → Type 0
PageStands tales one leaf = ((leaf.page.whole ≡ true) × Whole tales one leaf) ⊎ ((leaf.page.whole ≡ false) × Part tales one leaf)

-- a page of the view, which asked one of these commands, if it asks
pub record Agrees (tales : Tales) (piece : ℕ) (commands : List Command) (one : ToldView) (leaf : Leaf) : Type 0 where
  pub view : leaf.view ≡ one.view
  pub len : leaf.len ≡ byte_len (tales one.view 0)
  pub last : leaf.last ≡ one.last
  pub stands : PageStands tales one leaf
  pub asks : (n : ℕ) → leaf.ask ≡ Some n → IsIn (piece_ask piece n leaf) commands

-- ---- updates

chain_more : (tales : Tales) (view : List ℕ) (from last : ℕ) (notices : List Notice) (notice : Notice) → IsChain tales view from notices last →
    TellsUpdate tales view last notice → IsChain tales view from (notices ++ notice ∷ []) (last + 1)
chain_more tales view from last [] notice same tells = (subst (λ rev. TellsUpdate tales view rev notice) (sym same) tells, ap (λ n. n + 1) same)
chain_more tales view from last (first ∷ notices) notice chain tells = (chain.0, chain_more tales view (from + 1) last notices notice chain.1 tells)

-- the page that an update which is told leads to
abbrev told_page : Tales → List ℕ → ℕ → ℕ → Page
told_page tales view last rev = record { rev = rev; whole = true; text = tales view (last + 1) }

fitting : (tales : Tales) (view : List ℕ) (last : ℕ) (notice : Notice) (page : Page) → page.text ≡ tales view last → TellsUpdate tales view last notice →
    page_after page notice ≡ Ok (told_page tales view last notice.rev)
fitting tales view last notice page text tells =
    let after = tales view (last + 1) in
    let As : Result Page BookFault = Ok (told_page tales view last notice.rev) in
    ap (λ t. unless_misfit (misfit_of t notice.delta) notice t) text ∙ ap (λ m. unless_misfit m notice (tales view last)) tells.fits ∙
    ap (of_length notice) tells.leads ∙
    ap (λ (same : Bool). if same then As else Err (Length (byte_len after))) (eq-eqb (byte_len after) notice.new_len (sym tells.len))

page_same : (page : Page) (rev : ℕ) (text : List ℕ) → page.whole ≡ true → page.rev ≡ rev → page.text ≡ text → page ≡ record { rev = rev; whole = true; text = text }
page_same page rev text whole same is =
    ap (λ r. record { rev = r; whole = page.whole; text = page.text }) same ∙ ap (λ w. record { rev = rev; whole = w; text = page.text }) whole ∙
    ap (λ t. record { rev = rev; whole = true; text = t }) is

settled_told : (tales : Tales) (view : List ℕ) (from last : ℕ) (notices : List Notice) (page : Page) → page.whole ≡ true → page.rev ≡ from →
    page.text ≡ tales view from → IsChain tales view from notices last →
    settled notices page ≡ Ok (record { rev = last; whole = true; text = tales view last })
settled_told tales view from last [] page whole rev text same =
    ap (λ p. Ok p) (page_same page last (tales view last) whole (rev ∙ same) (text ∙ ap (tales view) same))
settled_told tales view from last (notice ∷ notices) page whole rev text chain =
    ap (λ made. then_if_ok made (settled notices)) (fitting tales view from notice page text chain.0) ∙
    settled_told tales view (from + 1) last notices (told_page tales view from notice.rev) refl chain.0.rev refl chain.1

-- ---- a leaf that is told

pub agrees_opened : (tales : Tales) (piece : ℕ) (commands : List Command) (view : List ℕ) (len : ℕ) → len ≡ byte_len (tales view 0) →
    Agrees tales piece commands (record { view = view; last = 0 }) (opened view len)
agrees_opened tales piece commands view len is =
    record {
      view = refl;
      len = is;
      last = refl;
      stands =
          ⊎_elim
          (λ (none : (len == 0) ≡ true).
          inl (none, record { rev = refl; text = sym (no_bytes (tales view 0) (sym is ∙ eqb-true len 0 none)); kept = refl; ask = refl }))
          (λ (some : (len == 0) ≡ false). inr (some, record { rest = tales view 0; cut = refl; rev = refl; chain = refl }))
          (cases_Bool (len == 0));
      asks = λ n some. absurd cc;
    }

-- the leaf after an update, by whether its page is whole
with_next_whole : (leaf : Leaf) (notice : Notice) (page : Page) → leaf.page.whole ≡ true → page_after leaf.page notice ≡ Ok page →
    with_next notice leaf ≡ Ok (revised leaf notice page)
with_next_whole leaf notice page whole made =
    let Next : Result Leaf BookFault = then_if_ok (page_after leaf.page notice) (λ p. Ok (revised leaf notice p)) in
    let Later : Result Leaf BookFault = Ok (keeping leaf notice) in
    ap (λ (w : Bool). if w then Next else Later) whole ∙ ap (λ made. then_if_ok made (λ p. Ok (revised leaf notice p))) made

with_next_part : (leaf : Leaf) (notice : Notice) → leaf.page.whole ≡ false → with_next notice leaf ≡ Ok (keeping leaf notice)
with_next_part leaf notice part =
    let Next : Result Leaf BookFault = then_if_ok (page_after leaf.page notice) (λ p. Ok (revised leaf notice p)) in
    let Later : Result Leaf BookFault = Ok (keeping leaf notice) in
    ap (λ (w : Bool). if w then Next else Later) part

next_is : (leaf : Leaf) (notice : Notice) → notice.rev ≡ leaf.last + 1 → with_update notice leaf ≡ with_next notice leaf
next_is leaf notice is =
    let Now : Result Leaf BookFault = with_next notice leaf in
    ap (λ (next : Bool). if next then Now else Err (Gap leaf.last)) (eq-eqb notice.rev (leaf.last + 1) is)

pub agrees_update : (tales : Tales) (piece : ℕ) (commands : List Command) (one : ToldView) (leaf : Leaf) (notice : Notice) → Agrees tales piece commands one leaf →
    TellsUpdate tales one.view one.last notice → (new : Leaf) × (with_update notice leaf ≡ Ok new) × Agrees tales piece commands (record one { last = notice.rev }) new
agrees_update tales piece commands one leaf notice agrees tells =
    let next : with_update notice leaf ≡ with_next notice leaf = next_is leaf notice (tells.rev ∙ ap (λ n. n + 1) (sym agrees.last)) in
    ⊎_elim
    (λ (whole : (leaf.page.whole ≡ true) × Whole tales one leaf).
    let page = told_page tales one.view one.last notice.rev in (
      revised leaf notice page,
      next ∙ with_next_whole leaf notice page whole.0 (fitting tales one.view one.last notice leaf.page whole.1.text tells),
      record {
        view = agrees.view;
        len = agrees.len;
        last = refl;
        stands = inl (refl, record { rev = refl; text = ap (tales one.view) (sym tells.rev); kept = whole.1.kept; ask = whole.1.ask });
        asks = λ n some. let none = whole.1.ask in absurd cc;
      },
    ))
    (λ (part : (leaf.page.whole ≡ false) × Part tales one leaf). (
      keeping leaf notice,
      next ∙ with_next_part leaf notice part.0,
      record {
        view = agrees.view;
        len = agrees.len;
        last = refl;
        stands = inr (
          part.0,
          record {
            rest = part.1.rest;
            cut = part.1.cut;
            rev = part.1.rev;
            chain =
                subst (IsChain tales one.view 0 (leaf.kept ++ notice ∷ [])) (sym tells.rev)
                (chain_more tales one.view 0 one.last leaf.kept notice part.1.chain tells);
          },
        );
        asks = agrees.asks;
      },
    ))
    agrees.stands

-- ---- a leaf that is answered

with_text_whole : (leaf : Leaf) (text : List ℕ) (page : Page) → byte_len text ≡ leaf.len → settled leaf.kept (whole_page leaf text) ≡ Ok page →
    with_text leaf text ≡ Ok (finished leaf page)
with_text_whole leaf text page same made = with_text-done leaf text same ∙ ap (λ done. then_if_ok done (λ p. Ok (finished leaf p))) made

chunk_here : (leaf : Leaf) (text : List ℕ) (offset : ℕ) → offset ≡ byte_len leaf.page.text → with_chunk text offset leaf ≡ with_text leaf (leaf.page.text ++ text)
chunk_here leaf text offset here =
    let Now : Result Leaf BookFault = with_text leaf (leaf.page.text ++ text) in
    ap (λ (b : Bool). if b then Now else Err Unread) (eq-eqb offset (byte_len leaf.page.text) here)

grown_told : (tales : Tales) (piece : ℕ) (commands : List Command) (one : ToldView) (leaf : Leaf) (text rest : List ℕ) → Agrees tales piece commands one leaf →
    Part tales one leaf → tales one.view 0 ≡ (leaf.page.text ++ text) ++ rest →
    (new : Leaf) × (with_text leaf (leaf.page.text ++ text) ≡ Ok new) × Agrees tales piece commands one new
grown_told tales piece commands one leaf text rest agrees part cut =
    let all = leaf.page.text ++ text in
    let sum : byte_len (tales one.view 0) ≡ byte_len all + byte_len rest = ap byte_len cut ∙ byte_len-append all rest in
    ⊎_elim
    (λ (short : byte_len all < leaf.len). (
      grown leaf all,
      with_text-short leaf all short,
      record {
        view = agrees.view;
        len = agrees.len;
        last = agrees.last;
        stands = inr (refl, record { rest = rest; cut = cut; rev = part.rev; chain = part.chain });
        asks = λ n some. absurd cc;
      },
    ))
    (λ (long : leaf.len ≤ byte_len all).
    let same : byte_len all ≡ leaf.len = omega (arith, long, sum, agrees.len) in
    let none : rest ≡ [] = no_bytes rest (omega (arith, same, sum, agrees.len)) in
    let is : all ≡ tales one.view 0 = sym (append-nil all) ∙ ap (λ r. all ++ r) (sym none) ∙ sym cut in
    let page : Page = record { rev = one.last; whole = true; text = tales one.view one.last } in (
      finished leaf page,
      with_text_whole leaf all page same (settled_told tales one.view 0 one.last leaf.kept (record { rev = leaf.page.rev; whole = true; text = all }) refl part.rev is part.chain),
      record {
        view = agrees.view;
        len = agrees.len;
        last = agrees.last;
        stands = inl (refl, record { rev = refl; text = refl; kept = refl; ask = refl });
        asks = λ n some. absurd cc;
      },
    ))
    (cases_lt (byte_len all) leaf.len)

pub agrees_chunk : (tales : Tales) (piece : ℕ) (commands : List Command) (one : ToldView) (leaf : Leaf) (n : ℕ) (text : List ℕ) (offset : ℕ) →
    Agrees tales piece commands one leaf → leaf.ask ≡ Some n → offset ≡ byte_len leaf.page.text →
    IsPiece (tales one.view 0) (byte_len leaf.page.text) piece text →
    (new : Leaf) × (with_chunk text offset leaf ≡ Ok new) × Agrees tales piece commands one new
agrees_chunk tales piece commands one leaf n text offset agrees asks here is =
    ⊎_elim
    (λ (whole : (leaf.page.whole ≡ true) × Whole tales one leaf). let none = whole.1.ask in absurd cc)
    (λ (part : (leaf.page.whole ≡ false) × Part tales one leaf).
    let after = after_chunk (tales one.view 0) leaf.page.text part.1.rest text piece part.1.cut is in
    let grown = grown_told tales piece commands one leaf text after.0 agrees part.1 after.1 in
    (grown.0, chunk_here leaf text offset here ∙ grown.1, grown.2))
    agrees.stands

pub agrees_given_up : (tales : Tales) (piece : ℕ) (commands : List Command) (one : ToldView) (leaf : Leaf) → Agrees tales piece commands one leaf →
    Agrees tales piece commands one (given_up leaf)
agrees_given_up tales piece commands one leaf agrees =
    record {
      view = agrees.view;
      len = agrees.len;
      last = agrees.last;
      stands =
          ⊎_elim
          (λ (whole : (leaf.page.whole ≡ true) × Whole tales one leaf).
          inl (whole.0, record { rev = whole.1.rev; text = whole.1.text; kept = whole.1.kept; ask = refl }))
          (λ (part : (leaf.page.whole ≡ false) × Part tales one leaf).
          inr (part.0, record { rest = part.1.rest; cut = part.1.cut; rev = part.1.rev; chain = part.1.chain }))
          agrees.stands;
      asks = λ n some. absurd cc;
    }

-- ---- a leaf that is asked for

not_whole : (whole refused asking less : Bool) → ((not whole && not refused && not asking) && less) ≡ true → whole ≡ false
not_whole true refused asking less is = absurd cc
not_whole false refused asking less is = refl

-- the same, where it asks one of more commands
agrees_more : (tales : Tales) (piece : ℕ) (commands all : List Command) (one : ToldView) (leaf : Leaf) → ((c : Command) → IsIn c commands → IsIn c all) →
    Agrees tales piece commands one leaf → Agrees tales piece all one leaf
agrees_more tales piece commands all one leaf more agrees =
    record { view = agrees.view; len = agrees.len; last = agrees.last; stands = agrees.stands; asks = λ n some. more (piece_ask piece n leaf) (agrees.asks n some) }

stands_asking : (tales : Tales) (one : ToldView) (leaf : Leaf) (next : ℕ) → leaf.page.whole ≡ false → PageStands tales one leaf →
    PageStands tales one (record leaf { ask = Some next })
stands_asking tales one leaf next part (inl (whole, is)) = absurd cc
stands_asking tales one leaf next part (inr (still, is)) = inr (still, record { rest = is.rest; cut = is.cut; rev = is.rev; chain = is.chain })

stands_acked : (tales : Tales) (one : ToldView) (leaf : Leaf) (acked : ℕ) → PageStands tales one leaf → PageStands tales one (record leaf { acked = acked })
stands_acked tales one leaf acked (inl (whole, is)) = inl (whole, record { rev = is.rev; text = is.text; kept = is.kept; ask = is.ask })
stands_acked tales one leaf acked (inr (still, is)) = inr (still, record { rest = is.rest; cut = is.cut; rev = is.rev; chain = is.chain })

some_same : (a b : ℕ) → Some a ≡ Some b → a ≡ b
some_same a b same = cc

asked_by : (tales : Tales) (piece : ℕ) (all : List Command) (one : ToldView) (leaf : Leaf) (next : ℕ) (asks acks : Bool) → (asks ≡ true → leaf.page.whole ≡ false) →
    Agrees tales piece all one leaf →
    ((c : Command) → IsIn c (if asks then piece_ask piece next leaf ∷ [] else (if acks then acknowledgement leaf ∷ [] else [])) → IsIn c all) →
    Agrees tales piece all one (if asks then record leaf { ask = Some next } else (if acks then record leaf { acked = leaf.page.rev } else leaf))
asked_by tales piece all one leaf next true acks part agrees has =
    record {
      view = agrees.view;
      len = agrees.len;
      last = agrees.last;
      stands = stands_asking tales one leaf next (part refl) agrees.stands;
      asks = λ n some. subst (λ m. IsIn (piece_ask piece m leaf) all) (some_same next n some) (has (piece_ask piece next leaf) (inl refl));
    }
asked_by tales piece all one leaf next false true part agrees has =
    record { view = agrees.view; len = agrees.len; last = agrees.last; stands = stands_acked tales one leaf leaf.page.rev agrees.stands; asks = agrees.asks }
asked_by tales piece all one leaf next false false part agrees has = agrees

pub agrees_asked : (tales : Tales) (piece : ℕ) (commands all : List Command) (one : ToldView) (leaf : Leaf) (next : ℕ) → Agrees tales piece commands one leaf →
    ((c : Command) → IsIn c commands → IsIn c all) → ((c : Command) → IsIn c (asks_of piece next leaf) → IsIn c all) →
    Agrees tales piece all one (leaf_asked next leaf)
agrees_asked tales piece commands all one leaf next agrees more has =
    asked_by tales piece all one leaf next (asks_piece next leaf) (wants_ack leaf)
    (λ is. not_whole leaf.page.whole leaf.refused (is_some leaf.ask) (nat_lt next id_limit) is) (agrees_more tales piece commands all one leaf more agrees) has
