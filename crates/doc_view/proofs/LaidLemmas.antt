-- What a layout reads of regions are their ends: those of one text with the same ends, results, pieces and styles are the same.
use Rattle.std.proofs.Common.{◌≡◌, ℕ, zero, suc, ◌+◌, ◌-◌, ◌<◌, Bool, true, false, List, [], ◌∷◌, ◌++◌, length, take, map, Some, None, refl, ap, ap₂, sym, subst, ◌∙◌, arith}
use Rattle.std.specs.Prelude.{if◌then◌else◌, not, nat_lt, nat_le, ◌==◌, ◌&&◌, ◌||◌}
use Rattle.std.specs.Bool.{beq}
use Rattle.std.specs.List.{range_with_len}
use Rattle.std.specs.Str.{all_scalars, bytes_eq}
use Rattle.std.proofs.lemmas.Bool.{and_parts, eqb-true}
use Rattle.std.proofs.lemmas.Slice.Eq.{bytes_eq-Decides}
use Rattle.plain_text.specs.declared.run.Run.{Run}
use Rattle.plain_text.specs.declared.selection.Region.{Region}
use Rattle.plain_edits.specs.declared.style.Span.{Span}
use Rattle.plain_edits.specs.Styles.{Layer}
use Rattle.plain_screen.specs.declared.piece.Piece.{Piece}
use Rattle.plain_screen.specs.declared.screen.Line.{Line}
use Rattle.plain_screen.specs.SameLayout.{is_same_layout}
use Rattle.plain_screen.specs.View.{layout_line_of}
use Rattle.plain_screen.proofs.callers.SameLemmas.{is_same_layout-Decides}
use Rattle.xi_plain.specs.declared.config.Config.{Config}
use Rattle.line_break.specs.Pieces.{wrapped_pieces}
use Rattle.line_break.proofs.ForCallers.{ArePieces-wrapped}
use Rattle.line_index.specs.Index.{Index, pieces_in as indexed_pieces}
use Rattle.find_core.specs.Matches.{matches_of}
use Rattle.match_index.specs.Found.{Found, runs_in}
use Rattle.selection_core.specs.Mapped.{AreWithin}
use Rattle.selection_core.specs.Selection.{IsSelection, greater_end, lesser_end}
use Rattle.span_runs.specs.Spans.{sorted_spans, spans_from}
use Rattle.span_runs.specs.Triples.{triples_of}
use Rattle.line_render.specs.Rendered.{carets_of, cursor_of, cut_spans, is_last_piece, is_selected, own_gaps, rendered, selected_layer, text_of_piece}
use Rattle.edit_ops.specs.Regions.{without_goal}
use Rattle.doc_layout.specs.Found.{MayShow, found_spans}
use Rattle.doc_layout.specs.Layout.{layout, styled_spans}
use Rattle.doc_layout.proofs.ForCallers.{regions-read, styles-read}
use Rattle.doc_view.specs.declared.search.Search.{Search}
use Rattle.doc_view.specs.Inner.{IsShownApart, IsViewKept, index_at, line_left_of}
use Rattle.doc_view.specs.Search.{found_at, is_for_nothing, results}
use Rattle.doc_view.specs.Told.{are_same_ends, is_cut_alike, is_same_search}
use Rattle.doc_view.specs.View.{View, layout_in, pieces_in}
use Rattle.doc_view.proofs.MovedLemmas.{AreWithin-plain, IsSelection-plain}
use Rattle.doc_view.proofs.RegionLemmas.{ends-same}
use Rattle.doc_view.proofs.SearchLemmas.{results-none}

-- ---- regions without their goals

carets_of-plain : (regions : List Region) → carets_of (map without_goal regions) ≡ carets_of regions
carets_of-plain [] = refl
carets_of-plain (region ∷ regions) = ap (λ carets. region.caret ∷ carets) (carets_of-plain regions)

is_selected-plain : (regions : List Region) (index : ℕ) → is_selected (map without_goal regions) index ≡ is_selected regions index
is_selected-plain [] index = refl
is_selected-plain (region ∷ regions) index =
    ap (λ b. (nat_le (lesser_end region) index && nat_lt index (greater_end region)) || b) (is_selected-plain regions index)

map-same : {X Y : Type 0} (f g : X → Y) → ((x : X) → f x ≡ g x) → (xs : List X) → map f xs ≡ map g xs
map-same f g same [] = refl
map-same f g same (x ∷ xs) = ap₂ (λ y ys. y ∷ ys) (same x) (map-same f g same xs)

selected_layer-plain : (regions : List Region) (start len : ℕ) → selected_layer (map without_goal regions) start len ≡ selected_layer regions start len
selected_layer-plain regions start len =
    map-same (λ gap. if is_selected (map without_goal regions) (start + gap) then Some 0 else None)
    (λ gap. if is_selected regions (start + gap) then Some 0 else None)
    (λ gap. ap (λ b. if b then Some 0 else None) (is_selected-plain regions (start + gap))) (range_with_len 0 len)

-- the line of a piece, by its carets and its selected characters
abbrev line_by : List ℕ → Piece → List Span → List ℕ → Layer → Line
line_by text piece spans carets layer =
    record {
      text = text_of_piece text piece;
      ln = piece.ln;
      cursor =
          cursor_of carets piece.start (own_gaps (is_last_piece text piece) (length (text_of_piece text piece))) (text_of_piece text piece);
      styles = triples_of (text_of_piece text piece) (spans_from 0 layer ++ cut_spans piece.start piece.end spans);
    }

rendered-plain : (text : List ℕ) (regions : List Region) (spans : List Span) (piece : Piece) →
    rendered text piece (map without_goal regions) spans ≡ rendered text piece regions spans
rendered-plain text regions spans piece =
    ap₂ (line_by text piece spans) (carets_of-plain regions) (selected_layer-plain regions piece.start (length (text_of_piece text piece)))

pub layout-plain : (text : List ℕ) (pieces : List Piece) (regions : List Region) (found : List Run) (layers : List Layer) →
    layout text pieces (map without_goal regions) found layers ≡ layout text pieces regions found layers
layout-plain text pieces regions found layers =
    let spans : Piece → List Span = λ piece. found_spans found (length text) ++ styled_spans layers piece in
    map-same (λ piece. rendered text piece (map without_goal regions) (spans piece)) (λ piece. rendered text piece regions (spans piece))
    (λ piece. rendered-plain text regions (spans piece) piece) pieces

-- ---- regions with the same ends

ends-plain : (regions others : List Region) → are_same_ends regions others ≡ true → map without_goal regions ≡ map without_goal others
ends-plain [] [] same = refl
ends-plain [] (other ∷ others) same = absurd cc
ends-plain (region ∷ regions) [] same = absurd cc
ends-plain (region ∷ regions) (other ∷ others) same =
    let parts = and_parts (region.anchor == other.anchor && region.caret == other.caret) (are_same_ends regions others) same in
    let ends = and_parts (region.anchor == other.anchor) (region.caret == other.caret) parts.0 in
    ap₂ (λ r rs. r ∷ rs) (ap₂ bare (eqb-true region.anchor other.anchor ends.0) (eqb-true region.caret other.caret ends.1)) (ends-plain regions others parts.1)
  where
    bare : ℕ → ℕ → Region
    bare anchor caret = record { anchor = anchor; caret = caret; goal = None }

pub layout-same : (text : List ℕ) (pieces : List Piece) (regions others : List Region) (found : List Run) (layers : List Layer) →
    are_same_ends regions others ≡ true → layout text pieces regions found layers ≡ layout text pieces others found layers
layout-same text pieces regions others found layers same =
    sym (layout-plain text pieces regions found layers) ∙ ap (λ rs. layout text pieces rs found layers) (ends-plain regions others same) ∙
    layout-plain text pieces others found layers

-- ---- searches that are the same

pub results-same : (text : List ℕ) (query other : Search) → is_same_search query other ≡ true → results text query ≡ results text other
results-same text query other same =
    let parts = and_parts (bytes_eq query.chars other.chars) (is_for_nothing query || beq query.case_counts other.case_counts) same in
    let chars = (bytes_eq-Decides query.chars other.chars).0 parts.0 in
    by (is_for_nothing query) refl chars query.case_counts other.case_counts parts.1
  where
    by : (b : Bool) → is_for_nothing query ≡ b → query.chars ≡ other.chars → (count counts : Bool) → (b || beq count counts) ≡ true →
        matches_of text query.chars (not count) ≡ matches_of text other.chars (not counts)
    by true none chars count counts either =
        results-none text (record { chars = query.chars; case_counts = count }) none ∙
        sym (results-none text (record { chars = other.chars; case_counts = counts }) (ap (λ cs. length cs == 0) (sym chars) ∙ none))
    by false some chars true true either = ap (λ cs. matches_of text cs false) chars
    by false some chars false false either = ap (λ cs. matches_of text cs true) chars
    by false some chars true false either = absurd cc
    by false some chars false true either = absurd cc

pub same-search : (before after : View) → is_cut_alike before after ≡ true → is_same_search before.query after.query ≡ true
same-search before after alike =
    let tabs = and_parts (before.config.tab == after.config.tab) _ alike in
    (and_parts (before.config.width == after.config.width) (is_same_search before.query after.query) tabs.1).1

-- ---- one text that is cut alike

pub is_same_layout-alike : (before after : View) → after.text ≡ before.text → is_cut_alike before after ≡ true → IsShownApart None before after →
    is_same_layout (layout_in before) (layout_in after) ≡ true
is_same_layout-alike before after text alike shown =
    let tabs = and_parts (before.config.tab == after.config.tab) _ alike in
    let widths = and_parts (before.config.width == after.config.width) (is_same_search before.query after.query) tabs.1 in
    let pieces =
    ap₂ (λ width tab. wrapped_pieces width tab before.text) (eqb-true before.config.width after.config.width widths.0)
    (eqb-true before.config.tab after.config.tab tabs.0) in
    (is_same_layout-Decides (layout_in before) (layout_in after)).1
    (layout-same before.text (pieces_in before) before.regions after.regions (results before.text before.query) before.layers shown.0 ∙
    ap₂ (λ cut found. layout before.text cut after.regions found before.layers) pieces (results-same before.text before.query after.query widths.1) ∙
    ap₂ (λ t ls. layout t (wrapped_pieces after.config.width after.config.tab t) after.regions (results t after.query) ls) (sym text) shown.1)

-- and its lines before that of a gap left of which what is shown is alike
pub lines-alike : (before after : View) (gap : ℕ) → all_scalars before.text ≡ true → after.text ≡ before.text → is_cut_alike before after ≡ true →
    IsShownApart (Some gap) before after → take (line_left_of before gap) (layout_in before) ≡ take (line_left_of before gap) (layout_in after)
lines-alike before after zero characters text alike shown = refl
lines-alike before after (suc gap) characters text alike shown =
    let pieces = pieces_in before in
    let found = results before.text before.query in
    let are = ArePieces-wrapped before.config.width before.config.tab before.text characters in
    let moved : View = record before { regions = after.regions; layers = after.layers } in
    styles-read before.text pieces before.regions found before.layers after.layers gap are
    (λ range left. ap sorted_spans (shown.1 range (omega arith))) ∙
    regions-read before.text pieces before.regions after.regions found after.layers gap are (λ at left. shown.0.carets at (omega arith))
    (λ index left. shown.0.selected index (omega arith)) ∙
    ap (take (layout_line_of pieces gap))
    ((is_same_layout-Decides (layout_in moved) (layout_in after)).0 (is_same_layout-alike moved after text alike (ends-same after.regions, refl)))

-- the line of the character left of a gap, as it is looked up
pub line_left_of-some : (view : View) (gap line : ℕ) → 0 < gap → line ≡ layout_line_of (pieces_in view) (gap - 1) → line ≡ line_left_of view gap
line_left_of-some view zero line some is = absurd (omega arith)
line_left_of-some view (suc gap) line some is =
    is ∙ ap (layout_line_of (pieces_in view)) (let back : suc gap - 1 ≡ gap = omega arith in back)

-- ---- what a view shows, by its parts

module _ (view : View) (index : Index) (regions : List Region) (found : Found) (index_is : index ≡ index_at view.text view.config)
    (regions_are : regions ≡ view.regions) (found_is : found ≡ found_at view.text view.query) where
  pub MayShow-shown : MayShow view.text view.regions (found_at view.text view.query) → MayShow index.text regions found
  MayShow-shown may =
      subst (λ (i : Index). MayShow i.text regions found) (sym index_is)
      (subst (λ (rs : List Region). MayShow view.text rs found) (sym regions_are)
      (subst (λ (f : Found). MayShow view.text view.regions f) (sym found_is) may))

  pub layout-shown : (layers : List Layer) → layers ≡ view.layers → layout index.text (indexed_pieces index) regions (runs_in found) layers ≡ layout_in view
  layout-shown layers layers_are =
      ap (λ (i : Index). layout i.text (indexed_pieces i) regions (runs_in found) layers) index_is ∙
      ap₂ (λ (rs : List Region) (f : Found). layout view.text (pieces_in view) rs (runs_in f) layers) regions_are found_is ∙
      ap (layout view.text (pieces_in view) view.regions (results view.text view.query)) layers_are

-- ---- what a view keeps

-- the pieces of its index are those of its text
pub pieces-kept : (config : Config) (index : Index) → index ≡ index_at index.text config → indexed_pieces index ≡ wrapped_pieces config.width config.tab index.text
pieces-kept config index is = ap indexed_pieces is

pub IsViewKept-made : (config : Config) (text : List ℕ) (index : Index) (regions : List Region) (query : Search) (found : Found) →
    all_scalars text ≡ true → 0 < config.tab → index ≡ index_at text config → IsSelection regions → AreWithin (length text) regions →
    found ≡ found_at text query → IsViewKept config index regions query found
IsViewKept-made config text index regions query found characters tab is sound inside found_is =
    let same : text ≡ index.text = sym (ap (λ (i : Index). i.text) is) in
    record {
      text = record {
        characters = subst (λ t. all_scalars t ≡ true) same characters;
        tab = tab;
        is = is ∙ ap (λ t. index_at t config) same;
      };
      found_are = found_is ∙ ap (λ t. found_at t query) same;
      sound = sound;
      inside = subst (λ t. AreWithin (length t) regions) same inside;
    }

module _ (config : Config) (index : Index) (regions : List Region) (query : Search) (found : Found) (is : IsViewKept config index regions query found) where
  pub IsViewKept-regions : (others : List Region) → IsSelection others → AreWithin (length index.text) others → IsViewKept config index others query found
  IsViewKept-regions others sound inside = record { text = is.text; found_are = is.found_are; sound = sound; inside = inside }

  pub IsViewKept-plain : IsViewKept config index (map without_goal regions) query found
  IsViewKept-plain = IsViewKept-regions (map without_goal regions) (IsSelection-plain regions is.sound) (AreWithin-plain (length index.text) regions is.inside)

  pub IsViewKept-config : (other : Config) → other.tab ≡ config.tab → other.width ≡ config.width → IsViewKept other index regions query found
  IsViewKept-config other tab width = record {
    text = record {
      characters = is.text.characters;
      tab = subst (λ n. 0 < n) (sym tab) is.text.tab;
      is = is.text.is ∙ ap₂ (λ w t. at w t) (sym width) (sym tab);
    };
    found_are = is.found_are;
    sound = is.sound;
    inside = is.inside;
  }
    where
      at : ℕ → ℕ → Index
      at w t = record { text = index.text; width = w; tab = t }
