-- Parts of a note that are written one after the other, and what they are together.
use Rattle.std.proofs.Common.{◌≡◌, ℕ, List, [], ◌∷◌, ◌++◌, Option, Some, map, length, codes, option_map, refl, ap, ◌∙◌, subst}
use Rattle.json.specs.Token.{Token}
use Rattle.json_rpc.specs.Response.{text_data}
use Rattle.json_rpc.specs.Tokens.{value_then, members_then, Adds}
use Rattle.json_rpc.proofs.ForCallers.{Adds-pushed}
use Rattle.serde_json.specs.Data.{Data, boolean, object, Members, no_members, member}
use Rattle.plain_edits.specs.declared.style.Style.{Style}
use Rattle.plain_screen.specs.declared.screen.Line.{Line}
use Rattle.plain_screen.specs.declared.screen.Restyle.{Restyle}
use Rattle.plain_screen.specs.declared.screen.Op.TheVariants.{Copy, Update as Restyling}
use Rattle.plain_screen.specs.declared.screen.Update.{Update}
use Rattle.view_update.specs.Written.{count_data, list_data, triple_items, after_ln, line_data, restyle_data, op_members, op_data, ops_data, update_params}
use Rattle.view_update.specs.Notes.{scroll_params, alert_params, style_params}
use Rattle.view_update.specs.Parts.{each_then, member_then, op_then}
use Rattle.view_update.proofs.Made.{each_then-list, member_then-after}
use Rattle.view_update.proofs.Plain.{from_weight, from_underline, from_italic, from_id, from_fg}

-- a token that is put at the end stands before more
pushed : (old new : List Token) (t : Token) → new ≡ old ++ t ∷ [] → Adds old new (λ more. t ∷ more)
pushed old new t e = Adds-pushed old new (t ∷ []) e

-- a member that is a list: its name, its bracket, its items, its other bracket
pub list_tokens : (name : List ℕ) (ds : List Data) (a b c d e : List Token) → b ≡ a ++ Token.key name ∷ [] → c ≡ b ++ Token.begin_array ∷ [] → Adds c d (each_then ds) → e ≡ d ++ Token.end_array ∷ []
    → Adds a e (member_then name (Some (list_data ds)))
list_tokens name ds a b c d e key begin items end = λ more.
    pushed d e Token.end_array end more
    ∙ items (Token.end_array ∷ more)
    ∙ pushed b c Token.begin_array begin (each_then ds (Token.end_array ∷ more))
    ∙ pushed a b (Token.key name) key (Token.begin_array ∷ each_then ds (Token.end_array ∷ more))
    ∙ ap (λ ts. a ++ Token.key name ∷ Token.begin_array ∷ ts) (each_then-list ds more)

-- an object: its brace, and its members with the other one
pub object_tokens : (a b c : List Token) (ms : Members) → b ≡ a ++ Token.begin_object ∷ [] → Adds b c (members_then ms) → Adds a c (value_then (object ms))
object_tokens a b c ms begin rest = λ more. rest more ∙ pushed a b Token.begin_object begin (members_then ms more)

-- a member and those after it
pub member_tokens : (a b c : List Token) (name : List ℕ) (value : Option Data) (ms after : Members) → Adds a b (member_then name value) → Adds b c (members_then ms)
    → ((more : List Token) → member_then name value (members_then ms more) ≡ members_then after more) → Adds a c (members_then after)
member_tokens a b c name value ms after first rest same = λ more. rest more ∙ first (members_then ms more) ∙ ap (λ ts. a ++ ts) (same more)

-- a name and a value are a member
pub named_tokens : (a b c : List Token) (name : List ℕ) (d : Data) → b ≡ a ++ Token.key name ∷ [] → Adds b c (value_then d) → Adds a c (member_then name (Some d))
named_tokens a b c name d key value = λ more. value more ∙ pushed a b (Token.key name) key (value_then d more)

-- a value of one token
pub one_token : (a b : List Token) (t : Token) → b ≡ a ++ t ∷ [] → Adds a b (λ more. t ∷ more)
one_token a b t e = pushed a b t e

-- the brace alone, where no member is left
pub end_tokens : (a b : List Token) → b ≡ a ++ Token.end_object ∷ [] → Adds a b (members_then no_members)
end_tokens a b e = pushed a b Token.end_object e

-- a list of what is the same, and a number that is the same
pub list_given : {A : Type 0} (name : List ℕ) (f : List A → List Data) (xs ys : List A) (a b : List Token) → xs ≡ ys → Adds a b (member_then name (Some (list_data (f xs))))
    → Adds a b (member_then name (Some (list_data (f ys))))
list_given name f xs ys a b is adds = subst (λ zs. Adds a b (member_then name (Some (list_data (f zs))))) is adds

pub count_given : (name : List ℕ) (n m : Option ℕ) (a b : List Token) → n ≡ m → Adds a b (member_then name (option_map count_data n)) → Adds a b (member_then name (option_map count_data m))
count_given name n m a b is adds = subst (λ k. Adds a b (member_then name (option_map count_data k))) is adds

pub line_tokens : (line : Line) (a b c d e f g h : List Token) → b ≡ a ++ Token.begin_object ∷ [] → Adds b c (member_then (codes "cursor") (Some (list_data (map count_data line.cursor))))
    → Adds c d (member_then (codes "ln") (option_map count_data line.ln)) → Adds d e (member_then (codes "styles") (Some (list_data (triple_items line.styles))))
    → f ≡ e ++ Token.key (codes "text") ∷ [] → g ≡ f ++ value_then (text_data line.text) [] → h ≡ g ++ Token.end_object ∷ [] → Adds a h (value_then (line_data line))
line_tokens line a b c d e f g h begin cursor ln styles key text end =
    let last : Members = member (codes "text") (text_data line.text) no_members in
    let later : Members = member (codes "styles") (list_data (triple_items line.styles)) last in
    let from_text : Adds e h (members_then last) =
    member_tokens e g h (codes "text") (Some (text_data line.text)) no_members last (named_tokens e f g (codes "text") (text_data line.text) key (Adds-pushed f g _ text)) (end_tokens g h end) (λ more. refl) in
    let from_styles : Adds d h (members_then later) = member_tokens d e h (codes "styles") (Some (list_data (triple_items line.styles))) last later styles from_text (λ more. refl) in
    let from_ln = member_tokens c d h (codes "ln") (option_map count_data line.ln) later (after_ln line.ln later) ln from_styles (member_then-after (codes "ln") (option_map count_data line.ln) later) in
    let numbered : Members = after_ln line.ln later in
    let all : Members = member (codes "cursor") (list_data (map count_data line.cursor)) numbered in
    object_tokens a b h all begin (member_tokens b c h (codes "cursor") (Some (list_data (map count_data line.cursor))) numbered all cursor from_ln (λ more. refl))

pub restyle_tokens : (restyle : Restyle) (a b c d e : List Token) → b ≡ a ++ Token.begin_object ∷ [] → Adds b c (member_then (codes "cursor") (Some (list_data (map count_data restyle.cursor))))
    → Adds c d (member_then (codes "styles") (Some (list_data (triple_items restyle.styles)))) → e ≡ d ++ Token.end_object ∷ [] → Adds a e (value_then (restyle_data restyle))
restyle_tokens restyle a b c d e begin cursor styles end = λ more.
    pushed d e Token.end_object end more
    ∙ styles (Token.end_object ∷ more)
    ∙ cursor _
    ∙ pushed a b Token.begin_object begin _

pub copy_tokens : (n : ℕ) (ln : Option ℕ) (a b c d : List Token) → b ≡ a ++ Token.begin_object ∷ [] → Adds b c (member_then (codes "ln") (option_map count_data ln)) → Adds c d (op_then n (codes "copy"))
    → Adds a d (value_then (op_data (Copy n ln)))
copy_tokens n ln a b c d begin first end =
    let members = op_members n (codes "copy") in
    object_tokens a b d _ begin (member_tokens b c d (codes "ln") (option_map count_data ln) members _ first end (member_then-after (codes "ln") (option_map count_data ln) members))

pub ins_tokens : (value : Data) (n : ℕ) (op : List ℕ) (a b c d : List Token) → b ≡ a ++ Token.begin_object ∷ [] → Adds b c (member_then (codes "lines") (Some value)) → Adds c d (op_then n op)
    → Adds a d (value_then (object (member (codes "lines") value (op_members n op))))
ins_tokens value n op a b c d begin lines end =
    let all : Members = member (codes "lines") value (op_members n op) in
    object_tokens a b d all begin (member_tokens b c d (codes "lines") (Some value) (op_members n op) all lines end (λ more. refl))

pub restyling_tokens : (ln : Option ℕ) (restyles : List Restyle) (a b c d e : List Token) → b ≡ a ++ Token.begin_object ∷ []
    → Adds b c (member_then (codes "lines") (Some (list_data (map restyle_data restyles)))) → Adds c d (member_then (codes "ln") (option_map count_data ln))
    → Adds d e (op_then (length restyles) (codes "update")) → Adds a e (value_then (op_data (Restyling ln restyles)))
restyling_tokens ln restyles a b c d e begin lines first end =
    let members = op_members (length restyles) (codes "update") in
    let value = list_data (map restyle_data restyles) in
    let numbered : Members = after_ln ln members in
    let all : Members = member (codes "lines") value numbered in
    let from_ln = member_tokens c d e (codes "ln") (option_map count_data ln) members numbered first end (member_then-after (codes "ln") (option_map count_data ln) members) in
    object_tokens a b e all begin (member_tokens b c e (codes "lines") (Some value) numbered all lines from_ln (λ more. refl))

pub update_tokens : (update : Update) (a b c d e f : List Token) → b ≡ a ++ Token.begin_object ∷ [] → Adds b c (member_then (codes "ops") (Some (list_data (map op_data update.ops))))
    → d ≡ c ++ Token.key (codes "pristine") ∷ [] → e ≡ d ++ value_then (boolean update.pristine) [] → f ≡ e ++ Token.end_object ∷ [] → Adds a f (value_then (ops_data update))
update_tokens update a b c d e f begin ops key truth end = λ more.
    pushed e f Token.end_object end more
    ∙ Adds-pushed d e _ truth _
    ∙ pushed c d (Token.key (codes "pristine")) key _
    ∙ ops _
    ∙ pushed a b Token.begin_object begin _

pub params_tokens : (view : List ℕ) (update : Update) (a b c d e f g : List Token) → b ≡ a ++ Token.begin_object ∷ [] → c ≡ b ++ Token.key (codes "update") ∷ [] → Adds c d (value_then (ops_data update))
    → e ≡ d ++ Token.key (codes "view_id") ∷ [] → f ≡ e ++ value_then (text_data view) [] → g ≡ f ++ Token.end_object ∷ [] → Adds a g (value_then (update_params view update))
params_tokens view update a b c d e f g begin first ops second text end = λ more.
    pushed f g Token.end_object end more
    ∙ Adds-pushed e f _ text _
    ∙ pushed d e (Token.key (codes "view_id")) second _
    ∙ ops _
    ∙ pushed b c (Token.key (codes "update")) first _
    ∙ pushed a b Token.begin_object begin _

pub scroll_tokens : (view : List ℕ) (line col : ℕ) (a b c d e f g h i : List Token) → b ≡ a ++ Token.begin_object ∷ [] → c ≡ b ++ Token.key (codes "col") ∷ [] → d ≡ c ++ value_then (count_data col) []
    → e ≡ d ++ Token.key (codes "line") ∷ [] → f ≡ e ++ value_then (count_data line) [] → g ≡ f ++ Token.key (codes "view_id") ∷ [] → h ≡ g ++ value_then (text_data view) []
    → i ≡ h ++ Token.end_object ∷ [] → Adds a i (value_then (scroll_params view line col))
scroll_tokens view line col a b c d e f g h i begin k1 v1 k2 v2 k3 v3 end = λ more.
    pushed h i Token.end_object end more
    ∙ Adds-pushed g h _ v3 _
    ∙ pushed f g (Token.key (codes "view_id")) k3 _
    ∙ Adds-pushed e f _ v2 _
    ∙ pushed d e (Token.key (codes "line")) k2 _
    ∙ Adds-pushed c d _ v1 _
    ∙ pushed b c (Token.key (codes "col")) k1 _
    ∙ pushed a b Token.begin_object begin _

pub alert_tokens : (message : List ℕ) (a b c d e : List Token) → b ≡ a ++ Token.begin_object ∷ [] → c ≡ b ++ Token.key (codes "msg") ∷ [] → d ≡ c ++ value_then (text_data message) [] → e ≡ d ++ Token.end_object ∷ []
    → Adds a e (value_then (alert_params message))
alert_tokens message a b c d e begin key text end = λ more.
    pushed d e Token.end_object end more
    ∙ Adds-pushed c d _ text _
    ∙ pushed b c (Token.key (codes "msg")) key _
    ∙ pushed a b Token.begin_object begin _

pub style_tokens : (id : ℕ) (style : Style) (a b c d e f g h i : List Token) → b ≡ a ++ Token.begin_object ∷ []
    → Adds b c (member_then (codes "bg_color") (option_map count_data style.bg_color)) → Adds c d (member_then (codes "fg_color") (option_map count_data style.fg_color))
    → Adds d e (member_then (codes "id") (Some (count_data id))) → Adds e f (member_then (codes "italic") (option_map boolean style.italic))
    → Adds f g (member_then (codes "underline") (option_map boolean style.underline)) → Adds g h (member_then (codes "weight") (option_map count_data style.weight))
    → i ≡ h ++ Token.end_object ∷ [] → Adds a i (value_then (style_params id style))
style_tokens id style a b c d e f g h i begin bg fg number italic underline weight end =
    let from_end = end_tokens h i end in
    let w = member_tokens g h i (codes "weight") _ no_members (from_weight style) weight from_end (member_then-after (codes "weight") (option_map count_data style.weight) no_members) in
    let u = member_tokens f g i (codes "underline") _ (from_weight style) (from_underline style) underline w (member_then-after (codes "underline") (option_map boolean style.underline) (from_weight style)) in
    let t = member_tokens e f i (codes "italic") _ (from_underline style) (from_italic style) italic u (member_then-after (codes "italic") (option_map boolean style.italic) (from_underline style)) in
    let n = member_tokens d e i (codes "id") (Some (count_data id)) (from_italic style) (from_id id style) number t (λ more. refl) in
    let m = member_tokens c d i (codes "fg_color") _ (from_id id style) (from_fg id style) fg n (member_then-after (codes "fg_color") (option_map count_data style.fg_color) (from_id id style)) in
    object_tokens a b i _ begin (member_tokens b c i (codes "bg_color") _ (from_fg id style) _ bg m (member_then-after (codes "bg_color") (option_map count_data style.bg_color) (from_fg id style)))
