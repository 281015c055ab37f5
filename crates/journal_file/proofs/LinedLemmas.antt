-- Lemmas on entries that surely have a line, and on the values of lines.
use Rattle.std.proofs.Common.{◌≡◌, ℕ, ◌<◌, ◌^◌, ◌==◌, ◌||◌, Bool, true, false, cond, List, codes, Some, None, IsUtf8, option_and_then, option_map, refl, sym, ap, subst, ◌∙◌, inl, inr, arith}
use Rattle.std.proofs.lemmas.Bool.{lt-ltb, ne_eqb}
use Rattle.json.proofs.Printed.Utf8.{IsUtf8-are_ascii}
use Rattle.hex.specs.Hex.{IsBytes, decode_of, encode_lower}
use Rattle.hex.proofs.HexLemmas.{decode_of-encode_lower}
use Rattle.serde_json.specs.Data.{Data, member, no_members, null, object, string}
use Rattle.json_rpc.specs.Line.{line_of, reading, IsLineOf}
use Rattle.serde_json.specs.Written.{compact_text, has_float}
use Rattle.json_rpc.proofs.ForCallers.{IsLineOf-line_of}
use Rattle.xi_plain.specs.declared.command.Act.{Act}
use Rattle.xi_plain.specs.declared.command.Act.TheVariants as Act
use Rattle.xi_plain.specs.declared.command.Command.{Command}
use Rattle.xi_plain.specs.declared.entry.Entry.{Entry}
use Rattle.xi_plain.specs.declared.entry.ShelfNote.TheVariants.{Held}
use Rattle.plugin_side.specs.Asking.{IsAsk}
use Rattle.plugin_wire.specs.Asked.{ask_of}
use Rattle.front_wire.specs.Front.{command_of}
use Rattle.journal_file.specs.Filed.{IsOneLine, bytes_if, command_by, entry_by, entry_from, entry_in, entry_of, note_of}
use Rattle.journal_file.specs.Lined.{IsLined, IsPlain, IsPluginCommand, IsUnasked, entry_data}

-- ---- the value of an entry

neither : (a b : Bool) → a ≡ false → b ≡ false → (a || b) ≡ false
neither false b h k = k
neither true b h k = h

pub IsPlain-entry_data : (caller : ℕ) (command note : Data) (sent : Bool) → caller < 2 ^ 32 → IsPlain 1 command → IsPlain 1 note
    → IsPlain 2 (entry_data caller command note sent)
IsPlain-entry_data caller command note sent h asks noted = record {
  proper = (
    IsUtf8-are_ascii _ refl,
    omega (arith, h),
    (refl, (refl, (refl, tt))),
    (
      IsUtf8-are_ascii _ refl,
      asks.proper,
      (refl, (refl, tt)),
      (IsUtf8-are_ascii _ refl, noted.proper, (refl, tt), (IsUtf8-are_ascii _ refl, tt, tt, tt)),
    ),
  );
  whole = neither (has_float command) _ asks.whole (neither (has_float note) _ noted.whole refl);
  shallow = omega (arith, asks.shallow, noted.shallow);
}

pub IsPlain-string : (d : Data) (text : List ℕ) → d ≡ string text → IsUtf8 text → IsPlain 1 d
IsPlain-string d text is utf8 = subst (IsPlain 1) (sym is) (record { proper = utf8; whole = refl; shallow = omega arith })

pub IsPlain-named : (d : Data) (name text : List ℕ) → d ≡ object (member name (string text) no_members) → IsUtf8 name → IsUtf8 text → IsPlain 1 d
IsPlain-named d name text is named utf8 =
    subst (IsPlain 1) (sym is) (record { proper = (named, utf8, tt, tt); whole = refl; shallow = omega arith })

-- a file's bytes are read back from a text, and from digits
pub note_of-text : (d : Data) (text bytes : List ℕ) → d ≡ object (member (codes "text") (string text) no_members) → text ≡ bytes
    → note_of d ≡ Some (Held bytes)
note_of-text d text bytes is same = ap note_of is ∙ ap (λ t. Some (Held t)) same

pub note_of-digits : (d : Data) (digits bytes : List ℕ) → d ≡ object (member (codes "base16") (string digits) no_members)
    → digits ≡ encode_lower bytes → IsBytes bytes → note_of d ≡ Some (Held bytes)
note_of-digits d digits bytes is same fits =
    ap note_of is ∙ ap (λ x. option_map Held (bytes_if (decode_of x))) same
    ∙ ap (λ r. option_map Held (bytes_if r)) (decode_of-encode_lower bytes fits)

entry_of-entry_data : (caller : ℕ) (command note : Data) (sent : Bool) → caller < 2 ^ 32
    → entry_of (entry_data caller command note sent) ≡ entry_from caller (command_by caller command) (note_of note) (Some sent)
entry_of-entry_data caller command note sent h =
    ap (λ b. option_and_then (λ n. entry_by n (entry_data caller command note sent)) (cond b (Some caller) None)) (lt-ltb caller (2 ^ 32) h)

-- an entry is read back where its command and its note are
pub entry_of-back : (entry : Entry) (command note : Data) → entry.caller < 2 ^ 32 → command_by entry.caller command ≡ Some entry.command
    → note_of note ≡ Some entry.shelf → entry_of (entry_data entry.caller command note entry.sent) ≡ Some entry
entry_of-back entry command note h asks noted =
    entry_of-entry_data entry.caller command note entry.sent h ∙ (λ i. entry_from entry.caller (asks i) (noted i) (Some entry.sent))

-- ---- its line

IsLineOf-plain : (d : Data) → IsPlain 2 d → IsLineOf d (line_of d)
IsLineOf-plain d plain = IsLineOf-line_of d plain.proper plain.whole (omega (arith, plain.shallow))

pub IsOneLine-line_of : (d : Data) (bytes : List ℕ) → bytes ≡ line_of d → IsPlain 2 d → IsOneLine bytes
unfolding line_of
IsOneLine-line_of d bytes is plain = (compact_text d, is, (IsLineOf-plain d plain).one)

pub entry_in-line_of : (d : Data) (bytes : List ℕ) → bytes ≡ line_of d → IsPlain 2 d → entry_in bytes ≡ entry_of d
unfolding entry_in
entry_in-line_of d bytes is plain = ap (option_and_then entry_of) (ap reading is ∙ (IsLineOf-plain d plain).reads)

-- ---- its command

-- a plugin asks nothing that no line asks
asked_or_not : (act : Act) → IsUnasked act → IsAsk act → ⊥
asked_or_not Act.Ended none asks = asks
asked_or_not Act.Closing none asks = asks
asked_or_not (Act.Bad fault) none asks = none
asked_or_not Act.Nothing none asks = none
asked_or_not (Act.Configure changes) none asks = none
asked_or_not (Act.NewView path) none asks = none
asked_or_not (Act.CloseView view) none asks = none
asked_or_not (Act.Save view path) none asks = none
asked_or_not (Act.Edit view act) none asks = none
asked_or_not (Act.PluginEdit view rev delta priority after_cursor author named) none asks = none
asked_or_not (Act.GetData view rev start max) none asks = none
asked_or_not (Act.UpdateSpans view rev start len spans) none asks = none
asked_or_not (Act.LineCount view) none asks = none
asked_or_not (Act.Alert msg) none asks = none
asked_or_not (Act.Ack view rev) none asks = none

IsUnasked-either : (b : Bool) → IsUnasked (cond b Act.Closing Act.Ended)
IsUnasked-either true = tt
IsUnasked-either false = tt

-- null is read as the command that no line asks
pub command_by-null : (caller : ℕ) (command : Command) → IsUnasked command.act → IsLined caller command → command_by caller null ≡ Some command
command_by-null caller command none lined = elim lined [
  | inl is ↦ ap Some (sym is)
  | inr asked ↦ absurd (asked_or_not command.act none asked.asks)
]

-- and a line as what it asks
pub command_by-line : (caller : ℕ) (command : Command) (line : List ℕ) → (IsUnasked command.act → ⊥)
    → (IsPluginCommand caller command → ask_of line ≡ command) → IsLined caller command → command_by caller (string line) ≡ Some command
command_by-line caller command line other asks lined = elim lined [
  | inl is ↦ absurd (other (subst (λ c. IsUnasked c.act) (sym is) (IsUnasked-either (caller == 0))))
  | inr asked ↦
      let above : (caller == 0) ≡ false = ne_eqb caller 0 (λ e. omega (arith, asked.plugin, e)) in
      ap (λ b. Some (cond b (command_of line) (ask_of line))) above ∙ ap Some (asks asked)
]
