-- No line of the front end closes the session.
use Rattle.std.proofs.Common.{◌≡◌, ℕ, zero, suc, Bool, true, false, List, [], ◌∷◌, Option, Some, None, refl}
use Rattle.std.specs.Prelude.{slice_get, unwrap_or, option_and_then, if◌then◌else◌, Result, Ok, Err}
use Rattle.std.specs.List.{AllByRecursion}
use Rattle.std.specs.Str.{encode_utf8_all}
use Rattle.serde_json.specs.Data.{Data, null}
use Rattle.serde_json.specs.Find.{as_str}
use Rattle.xi_plain.specs.declared.config.Changes.{Changes}
use Rattle.xi_plain.specs.declared.command.EditAct.{EditAct}
use Rattle.xi_plain.specs.declared.command.Act.{Act}
use Rattle.xi_plain.specs.declared.command.Act.TheVariants.{Nothing, Configure}
use Rattle.xi_plain.specs.Journal.{closes}
use Rattle.json_rpc.specs.Request.{Request, LineRefusal, line_request}
use Rattle.case_front.specs.Members.{PlainMember, view, view_and_path, path_if_any, domain_and_changes, edit_members}
use Rattle.case_front.specs.Table.{front_names}
use Rattle.front_wire.specs.declared.edit.EditMethod.{EditMethod}
use Rattle.front_wire.specs.declared.edit.EditMethod.TheVariants.{Row, Free, Unknown, Unnamed}
use Rattle.front_wire.specs.Members.{first_bad, given, text}
use Rattle.front_wire.specs.Edits.{edit_in_row}
use Rattle.front_wire.specs.Front.{act_or_bad, edit_method, edit_of, edit_by, edit_with, edit_act, changes_of, configured, is_general, change_in, no_changes, line_acts, acts_of_lines, line_act, is_free, act_of_none, act_with, row_of, act_of, command_from, command_of}

-- the act closes nothing
abbrev Stays : Act → Type 0
Stays act = closes act ≡ false

or_bad : (bad : Option (List ℕ)) (act : Act) → Stays act → Stays (act_or_bad bad act)
or_bad None act stays = stays
or_bad (Some member) act stays = refl

of_edit : (id : List ℕ) (made : Result EditAct (List ℕ)) → Stays (edit_of id made)
of_edit id (Ok act) = refl
of_edit id (Err member) = refl

by_method : (method : EditMethod) (id : List ℕ) (params : Data) → Stays (edit_by method id params)
by_method (Row row) id params = of_edit id (edit_in_row row params)
by_method Free id params = refl
by_method (Unknown name) id params = refl
by_method Unnamed id params = refl

with_method : (members : List PlainMember) (method : EditMethod) (params : Data) → Stays (edit_with members method params)
with_method members (Unknown name) params = refl
with_method members (Row row) params = or_bad (first_bad 0 members params) _
    (by_method (Row row) (text (given members params 0)) (unwrap_or (given members params 2) null))
with_method members Free params = or_bad (first_bad 0 members params) _
    (by_method Free (text (given members params 0)) (unwrap_or (given members params 2) null))
with_method members Unnamed params = or_bad (first_bad 0 members params) _
    (by_method Unnamed (text (given members params 0)) (unwrap_or (given members params 2) null))

edits : (members : List PlainMember) (params : Data) → Stays (edit_act members params)
unfolding edit_act
edits members params = with_method members (edit_method (option_and_then as_str (given members params 1))) params

of_changes : (changes : Option Changes) → Stays (configured changes)
of_changes None = refl
of_changes (Some changes) = refl

configures : (general : Bool) (changes : Option Changes) → Stays (if general then configured changes else Configure no_changes)
configures true changes = of_changes changes
configures false changes = refl

in_row : (acts : List Act) (row : ℕ) → AllByRecursion Stays acts → Stays (unwrap_or (slice_get acts row) Nothing)
in_row [] row all = refl
in_row (act ∷ acts) zero all = all.0
in_row (act ∷ acts) (suc row) all = in_row acts row all.1

of_row : (row : ℕ) (params : Data) → Stays (line_act row params)
unfolding line_act
of_row row params =
    in_row (acts_of_lines (line_acts params)) row (
      refl,
      (
        or_bad (first_bad 0 view params) _ refl,
        (
          edits edit_members params,
          (
            or_bad (first_bad 0 domain_and_changes params) _
                (configures (is_general (option_and_then as_str (given domain_and_changes params 0))) (changes_of (given domain_and_changes params 1))),
            (
              or_bad (first_bad 0 path_if_any params) _ refl,
              (
                refl,
                (
                  refl,
                  (
                    or_bad (first_bad 0 view_and_path params) _ refl,
                    (
                      refl,
                      (
                        refl,
                        (
                          refl,
                          tt,
                        ),
                      ),
                    ),
                  ),
                ),
              ),
            ),
          ),
        ),
      ),
    )

of_none : (free : Bool) (act : Act) → Stays act → Stays (if free then Nothing else act)
of_none true act stays = refl
of_none false act stays = stays

of_method : (row : Option ℕ) (method : List ℕ) (params : Data) → Stays (act_with row method params)
of_method (Some row) method params = of_row row params
of_method None method params = of_none (is_free (encode_utf8_all method)) _ refl

of_read : (read : Result Request LineRefusal) → Stays (command_from read).act
of_read (Ok request) = of_method (row_of front_names (encode_utf8_all request.method)) request.method request.params
of_read (Err refusal) = refl

pub closes-command_of : (line : List ℕ) → closes (command_of line).act ≡ false
unfolding command_of
closes-command_of line = of_read (line_request line)
