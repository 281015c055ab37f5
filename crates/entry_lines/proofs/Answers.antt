-- An answer that tells a result has the id of the request.
use Rattle.std.proofs.Common.{◌≡◌, ℕ, pos, negsuc, ◌++◌, [], ◌∷◌, List, Some, IfSome, option_map, option_and_then, refl, ap, ◌∙◌}
use Rattle.std.proofs.lemmas.Str.{chars-encodes}
use Rattle.std.specs.List.{AllByRecursion}
use Rattle.xi_plain.specs.declared.command.Id.{Id}
use Rattle.xi_plain.specs.declared.command.Id.TheVariants.{NoId, Num, Word}
use Rattle.serde_json.specs.Data.{Data}
use Rattle.json_rpc.specs.Line.{line_feed, line_of, IsLineOf}
use Rattle.json_rpc.specs.Request.{IsTextId}
use Rattle.json_rpc.specs.Response.{reply_data, id_data, given, answered_id, response_of}
use Rattle.entry_lines.specs.Answer.{accepted, answers}
use Rattle.entry_lines.specs.Piece.{HaveLines}
use Rattle.entry_lines.specs.PluginAnswer.{IsTextOf, gives, plugin_answer}
use Rattle.entry_lines.specs.Laws.{Gives, ResultsNameTheRequest}

answered_id-id_data : (id : Id) → IsTextId id → answered_id (id_data id) ≡ Some id
answered_id-id_data NoId h = refl
answered_id-id_data (Num (pos n)) h = refl
answered_id-id_data (Num (negsuc n)) h = refl
answered_id-id_data (Word text) h = ap (λ t. Some (Word t)) (chars-encodes text h)

gives_back : (id : Id) (result : Data) (line : List ℕ) → IsTextId id → IsLineOf (reply_data id result) line → Gives id result line
unfolding response_of
gives_back id result line h is =
    ap (option_and_then response_of) is.reads ∙ ap (option_map (λ i. record { id = i; answer = given result })) (answered_id-id_data id h)

front : (id : Id) (result : Data) → IsTextId id → HaveLines (answers id (accepted result))
    → AllByRecursion (λ message. Gives id result (line_of message)) (answers id (accepted result))
front NoId result h lines = tt
front (Num z) result h lines = (gives_back (Num z) result (line_of (reply_data (Num z) result)) h lines.0, tt)
front (Word text) result h lines = (gives_back (Word text) result (line_of (reply_data (Word text) result)) h lines.0, tt)

plugin : (id : Id) (result : Data) (bytes : List ℕ) → IsTextId id
    → IfSome (plugin_answer id (gives result)) (λ message. IsTextOf message bytes → Gives id result (bytes ++ line_feed ∷ []))
plugin NoId result bytes h = tt
plugin (Num z) result bytes h = λ is. gives_back (Num z) result (bytes ++ line_feed ∷ []) h is.line
plugin (Word text) result bytes h = λ is. gives_back (Word text) result (bytes ++ line_feed ∷ []) h is.line

pub results_name_the_request : ResultsNameTheRequest
results_name_the_request = record { front = front; plugin = plugin }
