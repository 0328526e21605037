use Rattle.std.proofs.Common.{◌≡◌, ◌∙◌, ap, ap₂, List, ℕ}
use Rattle.std.proofs.lemmas.Result.{IfOk-weaker}
use Rattle.std.specs.List.{join_by}
use Rattle.std.specs.Prelude.{map, option_map, string_bytes}
use Rattle.std.specs.Str.{trim}
use Rattle.ariadne_matchers.proofs.MessageRows.{join_seen}
use Rattle.ariadne_matchers.proofs.LentTexts.{own_text}
use Rattle.ariadne_matchers.specs.Catches.{caught_at, cut_told}
use Rattle.ariadne_matchers.specs.MatchedMessages.{chosen, message_of, message_rows, unescaped}
use Rattle.ariadne_matchers.proofs.messages.message.Goals as goal

-- the rows are joined, and what is chosen has no escapes
pub returns : goal.returns
unfolding message_of
returns c =
    let entry = c.args.entry.now in
    let lines = map caught_at c.args.lines.now in
    let join = string_bytes entry.join in
    let joined : string_bytes c.in_ok-joined.joined ≡ join_by (λ row. row) join (message_rows lines) =
    c.in_ok-joined.ensures.ok ∙ ap (λ (text : List ℕ). join_by (λ row. row.now) text c.as_slice.result.now) c.as_str.ensures.value
    ∙ ap (join_by (λ row. row.now) join) c.as_slice.ensures.value ∙ join_seen join c.in_ok-rows.rows.items
    ∙ ap (join_by (λ row. row) join) c.in_ok-rows.ensures in
    let text : c.trim.result.now ≡ trim (join_by (λ row. row) join (message_rows lines)) =
    c.trim.ensures.trim ∙ ap trim (c.as_str-2.ensures.value ∙ joined) in
    let own = own_text c.as_ref.result entry.message c.as_ref.ensures.value in
    let choice : c.chosen-message.result.now
    ≡ chosen (trim (join_by (λ row. row) join (message_rows lines))) (option_map string_bytes entry.message) (option_map cut_told c.args.code) =
    c.chosen-message.ensures ∙ ap₂ (λ some other. chosen some other (option_map cut_told c.args.code)) text own in
    IfOk-weaker c.unescaped.result _ _ (λ plain is. is ∙ ap (unescaped entry.is_escaped) choice) c.unescaped.ensures
