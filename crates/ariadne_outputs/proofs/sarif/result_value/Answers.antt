use Rattle.std.proofs.Common.{◌≡◌, ◌∙◌, ap, codes}
use Rattle.std.specs.Prelude.{option_map}
use Rattle.serde_json.specs.Data.{array, no_members, object, put, string}
use Rattle.serde_json.specs.View.{items_of, members_view}
use Rattle.ariadne_outputs.specs.Located.{first_of, located_span_of, located_spans_of, others_of, severity_word, whole_of}
use Rattle.ariadne_outputs.specs.Sarif.{message_data, own_data, related_datas, with_rule}
use Rattle.ariadne_outputs.proofs.Related.{first_is, others_are}
use Rattle.ariadne_outputs.proofs.sarif.result_value.Goals as goal

-- one member after the other
pub returns : goal.returns
returns c =
    let spans = c.args.spans.now in
    let parsed = c.args.parsed.now in
    let main = first_of (located_spans_of spans) in
    let first = ap (option_map located_span_of) c.first-main.ensures.value ∙ first_is spans in
    let level : members_view c.put.new.map.entries ≡ put (codes "level") (string (severity_word parsed.severity)) no_members =
    c.in_ok-put.ensures.ok
    ∙ ap (λ d. put (codes "level") d (members_view c.new-members.result.entries))
    (c.in_ok-word.ensures ∙ ap string c.severity_word.ensures)
    ∙ ap (λ ms. put (codes "level") (string (severity_word parsed.severity)) (members_view ms)) c.new-members.ensures.empty in
    let own = put (codes "level") (string (severity_word parsed.severity)) no_members in
    let located_spans = array (items_of (own_data main)) in
    let two : members_view c.put-2.new.map.entries ≡ put (codes "locations") located_spans own =
    c.in_ok-put-2.ensures.ok
    ∙ ap (λ d. put (codes "locations") d (members_view c.put.new.map.entries))
    (c.in_ok-own_sarif_locations.ensures ∙ ap (λ o. array (items_of (own_data o))) first)
    ∙ ap (put (codes "locations") located_spans) level in
    let message = message_data (whole_of parsed main) in
    let three : members_view c.put-3.new.map.entries ≡ put (codes "message") message (put (codes "locations") located_spans own) =
    c.in_ok-put-3.ensures.ok
    ∙ ap (λ d. put (codes "message") d (members_view c.put-2.new.map.entries))
    (c.in_ok-message_value.ensures
    ∙ ap message_data (c.as_str.ensures.value ∙ c.in_ok-message.ensures ∙ ap (whole_of parsed) first))
    ∙ ap (put (codes "message") message) two in
    let related = array (items_of (related_datas 1 (others_of (located_spans_of spans)))) in
    let four : members_view c.put-4.new.map.entries
    ≡ put (codes "relatedLocations") related (put (codes "message") message (put (codes "locations") located_spans own)) =
    c.in_ok-put-4.ensures.ok
    ∙ ap (λ d. put (codes "relatedLocations") d (members_view c.put-3.new.map.entries))
    (c.in_ok-related_sarif_locations.ensures
    ∙ ap (λ ps. array (items_of (related_datas 1 (located_spans_of ps)))) c.other_spans.ensures
    ∙ ap (λ ls. array (items_of (related_datas 1 ls))) (others_are spans))
    ∙ ap (put (codes "relatedLocations") related) three in
    c.from.ensures
    ∙ ap object (c.in_ok-put_rule.ensures
    ∙ ap (λ o. with_rule o (members_view c.put-4.new.map.entries)) c.as_ref.ensures.value
    ∙ ap (with_rule parsed.code) four)
