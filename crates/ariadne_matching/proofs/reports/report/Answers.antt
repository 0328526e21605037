use Rattle.std.proofs.Common.{◌≡◌, ◌∙◌, ap, codes, string_bytes}
use Rattle.serde_json.specs.Data.{no_members, object, put, string}
use Rattle.serde_json.specs.View.{members_view}
use Rattle.serde_json.proofs.Views.{view-Object}
use Rattle.ariadne_matching.specs.MatchedReports.{kind_word, labels_of, with_code}
use Rattle.ariadne_matching.proofs.reports.report.Goals as goal

-- one member after the other
pub returns : goal.returns
returns c =
    let matched = c.args.matched.now in
    let word = string (kind_word matched.severity) in
    let kind : members_view c.put.new.map.entries ≡ put (codes "kind") word no_members =
    c.in_ok-put.ensures.ok
    ∙ ap (λ d. put (codes "kind") d (members_view c.new-members.result.entries)) (c.in_ok-kind.ensures ∙ ap string c.kind_word.ensures)
    ∙ ap (λ ms. put (codes "kind") word (members_view ms)) c.new-members.ensures.empty in
    let own = put (codes "kind") word no_members in
    let list = labels_of matched c.args.placed.now c.args.file.now in
    let labels : members_view c.put-2.new.map.entries ≡ put (codes "labels") list own =
    c.in_ok-put-2.ensures.ok
    ∙ ap (λ d. put (codes "labels") d (members_view c.put.new.map.entries)) c.in_ok-labels.ensures
    ∙ ap (put (codes "labels") list) kind in
    let said = string (string_bytes matched.message) in
    let message : members_view c.put-3.new.map.entries ≡ put (codes "message") said (put (codes "labels") list own) =
    c.in_ok-put-3.ensures.ok
    ∙ ap (λ d. put (codes "message") d (members_view c.put-2.new.map.entries)) (c.in_ok-message.ensures ∙ ap string c.as_str.ensures.value)
    ∙ ap (put (codes "message") said) labels in
    view-Object _ ∙ ap object (c.in_ok-put_code.ensures
    ∙ ap (λ o. with_code o (members_view c.put-3.new.map.entries)) c.as_ref.ensures.value
    ∙ ap (with_code matched.code) message)
