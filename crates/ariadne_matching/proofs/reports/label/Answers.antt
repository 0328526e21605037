use Rattle.std.proofs.Common.{◌≡◌, ◌∙◌, ap, codes, string_bytes}
use Rattle.serde_json.specs.Data.{no_members, object, put, string}
use Rattle.serde_json.specs.View.{members_view}
use Rattle.serde_json.proofs.Views.{view-Object}
use Rattle.ariadne_matching.specs.MatchedReports.{spot_of, with_end}
use Rattle.ariadne_matching.proofs.reports.label.Goals as goal

-- one member after the other
pub returns : goal.returns
returns c =
    let matched = c.args.matched.now in
    let placed = c.args.placed.now in
    let name = string (string_bytes matched.file) in
    let file : members_view c.put.new.map.entries ≡ put (codes "file") name no_members =
    c.in_ok-put.ensures.ok
    ∙ ap (λ d. put (codes "file") d (members_view c.new-members.result.entries)) (c.in_ok-name.ensures ∙ ap string c.as_str.ensures.value)
    ∙ ap (λ ms. put (codes "file") name (members_view ms)) c.new-members.ensures.empty in
    let from = spot_of placed.line placed.column in
    let start : members_view c.put-2.new.map.entries ≡ put (codes "start") from (put (codes "file") name no_members) =
    c.in_ok-put-2.ensures.ok
    ∙ ap (λ d. put (codes "start") d (members_view c.put.new.map.entries)) c.in_ok-start.ensures
    ∙ ap (put (codes "start") from) file in
    view-Object _ ∙ ap object (c.in_ok-put_end.ensures ∙ ap (with_end c.args.file.now placed.end) start)
