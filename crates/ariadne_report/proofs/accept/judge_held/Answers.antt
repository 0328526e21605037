-- The label joins those that are drawn, or those that are left out.
use Rattle.std.proofs.Common.{◌≡◌, ◌∙◌, ap, sym}
use Rattle.std.specs.Prelude.{chars}
use Rattle.ariadne_picture.specs.Accept.{text_len}
use Rattle.ariadne_picture.specs.Report.{ReportFields}
use Rattle.ariadne_report.proofs.Judging.{so_far_accepted, so_far_past, so_far_cuts}
use Rattle.ariadne_report.proofs.accept.judge_held.Goals as goal

-- its source has this size
pub judge-requires-clause-size : goal.judge-requires-clause-size
judge-requires-clause-size g c =
    c.requires.size ∙ ap (λ (r : ReportFields g.row.S.Denot). text_len r.config.index_type (chars c.args.source.now.text)) (sym c.report.view_is)

-- it is accepted
pub returns-in_ok-push-in-Accepted-clause-judged : goal.returns-in_ok-push-in-Accepted-clause-judged
returns-in_ok-push-in-Accepted-clause-judged g c = λ start_names names start_contents contents early at_source before.
    let labels = c.args.report.now.labels in
    let same : c.report.inside.labels.items ≡ labels = ap (λ (r : ReportFields g.row.S.Denot). r.labels) c.report.view_is in
    let config : c.report.inside.config ≡ c.args.report.now.config = ap (λ (r : ReportFields g.row.S.Denot). r.config) c.report.view_is in
    let is = rw same at c.index.ensures in
    let verdict = rw config at c.judge.ensures.verdict in
    rw (c.in_ok-push-in-Accepted.ensures.items)
    (so_far_accepted _ _ _ _ _ _ g.met.S.SourceId.Eq.laws _ _ _ _ labels c.args.position c.index.result.now c.requires.position is c.judge.ensures.forward early
    _ _ c.args.source.now at_source before c.in-Accepted.info (sym verdict ∙ c.in-Accepted.is))

-- it lies past its source
pub returns-in_ok-leave_out-in-PastSource-clause-judged : goal.returns-in_ok-leave_out-in-PastSource-clause-judged
returns-in_ok-leave_out-in-PastSource-clause-judged g c = λ start_names names start_contents contents early at_source before.
    let labels = c.args.report.now.labels in
    let same : c.report.inside.labels.items ≡ labels = ap (λ (r : ReportFields g.row.S.Denot). r.labels) c.report.view_is in
    let config : c.report.inside.config ≡ c.args.report.now.config = ap (λ (r : ReportFields g.row.S.Denot). r.config) c.report.view_is in
    let is = rw same at c.index.ensures in
    let verdict = rw config at c.judge.ensures.verdict in
    rw (c.in_ok-leave_out-in-PastSource.ensures.infos, c.in_ok-leave_out-in-PastSource.ensures.left_out)
    (so_far_past _ _ _ _ _ _ g.met.S.SourceId.Eq.laws _ _ _ _ labels c.args.position c.index.result.now c.requires.position is c.judge.ensures.forward early
    _ _ c.args.source.now at_source before (sym verdict ∙ c.in-PastSource.is))

-- it cuts a character
pub returns-in_ok-leave_out-in-CutsCharacter-clause-judged : goal.returns-in_ok-leave_out-in-CutsCharacter-clause-judged
returns-in_ok-leave_out-in-CutsCharacter-clause-judged g c = λ start_names names start_contents contents early at_source before.
    let labels = c.args.report.now.labels in
    let same : c.report.inside.labels.items ≡ labels = ap (λ (r : ReportFields g.row.S.Denot). r.labels) c.report.view_is in
    let config : c.report.inside.config ≡ c.args.report.now.config = ap (λ (r : ReportFields g.row.S.Denot). r.config) c.report.view_is in
    let is = rw same at c.index.ensures in
    let verdict = rw config at c.judge.ensures.verdict in
    rw (c.in_ok-leave_out-in-CutsCharacter.ensures.infos, c.in_ok-leave_out-in-CutsCharacter.ensures.left_out)
    (so_far_cuts _ _ _ _ _ _ g.met.S.SourceId.Eq.laws _ _ _ _ labels c.args.position c.index.result.now c.requires.position is c.judge.ensures.forward early
    _ _ c.args.source.now at_source before (sym verdict ∙ c.in-CutsCharacter.is))
