-- It is the report that stands for the other, under the name of its kind.
use Rattle.std.proofs.Common.{◌≡◌, ◌∙◌, ap, refl}
use Rattle.std.proofs.lemmas.Result.{IfOk-weaker}
use Rattle.ariadne.specs.Kinds as kinds
use Rattle.ariadne_safe.specs.SafeBuilding.{kind_in}
use Rattle.ariadne_safe.specs.Sources.{sources_of}
use Rattle.ariadne_calls.specs.Safe.{shown_kind, shown_report}
use Rattle.ariadne_calls.proofs.safe.picture_over.Goals as goal

pub returns-clause-ok : goal.returns-clause-ok
returns-clause-ok c =
    let safe = sources_of c.args.sources.now in
    let named : kinds.kind_of (kind_in c.safe_kind-kind.result) ≡ shown_kind c.args.asked.now.kind =
    rw (c.safe_kind-kind.ensures, c.as_str.ensures.value, c.in_ok-name.ensures.signs, c.name.ensures, c.kind.ensures.kind, c.kind-2.ensures.kind) refl in
    IfOk-weaker c.picture_of.result _ _ (λ p shown. rw (
      c.in_ok-safe_report.ensures.sources,
      c.in_ok-safe_report.ensures.report ∙ ap (λ k. record (shown_report safe c.args.asked.now) { kind = k }) named,
    ) at shown)
    c.picture_of.ensures.ok
