-- Blanks behind a code hide nothing.
use Rattle.std.proofs.Common.{◌≡◌, ◌∙◌, true, ap, sym, subst}
use Rattle.ariadne_safe.specs.Pictures.{is_shown_report}
use Rattle.ariadne_safe.proofs.ShownReports.{coded_shown}
use Rattle.ariadne_safe.proofs.report.SafeBuilder.with_code_text.Goals as goal

pub invariant_of-result : goal.invariant_of-result
invariant_of-result c = record {
  texts_are_shown = subst (λ r. is_shown_report r ≡ true) (sym c.in_ok-report.ensures)
      (coded_shown c.args.self.report c.as_str.result.now c.args.self.texts_are_shown (rw c.as_str.ensures.value c.in_ok-code.ensures.seen));
  counts_alike = ap (λ r. r.config.index_type) c.in_ok-report.ensures ∙ c.args.self.counts_alike;
}
