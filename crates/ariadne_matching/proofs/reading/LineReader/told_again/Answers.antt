use Rattle.std.proofs.Common.{◌≡◌, ◌∙◌, ap, arith, length, map, string_bytes, subst, sym, IfOk, IfSome, Option, String}
use Rattle.std.specs.declared.alloc.Global.{Global}
use Rattle.std.proofs.lemmas.Result.{IfOk-weaker}
use Rattle.ariadne_matchers.specs.Catches.{caught_at}
use Rattle.ariadne_matchers.specs.MatchedRows.{texts}
use Rattle.ariadne_matching.specs.SettledLines.{repeated_texts, IsReportAt, IsToldAgain}
use Rattle.ariadne_matching.specs.TriedMatchers.{renumbered}
use Rattle.ariadne_matching.specs.declared.matchers.Matchers.{Matchers}
use Rattle.ariadne_matching.proofs.Telling.{texts_more, told_again}
use Rattle.ariadne_matching.proofs.Tried.{same_place}
use Rattle.ariadne_matching.proofs.reading.LineReader.told_again.Goals as goal

-- a loop goes on
pub returns-in-Fits : goal.returns-in-Fits
returns-in-Fits g c =
    let after = c.fit.new.self in
    let place = c.args.place in
    let front = c.args.front.now in
    let line = c.args.line.now in
    let fit = c.in-Fits.fit in
    let rows = c.as_slice.result.now in
    let same : texts rows ≡ repeated_texts front line =
    ap texts (c.as_slice.ensures.value ∙ c.in_ok-push.ensures.items)
    ∙ texts_more c.in_ok-texts.texts.items c.as_str.result front line c.in_ok-texts.ensures c.as_str.ensures.value in
    let count : length fit.lines.items ≡ length rows =
    omega (arith, c.if-len.true, c.len.ensures, c.len-then-is.ensures, fit.lines.ok.0, c.push.new.self.ok.0, ap length c.as_slice.ensures.value) in
    let here : c.in-Fits.found ≡ place = same_place c.in-Fits.found place (sym c.is.ensures ∙ c.if-is.true) in
    subst (λ (m : Matchers). IfOk c.report_line.result (λ report. IfSome report (λ it. IsToldAgain m place front line (string_bytes it))))
    (sym c.report_line.ensures.same)
    (IfOk-weaker c.report_line.result
    (λ (report : Option (String Global)). IfSome report (λ it. IsReportAt after (renumbered place fit.entry) (map caught_at fit.lines.items) (string_bytes it)))
    (λ (report : Option (String Global)). IfSome report (λ it. IsToldAgain after place front line (string_bytes it)))
    (λ report own. told_again after place c.in-Fits.found fit c.in_ok-found.field-0 front line rows report c.in_ok-found.ensures.fits c.in-Fits.is
    c.in_ok-found.ensures.numbered here same count own)
    c.report_line.ensures.report)
