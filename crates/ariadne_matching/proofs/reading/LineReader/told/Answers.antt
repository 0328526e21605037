use Rattle.std.proofs.Common.{◌∙◌, ap, map, subst, sym, IfSome, Option}
use Rattle.ariadne_matchers.specs.MatchedRows.{texts}
use Rattle.ariadne_matching.specs.HandedOver.{text_in}
use Rattle.ariadne_matching.specs.SettledLines.{IsReportOfFit}
use Rattle.ariadne_matching.specs.TriedMatchers.{foremost, renumbered, IsReached}
use Rattle.ariadne_matching.specs.declared.matchers.EntryAt.{EntryAt}
use Rattle.ariadne_matching.specs.declared.reading.Report.{Report}
use Rattle.ariadne_matching.proofs.Telling.{reached_next, told_nothing, told_open, told_report}
use Rattle.ariadne_matching.proofs.reading.LineReader.told.Goals as goal

-- the first one is tried
pub loop-init : goal.loop-init
loop-init g c = foremost

-- none is left
pub returns-in-Nothing : goal.returns-in-Nothing
returns-in-Nothing g c =
    told_nothing c.loop.self.matchers c.fit.new.self c.args.is_all c.args.lines.now c.as_slice.result.now c.loop.from c.in_ok-fit.field-0
    c.in_ok-fit.ensures.kept (ap texts c.as_slice.ensures.value ∙ c.in_ok-texts.ensures) c.loop.invariant c.in_ok-fit.ensures.fits c.in-Nothing.is

-- the next line tells
pub returns-in-Open : goal.returns-in-Open
returns-in-Open g c =
    told_open c.loop.self.matchers c.fit.new.self c.args.is_all c.args.lines.now c.as_slice.result.now c.loop.from c.in_ok-fit.field-0
    c.in_ok-fit.ensures.kept (ap texts c.as_slice.ensures.value ∙ c.in_ok-texts.ensures) c.loop.invariant c.in_ok-fit.ensures.fits _ c.in-Open.is

-- what an entry tells that fits them
pub returns-in-Some : goal.returns-in-Some
returns-in-Some g c =
    let place = c.in-Fits.place in
    let fit = c.in-Fits.fit in
    told_report c.loop.self.matchers c.fit.new.self c.args.is_all c.args.lines.now c.as_slice.result.now c.loop.from c.in_ok-fit.field-0
    c.in_ok-fit.ensures.kept (ap texts c.as_slice.ensures.value ∙ c.in_ok-texts.ensures) c.loop.invariant c.in_ok-fit.ensures.fits
    place fit c.in-Fits.is c.report.new.self.matchers c.in_ok-report-in-Fits.ensures.same c.in-Some.report c.in_ok-fit.ensures.numbered
    (subst (λ (report : Option Report). IfSome report (IsReportOfFit c.fit.new.self (renumbered place fit.entry) c.args.lines.now fit))
    c.in-Some.is c.in_ok-report-in-Fits.ensures.report)

-- one that fits them is passed over
pub loop-preserved : goal.loop-preserved
loop-preserved g c =
    subst (λ (at : EntryAt). IsReached c.report.new.self.matchers c.args.is_all (map text_in c.args.lines.now) at) (sym c.next-from.ensures)
    (reached_next c.loop.self.matchers c.fit.new.self c.args.is_all c.args.lines.now c.as_slice.result.now c.loop.from c.in_ok-fit.field-0
    c.in_ok-fit.ensures.kept (ap texts c.as_slice.ensures.value ∙ c.in_ok-texts.ensures) c.loop.invariant c.in_ok-fit.ensures.fits
    c.in-Fits.place c.in-Fits.fit c.in-Fits.is c.report.new.self.matchers c.in_ok-report-in-Fits.ensures.same)
