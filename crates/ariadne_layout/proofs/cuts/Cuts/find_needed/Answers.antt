use Rattle.std.proofs.Common.{◌++◌, ap, option_to_list}
use Rattle.std.proofs.lemmas.Result.{on_ok_weaker}
use Rattle.ariadne_picture.specs.Columns.{shown}
use Rattle.ariadne_layout.specs.declared.cuts.Cuts.{Cuts}
use Rattle.ariadne_layout.proofs.JoinedParts.{places-needed, spans-needed}
use Rattle.ariadne_layout.proofs.cuts.Cuts.find_needed.Goals as goal

-- the spans fit
pub returns-then-fits-clause-needed : goal.returns-then-fits-clause-needed
returns-then-fits-clause-needed c =
    let y = c.args.layout.now in
    let s = c.args.switches.now in
    spans-needed s y.offset (option_to_list y.margin ++ y.labels) (shown y) c.push_needed.new.list.items _ c.in_ok-fits.fits
    c.in_ok-push_needed.ensures.needed (ap (λ (q : Cuts). q.needed.items) c.in_ok-fits.ensures.others)
    (c.in_ok-fits.ensures.fits (shown y) c.requires.counted c.requires.len) c.if-fits.true

-- they don't
pub returns-clause-needed : goal.returns-clause-needed
returns-clause-needed c =
    let y = c.args.layout.now in
    let s = c.args.switches.now in
    on_ok_weaker c.push_needed-2.result
    (places-needed s y.offset (option_to_list y.margin ++ y.labels) (shown y) c.push_needed.new.list.items _ c.in_ok-fits.fits
    c.in_ok-push_needed.ensures.needed (c.in_ok-fits.ensures.fits (shown y) c.requires.counted c.requires.len) c.if-fits.false)
    c.push_needed-2.ensures.needed
