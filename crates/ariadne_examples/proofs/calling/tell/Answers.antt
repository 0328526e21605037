-- What `write` promises of a report that is drawn whole.
use Rattle.ariadne_examples.proofs.DrawnWhole.{promised}
use Rattle.ariadne_examples.proofs.calling.tell.Goals as goal

pub returns-clause-complete : goal.returns-clause-complete
returns-clause-complete g c =
    (promised c.args.text.now c.args.place c.requires.forward c.requires.within _ _ _ _ _ _ c.in_ok-report.ensures c.in_ok-source.ensures
    c.write-2.ensures.grows c.write-2.ensures.written).0

pub returns-clause-sent : goal.returns-clause-sent
returns-clause-sent g c =
    (promised c.args.text.now c.args.place c.requires.forward c.requires.within _ _ _ _ _ _ c.in_ok-report.ensures c.in_ok-source.ensures
    c.write-2.ensures.grows c.write-2.ensures.written).1

pub returns-clause-read : goal.returns-clause-read
returns-clause-read g c =
    (promised c.args.text.now c.args.place c.requires.forward c.requires.within _ _ _ _ _ _ c.in_ok-report.ensures c.in_ok-source.ensures
    c.write-2.ensures.grows c.write-2.ensures.written).2
