-- What was sent is the picture.
use Rattle.ariadne.proofs.report.Report.write.Goals as goal

pub returns-clause-written : goal.returns-clause-written
returns-clause-written g c =
    record { bytes = _; picture = c.in_ok-picture.ensures.drawn; sent = rw c.as_bytes.ensures.value at c.in_ok-send.ensures }
