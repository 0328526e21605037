-- What was sent is the picture of texts that hide nothing.
use Rattle.ariadne_safe.proofs.ShownReports.{hidden_none, safely}
use Rattle.ariadne_safe.proofs.report.SafeReport.write.Goals as goal

pub returns-clause-written : goal.returns-clause-written
returns-clause-written g c =
    let new = c.write.new.cache.now.sources.items in
    record {
      new = new;
      grown = record { naming = c.write.ensures.naming; grows = c.write.ensures.grows };
      safe = safely new c.args.self.now.report c.args.self.now.texts_are_shown;
      written = c.write.ensures.written;
    }

pub returns-clause-hides : goal.returns-clause-hides
returns-clause-hides g c =
    hidden_none c.args.self.now.sources.now.sources.items c.write.new.cache.now.sources.items c.args.self.now.report _ _ c.write.result
    c.args.self.now.texts_are_shown c.write.ensures.written
