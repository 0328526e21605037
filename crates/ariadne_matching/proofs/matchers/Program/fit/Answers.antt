use Rattle.ariadne_matching.proofs.Tried.{on_ok, read_kept}
use Rattle.ariadne_matching.proofs.matchers.Program.fit.Goals as goal

-- the entries that were read stay
pub returns-clause-kept : goal.returns-clause-kept
returns-clause-kept c =
    on_ok c.fit-fitting.result _
    (read_kept c.args.self.now.reader c.may_begin.new.self.reader c.in_ok-reader.reader c.fit-fitting.new.self c.may_begin.ensures.reader
    c.in_ok-reader.ensures.reader c.fit-fitting.ensures.same)
