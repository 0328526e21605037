-- What was written is the picture of all offences, or its first bytes.
use Rattle.std.proofs.Common.{rules}
use Rattle.ariadne.specs.Files.{by_text}
use Rattle.ariadne_commands.proofs.LintWriting.{outcomes_after, wrote_part, wrote_whole}
use Rattle.ariadne_commands.proofs.linting.write_offences.Goals as goal
use Rattle.ariadne_commands.proofs.linting.write_offences.Goals.{in-Ok, in-Err-Memory, in-Err-Io}

-- what was found is still so
pub returns-clause-outcomes : goal.returns-clause-outcomes
returns-clause-outcomes g c = outcomes_after _ _ c.requires.report _ _ c.requires.found c.write.ensures.grows

-- each result tells what was written
pub returns-clause-wrote : goal.returns-clause-wrote
returns-clause-wrote g c = elim c.match-write.branch [
  | in-Ok w ↦ rw w.result-is (wrote_whole _ _ c.requires.report _ _ c.requires.found c.write.ensures.grows _ _ _ w.in-Ok.ensures.written)
  | in-Err-Memory w ↦ rw w.result-is (search rules)
  | in-Err-Io w ↦
      let part = rw w.in-Err-Io.field-0-is at w.in-Err-Io.ensures.written in
      rw w.result-is (wrote_part c.args.checked.now c.args.report.now c.requires.report (by_text c.args.cache.now) (by_text c.write.new.cache)
      c.requires.found c.write.ensures.grows _ _ w.in-Err-Io.sent part)
]
