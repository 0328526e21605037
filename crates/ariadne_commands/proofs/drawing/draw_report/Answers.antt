-- The status tells what the output got, by the words.
use Rattle.std.proofs.Common.{ap}
use Rattle.std.specs.Option.{option_copied}
use Rattle.ariadne_commands.proofs.Ending.{ended_by_words, ended_over}
use Rattle.ariadne_commands.proofs.drawing.draw_report.Goals as goal

pub returns-in-Err-clause-ended : goal.returns-in-Err-clause-ended
returns-in-Err-clause-ended g c = rw c.tell_fault.ensures (ended_by_words _ _ _ _ c.in-Err.fault c.in-Err.ensures)

pub returns-in-Some-clause-ended : goal.returns-in-Some-clause-ended
returns-in-Some-clause-ended g c = ended_over _ _ _ _ _ _ _ _ c.in-Ok.ensures (ap option_copied c.in-Some.is) c.draw_file.ensures

pub returns-clause-ended : goal.returns-clause-ended
returns-clause-ended g c = ended_over _ _ _ _ _ _ _ _ c.in-Ok.ensures (ap option_copied c.in-None.is) c.draw_input.ensures
