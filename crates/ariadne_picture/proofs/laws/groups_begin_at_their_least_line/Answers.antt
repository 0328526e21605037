use Rattle.ariadne_picture.proofs.Labels.GroupLines.{starts-least, start-reached}
use Rattle.ariadne_picture.proofs.laws.groups_begin_at_their_least_line.Goals as goal

pub returns-clause-least : goal.returns-clause-least
returns-clause-least c group a there = starts-least group a there

pub returns-clause-reached : goal.returns-clause-reached
returns-clause-reached c group a there rises = start-reached group a there rises
