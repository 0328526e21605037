use Rattle.ariadne_picture.proofs.Rows.RowOrder.{before-irreflexive, before-chain, rows-ordered}
use Rattle.ariadne_picture.proofs.laws.rows_stand_in_order.Goals as goal

pub returns-clause-increasing : goal.returns-clause-increasing
returns-clause-increasing c = rows-ordered

pub returns-clause-not_itself : goal.returns-clause-not_itself
returns-clause-not_itself c = before-irreflexive

pub returns-clause-chain : goal.returns-clause-chain
returns-clause-chain c = before-chain
